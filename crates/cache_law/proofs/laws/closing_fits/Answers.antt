use Rattle.cache_law.proofs.Reserve.{ending_fits}
use Rattle.cache_law.proofs.laws.closing_fits.Goals as goal

pub returns : goal.returns
returns c = ending_fits
