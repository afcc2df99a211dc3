use Rattle.cache_law.proofs.Reserve.{dropping_fits}
use Rattle.cache_law.proofs.laws.dropping_fits.Goals as goal

pub returns : goal.returns
returns c = dropping_fits
