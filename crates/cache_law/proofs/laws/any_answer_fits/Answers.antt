use Rattle.cache_law.proofs.Reserve.{fits_told}
use Rattle.cache_law.proofs.laws.any_answer_fits.Goals as goal

pub returns : goal.returns
returns c = fits_told
