use Rattle.cache_law.proofs.Numbers.{rises}
use Rattle.cache_law.proofs.laws.numbers_rise.Goals as goal

pub returns : goal.returns
returns c = rises
