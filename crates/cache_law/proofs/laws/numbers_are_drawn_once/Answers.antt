use Rattle.cache_law.proofs.Drawing.{draws_rise}
use Rattle.cache_law.proofs.laws.numbers_are_drawn_once.Goals as goal

pub returns : goal.returns
returns c = draws_rise
