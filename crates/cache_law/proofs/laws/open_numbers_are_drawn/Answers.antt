use Rattle.cache_law.proofs.Sound.{open_is_drawn}
use Rattle.cache_law.proofs.laws.open_numbers_are_drawn.Goals as goal

pub returns : goal.returns
returns c = open_is_drawn
