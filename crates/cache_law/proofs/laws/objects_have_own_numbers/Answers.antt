use Rattle.cache_law.proofs.Sound.{own_numbers}
use Rattle.cache_law.proofs.laws.objects_have_own_numbers.Goals as goal

pub returns : goal.returns
returns c = own_numbers
