use Rattle.cache_law.proofs.Segmenting.{never_full}
use Rattle.cache_law.proofs.base_laws.whole_histories_are_not_full.Goals as goal

pub returns : goal.returns
returns c = λ params state entries caller call unsegmented. never_full params state entries caller call unsegmented
