use Rattle.lazy_insert.proofs.Unseen.{tidied_at}
use Rattle.lazy_insert.proofs.laws.tidied_ones_are_unseen.Goals as goal

pub returns : goal.returns
returns c = λ beginning entries old new tidied at. tidied_at beginning entries old new tidied at
