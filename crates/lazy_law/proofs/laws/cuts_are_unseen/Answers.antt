use Rattle.lazy_law.proofs.Cutting.{cut_at}
use Rattle.lazy_law.proofs.laws.cuts_are_unseen.Goals as goal

pub returns : goal.returns
returns c = λ beginning entries lazy left may at. cut_at left lazy beginning entries may at
