use Rattle.lazy_law.proofs.Answered.{later_stands}
use Rattle.lazy_law.proofs.laws.time_changes_nothing.Goals as goal

pub returns : goal.returns
returns c = λ lazy state moment less stands. later_stands lazy moment state less stands
