use Rattle.std.proofs.Common.{List, ap}
use Rattle.lazy_law.specs.Placed.{Placed}
use Rattle.lazy_law.proofs.Judging.{judged_at, no_more_wait, unasked}
use Rattle.lazy_law.proofs.laws.verdicts_are_unseen.Goals as goal

pub returns-clause-stands : goal.returns-clause-stands
returns-clause-stands c = λ beginning entries lazy verdict is at. judged_at lazy beginning entries verdict is at

pub returns-clause-left : goal.returns-clause-left
returns-clause-left c = λ lazy verdict none_. ap (λ (objects : List Placed). record lazy { objects = objects }) (unasked verdict lazy.objects none_)

pub returns-clause-fewer : goal.returns-clause-fewer
returns-clause-fewer c = λ beginning entries lazy verdict is. no_more_wait lazy beginning entries verdict is
