use Rattle.std.proofs.Common.{rules, refl}
use Rattle.cache_desk.proofs.Replies.{begins_not, begins}
use Rattle.cache_desk.proofs.desk.Desk.begin.Goals as goal

pub returns-then-has_round-clause-ok : goal.returns-then-has_round-clause-ok
returns-then-has_round-clause-ok c =
    rw (← c.self.view_is) (begins_not _ _ _ _ (search rules) refl refl)

pub returns-clause-ok : goal.returns-clause-ok
returns-clause-ok c =
    rw (← c.self.view_is) (begins _ _ _ _ _ (search rules) (search rules) (search rules) (search rules))
