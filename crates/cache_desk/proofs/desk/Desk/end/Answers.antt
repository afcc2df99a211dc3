use Rattle.std.proofs.Common.{rules, refl}
use Rattle.cache_desk.proofs.Replies.{ends_not, ends}
use Rattle.cache_desk.proofs.desk.Desk.end.Goals as goal

pub returns-then-not-has_round : goal.returns-then-not-has_round
returns-then-not-has_round c =
    rw (← c.self.view_is) (ends_not _ _ _ _ (search rules) refl refl)

pub returns : goal.returns
returns c =
    rw (← c.self.view_is) (ends _ _ _ _ _ _ _ (search rules) (search rules) (search rules) (search rules) refl refl)
