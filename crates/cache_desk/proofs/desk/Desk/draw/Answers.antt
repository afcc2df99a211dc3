use Rattle.std.proofs.Common.{rules, refl}
use Rattle.cache_desk.proofs.Replies.{draws_not, draws}
use Rattle.cache_desk.proofs.desk.Desk.draw.Goals as goal

pub returns-then-not-has_round : goal.returns-then-not-has_round
returns-then-not-has_round c = rw (← c.self.view_is) (draws_not _ _ _ _ (search rules) refl refl)

pub returns : goal.returns
returns c = rw (← c.self.view_is) (draws _ _ _ _ (search rules) refl refl)
