use Rattle.std.proofs.Common.{rules, refl}
use Rattle.cache_desk.specs.Desk.{bare}
use Rattle.cache_desk.specs.contracts.desk.Desk.{the_view}
use Rattle.cache_desk.proofs.Replies.{sets_health, sets_no_health}
use Rattle.cache_desk.proofs.desk.Desk.set_health.Goals as goal

pub returns-then-not-has_backend-clause-ok : goal.returns-then-not-has_backend-clause-ok
returns-then-not-has_backend-clause-ok c = rw (← c.self.view_is) (sets_no_health (bare (the_view c.self.inside)) _ _ _ _ (search rules) refl refl)

pub returns-clause-ok : goal.returns-clause-ok
returns-clause-ok c = rw (← c.self.view_is) (sets_health (bare (the_view c.self.inside)) _ _ _ _ _ (search rules) (search rules) refl refl)
