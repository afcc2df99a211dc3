use Rattle.std.proofs.Common.{rules, refl}
use Rattle.cache_desk.specs.Desk.{bare}
use Rattle.cache_desk.specs.contracts.desk.Desk.{the_view}
use Rattle.cache_desk.proofs.Replies.{switches, switches_not}
use Rattle.cache_desk.proofs.desk.Desk.switch.Goals as goal

pub returns-in-None-clause-ok : goal.returns-in-None-clause-ok
returns-in-None-clause-ok c = rw (← c.self.view_is) (switches_not (bare (the_view c.self.inside)) _ _ _ (search rules) refl refl)

pub returns-clause-ok : goal.returns-clause-ok
returns-clause-ok c = rw (← c.self.view_is) (switches (bare (the_view c.self.inside)) _ _ c.in-Some.found.now _ _ (search rules) (search rules) refl refl)
