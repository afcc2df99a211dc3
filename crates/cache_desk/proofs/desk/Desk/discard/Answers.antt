use Rattle.std.proofs.Common.{rules, refl}
use Rattle.cache_desk.specs.Desk.{bare}
use Rattle.cache_desk.specs.contracts.desk.Desk.{the_view}
use Rattle.cache_desk.proofs.Replies.{discards, discards_none, discards_not}
use Rattle.cache_desk.proofs.desk.Desk.discard.Goals as goal

pub returns-in-None : goal.returns-in-None
returns-in-None c = rw (← c.self.view_is) (discards_none (bare (the_view c.self.inside)) _ _ _ (search rules) refl refl)

pub returns-then-number-deref : goal.returns-then-number-deref
returns-then-number-deref c =
    rw (← c.self.view_is) (discards_not (bare (the_view c.self.inside)) _ _ c.in-Some.found.now _ (search rules) (search rules) refl refl)

pub returns : goal.returns
returns c =
    rw (← c.self.view_is) (discards (bare (the_view c.self.inside)) _ _ c.in-Some.found.now _ _ (search rules) (search rules) (search rules) refl refl)
