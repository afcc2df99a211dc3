use Rattle.object_heads.proofs.MemberLemmas.{is_newest_before, newest_kept, newest_shown, sorted_shown}
use Rattle.object_heads.proofs.heads.Heads.is_newest.Goals as goal

pub returns-in-Some-clause-newest : goal.returns-in-Some-clause-newest
returns-in-Some-clause-newest g c =
    let both = is_newest_before c.args.handle c.self.inside.items.entries c.in-Some.newest.now c.in-Some.field-0-1.now c.self.invariant.ordered c.in-Some.ensures.first in
    rw (← c.self.view_is) (λ e. newest_shown c.args.handle c.self.inside.items.entries (both.0 e), λ newest. both.1 (newest_kept c.args.handle c.self.inside.items.entries newest))

pub returns-in-Some-clause-in_order : goal.returns-in-Some-clause-in_order
returns-in-Some-clause-in_order g c = rw (← c.self.view_is) (sorted_shown c.self.inside.items.entries c.self.invariant.ordered)

pub returns-in-None-clause-in_order : goal.returns-in-None-clause-in_order
returns-in-None-clause-in_order g c = rw (← c.self.view_is) (sorted_shown c.self.inside.items.entries c.self.invariant.ordered)
