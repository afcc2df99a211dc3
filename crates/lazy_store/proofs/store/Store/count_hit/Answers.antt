use Rattle.std.proofs.Common.{List, ap, sym, ◌∙◌}
use Rattle.lazy_store.specs.Found.{found_in}
use Rattle.lazy_store.specs.Members.{Member, at_number, lazy_of}
use Rattle.lazy_store.specs.Uses.{with_hit}
use Rattle.lazy_store.proofs.Again.{lazy_hit, none_hit, tied_hit}
use Rattle.lazy_store.proofs.Changes.{none_of}
use Rattle.lazy_store.proofs.store.Store.count_hit.Goals as goal

pub invariant_of-self : goal.invariant_of-self
invariant_of-self c =
    rw (c.count_hit.ensures)
    (tied_hit c.args.number c.self.inside.heads c.self.inside.tagged c.self.inside.room c.self.inside.bans c.self.inside.newest c.self.inside.unswept c.in-Some.found c.self.invariant c.in-Some.ensures)

pub returns-in-Some : goal.returns-in-Some
returns-in-Some c =
    ap (λ (members : List Member). lazy_of members c.self.inside.bans) c.count_hit.ensures
    ∙ lazy_hit c.args.number c.self.inside.heads c.self.inside.tagged c.self.inside.room c.self.inside.bans c.self.inside.newest c.self.inside.unswept c.in-Some.found c.self.invariant c.in-Some.ensures
    ∙ ap (with_hit c.args.number) c.self.view_is

pub returns-in_default : goal.returns-in_default
returns-in_default c =
    sym c.self.view_is
    ∙ none_hit c.args.number c.self.inside.heads c.self.inside.bans (none_of found_in (at_number c.args.number c.self.inside.heads) c.in_default.ensures)
    ∙ ap (with_hit c.args.number) c.self.view_is
