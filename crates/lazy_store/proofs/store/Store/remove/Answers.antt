use Rattle.std.proofs.Common.{List, ap, sym, ◌∙◌}
use Rattle.object_heads.specs.Members as heads
use Rattle.lazy_store.specs.Found.{found_in}
use Rattle.lazy_store.specs.Members.{Member, at_number, lazy_of}
use Rattle.lazy_store.specs.Changes.{without}
use Rattle.lazy_store.proofs.Changes.{none_of, none_without}
use Rattle.lazy_store.proofs.Findings.{lazy_gone, may_go, tied_gone}
use Rattle.lazy_store.proofs.store.Store.remove.Goals as goal

pub returns-in-None : goal.returns-in-None
returns-in-None c =
    sym c.self.view_is
    ∙ none_without c.args.number c.self.inside.heads c.self.inside.bans (none_of found_in (at_number c.args.number c.self.inside.heads) c.in-None.ensures)
    ∙ ap (without c.args.number) c.self.view_is

pub depart-requires-clause-place : goal.depart-requires-clause-place
depart-requires-clause-place c =
    (may_go c.args.number c.in-Some.found c.self.inside.heads c.self.inside.tagged c.self.inside.room c.self.inside.bans c.self.inside.newest c.self.inside.unswept c.self.invariant c.in-Some.ensures).0

pub depart-requires-clause-mark : goal.depart-requires-clause-mark
depart-requires-clause-mark c =
    (may_go c.args.number c.in-Some.found c.self.inside.heads c.self.inside.tagged c.self.inside.room c.self.inside.bans c.self.inside.newest c.self.inside.unswept c.self.invariant c.in-Some.ensures).1

pub invariant_of-self : goal.invariant_of-self
invariant_of-self c =
    rw (c.fewer-self-inside.ensures, c.take.ensures.rest, c.take-2.ensures.rest, c.take-3.ensures.rest, c.depart.ensures)
    (tied_gone c.args.number c.in-Some.found c.self.inside.heads c.self.inside.tagged c.self.inside.room c.self.inside.bans c.self.inside.newest c.self.inside.unswept c.self.invariant c.in-Some.ensures)

pub returns : goal.returns
returns c =
    ap (λ (members : List Member). lazy_of members c.depart.new.self) c.take.ensures.rest
    ∙ ap (lazy_of (heads.without c.in-Some.found.handle c.self.inside.heads)) c.depart.ensures
    ∙ lazy_gone c.args.number c.in-Some.found c.self.inside.heads c.self.inside.tagged c.self.inside.room c.self.inside.bans c.self.inside.newest c.self.inside.unswept c.self.invariant c.in-Some.ensures
    ∙ ap (without c.args.number) c.self.view_is
