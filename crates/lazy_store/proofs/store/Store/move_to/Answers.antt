use Rattle.std.proofs.Common.{◌≡◌, List, ap, sym, ◌∙◌, subst}
use Rattle.std.specs.Prelude.{◌≤◌, true}
use Rattle.std.specs.List.{AllByRecursion}
use Rattle.ban_list.specs.Bans.{entered}
use Rattle.lazy_law.specs.Placed.{Lazy, Placed}
use Rattle.lazy_law.specs.Insertion.{has_number}
use Rattle.lazy_store.specs.Found.{found_in}
use Rattle.lazy_store.specs.Members.{Member, at_number, lazy_of}
use Rattle.lazy_store.specs.Changes.{moved}
use Rattle.lazy_store.proofs.Changes.{none_moved, none_of}
use Rattle.lazy_store.proofs.Findings.{lazy_tested, may_go, tied_tested}
use Rattle.lazy_store.proofs.store.Store.move_to.Goals as goal

pub returns-in-None : goal.returns-in-None
returns-in-None c =
    sym c.self.view_is
    ∙ none_moved c.args.number c.args.stand c.self.inside.heads c.self.inside.bans (none_of found_in (at_number c.args.number c.self.inside.heads) c.in-None.ensures)
    ∙ ap (moved c.args.number c.args.stand) c.self.view_is

pub depart-requires-clause-place : goal.depart-requires-clause-place
depart-requires-clause-place c =
    (may_go c.args.number c.in-Some.found c.self.inside.heads c.self.inside.tagged c.self.inside.room c.self.inside.bans c.self.inside.newest c.self.inside.unswept c.self.invariant c.in-Some.ensures).0

pub depart-requires-clause-mark : goal.depart-requires-clause-mark
depart-requires-clause-mark c =
    (may_go c.args.number c.in-Some.found c.self.inside.heads c.self.inside.tagged c.self.inside.room c.self.inside.bans c.self.inside.newest c.self.inside.unswept c.self.invariant c.in-Some.ensures).1

pub invariant_of-self : goal.invariant_of-self
invariant_of-self c =
    rw (c.with_mark-self-inside.ensures, c.set_payload.ensures, c.enter.ensures, c.depart.ensures)
    (tied_tested c.args.number c.in-Some.found c.self.inside.heads c.self.inside.tagged c.self.inside.room c.self.inside.bans c.self.inside.newest c.self.inside.unswept c.args.stand c.self.invariant c.in-Some.ensures
    (subst (λ (lazy : Lazy). c.args.stand.place ≤ lazy.issued) (sym c.self.view_is) c.requires.place)
    (subst (λ (lazy : Lazy). c.args.stand.mark ≤ lazy.issued) (sym c.self.view_is) c.requires.mark)
    (subst (λ (lazy : Lazy). AllByRecursion (λ (p : Placed). has_number c.args.number p ≡ true → p.mark ≤ c.args.stand.mark) lazy.objects) (sym c.self.view_is) c.requires.later))

pub returns : goal.returns
returns c =
    ap (λ (members : List Member). lazy_of members c.enter.new.self) c.set_payload.ensures
    ∙ ap (lazy_of _) (c.enter.ensures ∙ ap (entered c.args.stand.place c.args.stand.mark) c.depart.ensures)
    ∙ lazy_tested c.args.number c.in-Some.found c.self.inside.heads c.self.inside.tagged c.self.inside.room c.self.inside.bans c.self.inside.newest c.self.inside.unswept c.args.stand c.self.invariant c.in-Some.ensures
    ∙ ap (moved c.args.number c.args.stand) c.self.view_is
