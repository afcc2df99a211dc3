use Rattle.std.proofs.Common.{List, ap, sym, ◌∙◌, subst}
use Rattle.lazy_law.specs.Placed.{Lazy}
use Rattle.lazy_store.specs.Found.{found_in}
use Rattle.lazy_store.specs.Members.{Member, at_number, lazy_of}
use Rattle.lazy_store.specs.Uses.{AreUsedBefore, used_at}
use Rattle.lazy_store.proofs.Again.{latest_there, lazy_used, none_used, tied_used}
use Rattle.lazy_store.proofs.Changes.{none_of}
use Rattle.lazy_store.proofs.store.Store.use_at.Goals as goal

pub returns-in_default-clause-ok : goal.returns-in_default-clause-ok
returns-in_default-clause-ok c =
    sym c.self.view_is
    ∙ none_used c.args.number c.args.used c.self.inside.heads c.self.inside.bans (none_of found_in (at_number c.args.number c.self.inside.heads) c.in_default.ensures)
    ∙ ap (used_at c.args.used c.args.number) c.self.view_is

pub move_use-requires : goal.move_use-requires
move_use-requires c =
    latest_there c.args.used c.self.inside.room c.self.inside.heads c.self.invariant.room_ (subst (λ (lazy : Lazy). AreUsedBefore c.args.used lazy.objects) (sym c.self.view_is) c.requires)

pub invariant_of-self-2 : goal.invariant_of-self-2
invariant_of-self-2 c =
    rw (c.set_payload.ensures, c.in_ok-move_use.ensures.ok)
    (tied_used c.args.number c.self.inside.heads c.self.inside.tagged c.self.inside.room c.self.inside.bans c.self.inside.newest c.self.inside.unswept c.in-Some.found c.args.used c.self.invariant
    c.in-Some.ensures (subst (λ (lazy : Lazy). AreUsedBefore c.args.used lazy.objects) (sym c.self.view_is) c.requires))

pub returns-clause-ok : goal.returns-clause-ok
returns-clause-ok c =
    ap (λ (members : List Member). lazy_of members c.self.inside.bans) c.set_payload.ensures
    ∙ lazy_used c.args.number c.self.inside.heads c.self.inside.tagged c.self.inside.room c.self.inside.bans c.self.inside.newest c.self.inside.unswept c.in-Some.found c.args.used c.self.invariant
    c.in-Some.ensures
    ∙ ap (used_at c.args.used c.args.number) c.self.view_is
