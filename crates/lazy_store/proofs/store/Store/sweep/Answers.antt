use Rattle.std.proofs.Common.{ℕ, ap, sym, ◌∙◌}
use Rattle.lazy_law.specs.Insertion.{has_number}
use Rattle.lazy_law.specs.Stands.{IsWithin as TestedUpTo}
use Rattle.lazy_store.specs.Members.{placed_in}
use Rattle.lazy_store.specs.Changes.{moved}
use Rattle.lazy_store.proofs.Sweeps.{holds_found, marks_within, swept_dead, swept_live, swept_none}
use Rattle.lazy_store.proofs.store.Store.sweep.Goals as goal

pub returns-in-None-clause-ok : goal.returns-in-None-clause-ok
returns-in-None-clause-ok c = sym (swept_none c.args.number c.args.self.now (sym c.in-None.ensures.found))

pub returns-then-branch-clause-ok : goal.returns-then-branch-clause-ok
returns-then-branch-clause-ok c =
    c.remove.ensures
    ∙ sym (swept_dead c.args.number (placed_in c.in-Some.item.now) c.args.self.now c.in-Some.ensures.apart (sym c.in-Some.ensures.found) (sym c.in_ok-is_dead.ensures ∙ c.if-branch.true))

pub move_to-requires-clause-place : goal.move_to-requires-clause-place
move_to-requires-clause-place c =
    (holds_found (TestedUpTo c.args.self.now.issued) (has_number c.args.number) c.args.self.now.objects (placed_in c.in-Some.item.now) c.issued-mark.ensures.within (sym c.in-Some.ensures.found)).place

pub move_to-requires-clause-later : goal.move_to-requires-clause-later
move_to-requires-clause-later c =
    marks_within c.args.number c.args.self.now.issued c.issued-mark.result c.args.self.now.objects c.issued-mark.ensures.within c.issued-mark.ensures.count

pub returns-clause-ok : goal.returns-clause-ok
returns-clause-ok c =
    c.move_to.ensures
    ∙ ap (λ (mark : ℕ). moved c.args.number (record { place = c.in-Some.item.now.payload.stand.place; mark = mark }) c.args.self.now) c.issued-mark.ensures.count
    ∙ sym (swept_live c.args.number (placed_in c.in-Some.item.now) c.args.self.now c.in-Some.ensures.apart (sym c.in-Some.ensures.found) (sym c.in_ok-is_dead.ensures ∙ c.if-branch.false))
