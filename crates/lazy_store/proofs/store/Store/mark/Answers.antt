use Rattle.std.proofs.Common.{List, ℕ, ap, sym, ◌∙◌}
use Rattle.lazy_law.specs.Insertion.{has_number}
use Rattle.lazy_law.specs.Placed.{Placed}
use Rattle.lazy_law.specs.Stands.{IsWithin as TestedUpTo}
use Rattle.lazy_store.specs.Members.{placed_in}
use Rattle.lazy_store.specs.Changes.{moved}
use Rattle.lazy_store.proofs.Splits.{none_found}
use Rattle.lazy_store.proofs.Sweeps.{holds_found, marks_within, moved_all, only_it, unswept_others}
use Rattle.lazy_store.proofs.store.Store.mark.Goals as goal

pub returns-in-None : goal.returns-in-None
returns-in-None c =
    sym (ap (λ (objects : List Placed). record c.args.self.now { objects = objects })
    (unswept_others c.args.number c.args.self.now.issued c.args.self.now.objects (none_found (has_number c.args.number) c.args.self.now.objects (sym c.in-None.ensures.found))))

pub move_to-requires-clause-place : goal.move_to-requires-clause-place
move_to-requires-clause-place c =
    (holds_found (TestedUpTo c.args.self.now.issued) (has_number c.args.number) c.args.self.now.objects (placed_in c.in-Some.item.now) c.issued-mark.ensures.within (sym c.in-Some.ensures.found)).place

pub move_to-requires-clause-later : goal.move_to-requires-clause-later
move_to-requires-clause-later c =
    marks_within c.args.number c.args.self.now.issued c.issued-mark.result c.args.self.now.objects c.issued-mark.ensures.within c.issued-mark.ensures.count

pub returns : goal.returns
returns c =
    c.move_to.ensures
    ∙ ap (λ (mark : ℕ). moved c.args.number (record { place = c.in-Some.item.now.payload.stand.place; mark = mark }) c.args.self.now) c.issued-mark.ensures.count
    ∙ sym (ap (λ (objects : List Placed). record c.args.self.now { objects = objects })
    (moved_all c.args.number c.args.self.now.issued (placed_in c.in-Some.item.now) c.args.self.now.objects
    (only_it c.args.number (placed_in c.in-Some.item.now) c.args.self.now.objects c.in-Some.ensures.apart (sym c.in-Some.ensures.found))))
