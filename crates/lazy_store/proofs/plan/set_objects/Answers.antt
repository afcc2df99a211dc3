use Rattle.std.proofs.Common.{ℕ, List, ap, sym, ◌∙◌, subst}
use Rattle.cache_law.specs.declared.object.Object.{Object}
use Rattle.lazy_store.specs.Members.{Member}
use Rattle.lazy_store.specs.Softening.{FitIn, FitsIn, with_objects}
use Rattle.lazy_store.proofs.Softens.{all_push, fit_changed, looked_fits, with_objects_push}
use Rattle.lazy_store.proofs.plan.set_objects.Goals as goal

pub set_object-requires : goal.set_object-requires
set_object-requires c =
    let split = all_push (FitsIn c.objects.heads) c.pop.new.self.items (c.in-Some.handle, c.in-Some.object) (subst (FitIn c.objects.heads) c.in-Some.ensures.items c.objects.invariant.fit) in
    looked_fits (c.in-Some.handle, c.in-Some.object) c.objects.heads split.1

pub objects-preserved : goal.objects-preserved
objects-preserved c =
    let split = all_push (FitsIn c.objects.heads) c.pop.new.self.items (c.in-Some.handle, c.in-Some.object) (subst (FitIn c.objects.heads) c.in-Some.ensures.items c.objects.invariant.fit) in
    record {
      same = ap (with_objects c.pop.new.self.items) c.set_object.ensures
          ∙ sym (with_objects_push c.pop.new.self.items (c.in-Some.handle, c.in-Some.object) c.objects.heads)
          ∙ ap (λ (os : List (ℕ × Object)). with_objects os c.objects.heads) (sym c.in-Some.ensures.items)
          ∙ c.objects.invariant.same;
      fit = subst (λ (ms : List Member). FitIn ms c.pop.new.self.items) (sym c.set_object.ensures)
          (fit_changed c.pop.new.self.items (c.in-Some.handle, c.in-Some.object) c.objects.heads split.0 split.1);
    }
