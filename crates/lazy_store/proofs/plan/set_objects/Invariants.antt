use Rattle.std.proofs.Common.{◌≡◌, vec_len}
use Rattle.lazy_store.specs.Softening.{FitIn, with_objects}
use Rattle.lazy_store.proofs.plan.set_objects.Given as goal

abbrev pub invariant-objects : goal.invariant-objects
invariant-objects l = record {
  same : with_objects l.left.items l.heads ≡ with_objects l.initial.left.items l.initial.heads;
  fit : FitIn l.heads l.left.items;
}

abbrev pub decreases-objects : goal.decreases-objects
decreases-objects l = vec_len l.left
