use Rattle.std.proofs.Common.{◌≡◌, ◌++◌, drop, filter_map}
use Rattle.lazy_store.specs.Softening.{ending_at, endings_at, object_at, objects_at}
use Rattle.lazy_store.proofs.plan.plan_for.Given as goal

abbrev pub invariant-loop-number : goal.invariant-loop-number
invariant-loop-number l = record {
  endings : l.plan.endings.items ++ filter_map (ending_at l.moment l.heads) (drop l.number-index l.numbers) ≡ endings_at l.moment l.heads l.numbers;
  objects : l.plan.objects.items ++ filter_map (object_at l.moment l.heads) (drop l.number-index l.numbers) ≡ objects_at l.moment l.heads l.numbers;
}
