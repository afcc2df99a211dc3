use Rattle.std.proofs.Common.{◌≡◌, ◌++◌, drop, filter_map}
use Rattle.lazy_store.specs.Numbered.{number_at, numbers_at}
use Rattle.lazy_store.proofs.numbering.numbers_at.Given as goal

abbrev pub invariant-loop-handle : goal.invariant-loop-handle
invariant-loop-handle l = l.numbers.items ++ filter_map (number_at l.heads) (drop l.handle-index l.handles) ≡ numbers_at l.heads l.handles
