use Rattle.std.proofs.Common.{◌≡◌, filter_map, take}
use Rattle.lazy_store.specs.Chores.{alone_in}
use Rattle.lazy_store.proofs.errands.issued_above.Given as goal

abbrev pub invariant-loop-at : goal.invariant-loop-at
invariant-loop-at l = l.above ≡ filter_map alone_in (take l.at l.bans.lines)
