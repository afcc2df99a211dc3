use Rattle.std.proofs.Common.{◌≤◌, ◌<◌, ◌-◌, ◌^◌}
use Rattle.std.specs.List.{AllByRecursion}
use Rattle.lazy_store.specs.Members.{Member, handle_of, stand_of}
use Rattle.lazy_store.proofs.finding.waiting_from.Given as goal

abbrev pub invariant-loop-next : goal.invariant-loop-next
invariant-loop-next l = AllByRecursion (λ (m : Member). l.handle ≤ handle_of m → handle_of m < l.from → l.newest ≤ (stand_of m).mark) l.heads

abbrev pub decreases-loop-next : goal.decreases-loop-next
decreases-loop-next l = 2 ^ 64 - l.from
