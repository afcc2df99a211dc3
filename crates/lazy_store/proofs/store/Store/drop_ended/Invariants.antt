use Rattle.std.proofs.Common.{◌≡◌, length}
use Rattle.lazy_store.specs.Tidying.{with_timely}
use Rattle.lazy_store.proofs.store.Store.drop_ended.Given as goal

abbrev pub invariant-loop-number : goal.invariant-loop-number
invariant-loop-number l = with_timely l.moment l.self ≡ with_timely l.moment l.fn.self

abbrev pub decreases-loop-number : goal.decreases-loop-number
decreases-loop-number l = length l.self.objects
