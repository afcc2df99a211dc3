use Rattle.std.proofs.Common.{◌≡◌}
use Rattle.lazy_law.specs.Sweeping.{count_unswept}
use Rattle.lazy_store.specs.Lurking.{AreSwept}
use Rattle.lazy_store.specs.Tidying.{swept_whole}
use Rattle.lazy_store.proofs.store.Store.sweep_all.Given as goal

abbrev pub invariant-loop-number : goal.invariant-loop-number
invariant-loop-number l = record { whole : swept_whole l.self ≡ swept_whole l.fn.self; only : AreSwept l.fn.self l.self }

abbrev pub decreases-loop-number : goal.decreases-loop-number
decreases-loop-number l = count_unswept l.self
