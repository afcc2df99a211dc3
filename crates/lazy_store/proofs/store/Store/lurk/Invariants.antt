use Rattle.std.proofs.Common.{◌≡◌, ◌+◌}
use Rattle.lazy_law.specs.Sweeping.{count_unswept}
use Rattle.lazy_store.specs.Lurking.{AreSwept}
use Rattle.lazy_store.proofs.store.Store.lurk.Given as goal

abbrev pub invariant-loop-swept : goal.invariant-loop-swept
invariant-loop-swept l = record { fewer : count_unswept l.self + l.swept ≡ count_unswept l.fn.self; only : AreSwept l.fn.self l.self }
