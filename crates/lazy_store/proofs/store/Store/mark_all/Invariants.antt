use Rattle.std.proofs.Common.{◌≡◌, take}
use Rattle.lazy_store.specs.Softening.{marked_all}
use Rattle.lazy_store.proofs.store.Store.mark_all.Given as goal

abbrev pub invariant-loop-number : goal.invariant-loop-number
invariant-loop-number l = l.self ≡ marked_all (take l.number-index l.numbers) l.initial.self
