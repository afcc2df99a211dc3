use Rattle.std.proofs.Common.{◌≡◌, filter, take}
use Rattle.lazy_store.specs.Numbered.{is_alive_at}
use Rattle.lazy_store.specs.Softening.{is_dead_at}
use Rattle.lazy_store.proofs.store.Store.fates_of.Given as goal

abbrev pub invariant-loop-number : goal.invariant-loop-number
invariant-loop-number l = record {
  alive : l.fates.alive.items ≡ filter (is_alive_at l.moment l.self) (take l.number-index l.numbers);
  dead : l.fates.dead.items ≡ filter (is_dead_at l.moment l.self) (take l.number-index l.numbers);
}
