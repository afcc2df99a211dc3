use Rattle.std.proofs.Common.{◌≡◌, ◌≤◌, filter, length, take}
use Rattle.lazy_store.specs.Numbered.{is_alive_at}
use Rattle.lazy_store.proofs.store.Store.count_alive.Given as goal

abbrev pub invariant-loop-number : goal.invariant-loop-number
invariant-loop-number l = record { counted : l.count ≡ length (filter (is_alive_at l.moment l.self) (take l.number-index l.numbers)); few : l.count ≤ l.number-index }
