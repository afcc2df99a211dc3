use Rattle.std.proofs.Common.{◌≡◌}
use Rattle.turnstile.proofs.lock.Turnstile.look_asleep.Given as goal

abbrev pub invariant-looks : goal.invariant-looks
invariant-looks g l = (l.seat.table_id ≡ l.fn.seat.table_id) × (l.seat.me ≡ l.fn.seat.me)
