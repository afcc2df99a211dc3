-- The audit was fed what stood at the source's front.
use Rattle.std.proofs.Common.{◌+◌, ◌-◌, ◌^◌, ◌≤◌, ◌≡◌, vec_len}
use Rattle.varn_audit.specs.Reading.{HasFed}
use Rattle.varn_audit.proofs.reading.read_through.Given as goal

abbrev pub invariant-pieces : goal.invariant-pieces
invariant-pieces g l = record {
  fed : HasFed (g.S.Source.left l.fn.source) (g.S.Source.left l.source) l.auditor l.count;
  bound : l.count ≤ 2 ^ 30 + 1;
  room : vec_len l.room ≡ 65536;
  later : g.S.Source.faults l.fn.source ≤ g.S.Source.faults l.source;
}

abbrev pub decreases-pieces : goal.decreases-pieces
decreases-pieces g l = 2 ^ 30 + 1 - l.count
