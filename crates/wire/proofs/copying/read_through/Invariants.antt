-- The bytes so far stood at the source's front.
use Rattle.std.proofs.Common.{◌≡◌, ◌≤◌, ◌+◌, ◌-◌, vec_len}
use Rattle.std.specs.Io.KnownBytes.{Consumes}
use Rattle.wire.proofs.copying.read_through.Given as goal

abbrev pub invariant-loop-room : goal.invariant-loop-room
invariant-loop-room g l = record {
  front : Consumes (g.S.Source.left l.fn.source) (g.S.Source.left l.source) l.bytes.items;
  later : g.S.Source.faults l.fn.source ≤ g.S.Source.faults l.source;
  bound : vec_len l.bytes ≤ l.limit + 1;
  room : vec_len l.room ≡ l.size;
}

abbrev pub decreases-loop-room : goal.decreases-loop-room
decreases-loop-room g l = l.limit + 1 - vec_len l.bytes
