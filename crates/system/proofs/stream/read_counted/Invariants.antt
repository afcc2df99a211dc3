-- Every turn so far was a fault, and left the bytes as they were.
use Rattle.std.proofs.Common.{◌≤◌, ◌<◌}
use Rattle.std.specs.Io.KnownBytes.{Keeps}
use Rattle.wire.specs.Causes.{Rose}
use Rattle.system.proofs.stream.read_counted.Given as goal

abbrev pub invariant-loop-turn : goal.invariant-loop-turn
invariant-loop-turn g l = record {
  later : l.fn.faults ≤ l.faults;
  rose : 0 < l.turn → Rose l.fn.faults l.faults;
  kept : Keeps (g.R.Read.remaining l.fn.reader) (g.R.Read.remaining l.reader);
}
