-- All that came is held, and `ended` is told at the end alone.
use Rattle.std.proofs.Common.{◌≡◌, ◌+◌, ◌-◌, ◌*◌, ◌≤◌, length, true, if◌then◌else◌}
use Rattle.wire.specs.Flow.{IsOver}
use Rattle.message_reader.specs.Inputs.{Hears}
use Rattle.message_reader.proofs.heads.read_head.Given as goal

abbrev pub invariant-reading : goal.invariant-reading
invariant-reading g l = record {
  heard : Hears (g.L.Link.flow l.fn.link) (g.L.Link.flow l.link) l.fn.held (λ input. l.held ≡ input);
  over : l.ended ≡ true → IsOver (g.L.Link.flow l.link);
  later : g.L.Link.read_faults l.fn.link ≤ g.L.Link.read_faults l.link;
  other : g.L.Link.write_faults l.link ≡ g.L.Link.write_faults l.fn.link;
  peer : g.L.Link.peer l.link ≡ g.L.Link.peer l.fn.link;
}

abbrev pub decreases-reading : goal.decreases-reading
decreases-reading g l = 2 * (32768 - length l.held) + (if l.ended then 0 else 1)
