-- All that came is held, and the bytes that were looked at have no LF.
use Rattle.std.proofs.Common.{◌≡◌, ◌+◌, ◌-◌, ◌≤◌, length}
use Rattle.message_reader.specs.Inputs.{Hears}
use Rattle.console_link.specs.Lines.{line_length, line_limit}
use Rattle.console_link.proofs.lines.read_line.Given as goal

abbrev pub invariant-reading : goal.invariant-reading
invariant-reading g l = record {
  heard : Hears (g.L.Link.flow l.fn.link) (g.L.Link.flow l.link) l.fn.held (λ input. l.held ≡ input);
  scanned : l.scanned ≤ line_length l.held;
  later : g.L.Link.read_faults l.fn.link ≤ g.L.Link.read_faults l.link;
  other : g.L.Link.write_faults l.link ≡ g.L.Link.write_faults l.fn.link;
  peer : g.L.Link.peer l.link ≡ g.L.Link.peer l.fn.link;
}

abbrev pub decreases-reading : goal.decreases-reading
decreases-reading g l = line_limit + 1 - length l.held
