-- The lines that were counted aren't empty.
use Rattle.std.proofs.Common.{◌≡◌, ◌+◌, ◌≤◌, length}
use Rattle.std.specs.List.{prefix_len}
use Rattle.http_heads.specs.Lines.{ended_lines, is_full_line}
use Rattle.http_heads.proofs.lines.count_full.Given as goal

abbrev pub invariant-loop-line : goal.invariant-loop-line
invariant-loop-line l = record {
  counted : l.count + prefix_len is_full_line (ended_lines l.rest) ≡ prefix_len is_full_line (ended_lines l.bytes);
  fits : l.count + length l.rest ≤ length l.bytes;
}

abbrev pub decreases-loop-line : goal.decreases-loop-line
decreases-loop-line l = length l.rest
