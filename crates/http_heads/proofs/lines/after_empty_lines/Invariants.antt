-- The lines that were passed over are empty.
use Rattle.std.proofs.Common.{◌≡◌, length}
use Rattle.http_heads.specs.Lines.{ended_lines, from_full}
use Rattle.http_heads.proofs.lines.after_empty_lines.Given as goal

abbrev pub invariant-loop-line : goal.invariant-loop-line
invariant-loop-line l = from_full (ended_lines l.rest) ≡ from_full (ended_lines l.bytes)

abbrev pub decreases-loop-line : goal.decreases-loop-line
decreases-loop-line l = length l.rest
