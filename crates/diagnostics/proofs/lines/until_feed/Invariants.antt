-- In front of the end so far there is no line feed.
use Rattle.std.proofs.Common.{◌≡◌, ◌≤◌, ◌+◌, ◌-◌, length, drop}
use Rattle.std.specs.List.{position_or_len}
use Rattle.diagnostics.specs.Places.{is_feed}
use Rattle.diagnostics.proofs.lines.until_feed.Given as goal

abbrev pub invariant-loop-end : goal.invariant-loop-end
invariant-loop-end l = record {
  within : l.end ≤ length l.bytes;
  no_feed : l.end + position_or_len is_feed (drop l.end l.bytes) ≡ position_or_len is_feed l.bytes;
}

abbrev pub decreases-loop-end : goal.decreases-loop-end
decreases-loop-end l = length l.bytes - l.end
