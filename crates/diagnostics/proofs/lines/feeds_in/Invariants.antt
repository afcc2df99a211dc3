use Rattle.std.proofs.Common.{◌≡◌, ◌≤◌, take}
use Rattle.std.specs.List.{count_by}
use Rattle.diagnostics.specs.Places.{is_feed}
use Rattle.diagnostics.proofs.lines.feeds_in.Given as goal

abbrev pub invariant-loop-byte : goal.invariant-loop-byte
invariant-loop-byte l = (l.feeds ≡ count_by is_feed (take l.byte-index l.bytes)) × (l.feeds ≤ l.byte-index)
