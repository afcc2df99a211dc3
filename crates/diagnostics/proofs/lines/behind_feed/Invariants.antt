-- Behind the start so far there is no line feed.
use Rattle.std.proofs.Common.{◌≡◌, ◌≤◌, ◌+◌, length, take}
use Rattle.std.specs.Prelude.{not}
use Rattle.std.specs.List.{suffix_len}
use Rattle.diagnostics.specs.Places.{is_feed}
use Rattle.diagnostics.proofs.lines.behind_feed.Given as goal

abbrev pub invariant-loop-start : goal.invariant-loop-start
invariant-loop-start l = record {
  within : l.start ≤ length l.bytes;
  no_feed : l.start + suffix_len (λ byte. not (is_feed byte)) l.bytes ≡ length l.bytes + suffix_len (λ byte. not (is_feed byte)) (take l.start l.bytes);
}

abbrev pub decreases-loop-start : goal.decreases-loop-start
decreases-loop-start l = l.start
