use Rattle.std.proofs.Common.{length}
use Rattle.vcl_check.proofs.rules.calls.+leftmost_mistyped.Given as goal

abbrev pub decreases-leftmost_mistyped : goal.decreases-leftmost_mistyped
decreases-leftmost_mistyped l = length l.takes.now
