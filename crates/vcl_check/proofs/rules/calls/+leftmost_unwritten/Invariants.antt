use Rattle.std.proofs.Common.{length}
use Rattle.vcl_check.proofs.rules.calls.+leftmost_unwritten.Given as goal

abbrev pub decreases-leftmost_unwritten : goal.decreases-leftmost_unwritten
decreases-leftmost_unwritten l = length l.takes.now
