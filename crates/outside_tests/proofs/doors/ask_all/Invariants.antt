-- The worker keeps its parts.
use Rattle.std.proofs.Common.{◌<◌}
use Rattle.outside_tests.proofs.doors.ask_all.Given as goal

abbrev pub invariant-asking : goal.invariant-asking
invariant-asking g l = (0 < l.mine.parts) × (0 < l.leaving.parts)
