use Rattle.std.proofs.Common.{◌+◌, ◌*◌}
use Rattle.caller_tests.proofs.crowd.+call_together+fn-call_together-join+arg2+fn-call_together-join+arg3.Given as goal

abbrev pub decreases-join+arg2 : goal.decreases-join+arg2
decreases-join+arg2 g l = 2 * l.kept + 1

abbrev pub decreases-join+arg3 : goal.decreases-join+arg3
decreases-join+arg3 g l = 2 * l.rest + 1

abbrev pub decreases-call_together : goal.decreases-call_together
decreases-call_together g l = 2 * l.threads
