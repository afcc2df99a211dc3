use Rattle.std.proofs.Common.{◌+◌, ◌*◌}
use Rattle.turns.proofs.crowd.+fn-visit_together-join+arg2+fn-visit_together-join+arg3+visit_together.Given as goal

abbrev pub decreases-join+arg2 : goal.decreases-join+arg2
decreases-join+arg2 g l = 2 * l.kept + 1

abbrev pub decreases-join+arg3 : goal.decreases-join+arg3
decreases-join+arg3 g l = 2 * l.rest + 1

abbrev pub decreases-visit_together : goal.decreases-visit_together
decreases-visit_together g l = 2 * l.threads
