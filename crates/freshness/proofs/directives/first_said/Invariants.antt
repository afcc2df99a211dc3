-- What was passed says nothing.
use Rattle.std.proofs.Common.{◌≡◌, length}
use Rattle.freshness.specs.Directives.{first_given, said_by, elements}
use Rattle.freshness.proofs.directives.first_said.Given as goal

abbrev pub invariant-loop-seconds : goal.invariant-loop-seconds
invariant-loop-seconds l = first_given (said_by l.name) (elements l.rest) ≡ first_given (said_by l.name) (elements l.list)

abbrev pub decreases-loop-seconds : goal.decreases-loop-seconds
decreases-loop-seconds l = length l.rest
