use Rattle.std.proofs.Common.{length}
use Rattle.freshness.proofs.directives.+directive_in.Given as goal

abbrev pub decreases-directive_in : goal.decreases-directive_in
decreases-directive_in l = length l.fields.now
