use Rattle.std.proofs.Common.{length}
use Rattle.ban_expr.proofs.reading.+conditions_of.Given as goal

abbrev pub decreases-conditions_of : goal.decreases-conditions_of
decreases-conditions_of l = length l.words.now
