use Rattle.std.proofs.Common.{length}
use Rattle.ban_lines.proofs.equality.+are_same_conditions.Given as goal

abbrev pub decreases-are_same_conditions : goal.decreases-are_same_conditions
decreases-are_same_conditions l = length l.conditions.now
