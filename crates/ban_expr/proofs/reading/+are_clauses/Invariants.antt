use Rattle.std.proofs.Common.{length}
use Rattle.ban_expr.proofs.reading.+are_clauses.Given as goal

abbrev pub decreases-are_clauses : goal.decreases-are_clauses
decreases-are_clauses l = length l.words.now
