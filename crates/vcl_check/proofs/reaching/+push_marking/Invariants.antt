use Rattle.std.proofs.Common.{length}
use Rattle.vcl_check.proofs.reaching.+push_marking.Given as goal

-- the rows get fewer
abbrev pub decreases-push_marking : goal.decreases-push_marking
decreases-push_marking l = length l.rows.now
