use Rattle.std.proofs.Common.{length}
use Rattle.vcl_context.proofs.names.+behind.Given as goal

abbrev pub decreases-behind : goal.decreases-behind
decreases-behind l = length l.front.now
