use Rattle.std.proofs.Common.{◌≡◌, length}
use Rattle.vcl_check.specs.Reaching.{AreReached}
use Rattle.vcl_check.proofs.reaching.rows_of.Given as goal

abbrev pub invariant-loop-number : goal.invariant-loop-number
invariant-loop-number l = AreReached l.graph.calls 0 l.rows.items × (length l.rows.items ≡ l.number)
