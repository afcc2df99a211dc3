use Rattle.std.proofs.Common.{take}
use Rattle.vcl_symbols.specs.Visits.{AreRows}
use Rattle.vcl_symbols.proofs.call_graph.rows_of.Given as goal

abbrev pub invariant-loop-call : goal.invariant-loop-call
invariant-loop-call l = AreRows l.rows.items (take l.call-index l.calls) l.count
