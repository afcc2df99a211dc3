use Rattle.std.proofs.Common.{[]}
use Rattle.vcl_symbols.specs.Visits.{AreRows}
use Rattle.vcl_symbols.proofs.call_graph.empty_rows.Given as goal

abbrev pub invariant-loop : goal.invariant-loop
invariant-loop l = AreRows l.rows.items [] l.counter
