use Rattle.std.proofs.Common.{◌+◌, ◌*◌, length}
use Rattle.vcl_symbols.specs.Visits.{unmarked}
use Rattle.vcl_symbols.proofs.SearchLemmas.{Searched}
use Rattle.vcl_symbols.proofs.call_graph.CallGraph.reached.Given as goal

abbrev pub invariant-loop-next : goal.invariant-loop-next
invariant-loop-next l = Searched l.self.calls l.from l.self.count l.marks.items l.waiting.items

abbrev pub decreases-loop-next : goal.decreases-loop-next
decreases-loop-next l = 2 * unmarked l.marks.items + length l.waiting.items
