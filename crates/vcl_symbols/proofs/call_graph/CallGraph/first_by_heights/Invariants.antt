use Rattle.std.proofs.Common.{take}
use Rattle.vcl_symbols.specs.Circles.{IsLeastPlace}
use Rattle.vcl_symbols.proofs.CircleLemmas.{CircleIn}
use Rattle.vcl_symbols.proofs.call_graph.CallGraph.first_by_heights.Given as goal

abbrev pub invariant-loop-call : goal.invariant-loop-call
invariant-loop-call l = IsLeastPlace (CircleIn l.self.calls (take l.call-index l.call-items)) l.first
