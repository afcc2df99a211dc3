use Rattle.std.proofs.Common.{arith}
use Rattle.std.proofs.lemmas.Bool.{false≢true}
use Rattle.vcl_symbols.proofs.CircleLemmas.{Reaches-falls}
use Rattle.vcl_symbols.proofs.call_graph.CallGraph.is_on_circle.Goals as goal

pub returns-then-falls : goal.returns-then-falls
returns-then-falls c = (λ e. absurd (false≢true e), λ back. absurd (omega (arith, c.falls.ensures.0 c.if-falls.true, Reaches-falls c.args.heights.now c.args.self.now.calls (c.requires.none_rises c.if-none_rises.true) c.args.call.now.to c.args.call.now.from back)))
