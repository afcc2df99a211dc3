use Rattle.std.proofs.Common.{arith}
use Rattle.client_graph.specs.Opening.{opening}
use Rattle.client_task.specs.Rounds.{evaluator}
use Rattle.client_task.proofs.Restarts.{few-at, reaches-few}
use Rattle.client_task.proofs.laws.few_restarts.Goals as goal

pub returns : goal.returns
returns g c = λ number vcl request peer givens node p.
    let runner = g.M.Runner in
    few-at node (reaches-few (evaluator runner.turns runner.targets c.args.program.now) (opening number vcl request peer) givens node (omega arith) p)
