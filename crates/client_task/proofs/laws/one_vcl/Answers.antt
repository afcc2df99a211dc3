use Rattle.client_graph.specs.Opening.{opening}
use Rattle.client_task.specs.Rounds.{evaluator}
use Rattle.client_task.proofs.Vcls.{wants-under}
use Rattle.client_task.proofs.laws.one_vcl.Goals as goal

pub returns : goal.returns
returns g c = λ number vcl request peer givens want p.
    let runner = g.M.Runner in
    wants-under (evaluator runner.turns runner.targets c.args.program.now) (opening number vcl request peer) givens want p
