use Rattle.vcl_runs.specs.Evaluators.{evaluator}
use Rattle.round_task.proofs.Wholes.{fetch-behind}
use Rattle.round_task.proofs.laws.fetches_behind_its_response.Goals as goal

pub returns : goal.returns
returns g c = λ request peer givens start newest told order made p b.
    let runner = g.M.Runner in
    fetch-behind (evaluator runner.turns runner.targets runner.default_of c.args.program.now) request peer givens start newest told order made p b
