use Rattle.vcl_runs.specs.Evaluators.{evaluator}
use Rattle.fetch_task.proofs.Orders.{retries-few}
use Rattle.fetch_task.proofs.laws.few_retries.Goals as goal

pub returns : goal.returns
returns g c = λ order givens place p.
    let runner = g.M.Runner in
    retries-few (evaluator runner.turns runner.targets runner.default_of c.args.program.now) order givens place p
