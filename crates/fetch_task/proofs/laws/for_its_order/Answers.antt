use Rattle.vcl_runs.specs.Evaluators.{evaluator}
use Rattle.fetch_task.proofs.Orders.{wants-for}
use Rattle.fetch_task.proofs.laws.for_its_order.Goals as goal

pub returns : goal.returns
returns g c = λ order givens drawn want p.
    let runner = g.M.Runner in
    wants-for (evaluator runner.turns runner.targets runner.default_of c.args.program.now) order givens drawn want p
