use Rattle.vcl_runs.specs.Evaluators.{evaluator}
use Rattle.round_task.proofs.Wholes.{begun-once}
use Rattle.round_task.proofs.laws.begun_once.Goals as goal

pub returns : goal.returns
returns g c = λ drawn request peer givens given want p.
    let runner = g.M.Runner in
    begun-once (evaluator runner.turns runner.targets runner.default_of c.args.program.now) request peer givens given drawn want p
