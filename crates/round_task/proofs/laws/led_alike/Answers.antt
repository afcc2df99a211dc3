use Rattle.vcl_runs.specs.Evaluators.{evaluator}
use Rattle.round_task.proofs.Alike.{wants-like}
use Rattle.round_task.proofs.laws.led_alike.Goals as goal

pub returns : goal.returns
returns g c = λ drawn request peer givens want like p.
    let runner = g.M.Runner in
    wants-like (evaluator runner.turns runner.targets runner.default_of c.args.program.now) (evaluator runner.turns runner.targets runner.default_of c.args.other.now) like drawn request peer givens want p
