use Rattle.vcl_runs.specs.Evaluators.{evaluator}
use Rattle.round_task.proofs.Vcls.{wants-under-round}
use Rattle.round_task.proofs.laws.one_vcl.Goals as goal

pub returns : goal.returns
returns g c = λ drawn request peer givens vcl target word p.
    let runner = g.M.Runner in
    wants-under-round (evaluator runner.turns runner.targets runner.default_of c.args.program.now) drawn request peer givens vcl target word p
