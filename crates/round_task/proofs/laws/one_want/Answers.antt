use Rattle.vcl_runs.specs.Evaluators.{evaluator}
use Rattle.round_task.proofs.OneWant.{wants-one}
use Rattle.round_task.proofs.laws.one_want.Goals as goal

pub returns : goal.returns
returns g c = λ drawn request peer givens one other p q.
    let runner = g.M.Runner in
    wants-one (evaluator runner.turns runner.targets runner.default_of c.args.program.now) (λ ran a b x y. g.met.M.Runner.one_turn c.args.program.now ran a b x y) drawn request peer givens one other p q
