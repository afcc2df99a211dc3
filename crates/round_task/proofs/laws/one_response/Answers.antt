use Rattle.vcl_runs.specs.Evaluators.{evaluator}
use Rattle.round_task.proofs.Wholes.{one-response-round}
use Rattle.round_task.proofs.laws.one_response.Goals as goal

pub returns : goal.returns
returns g c = λ drawn redrawn request peer givens more want later s p q again.
    let runner = g.M.Runner in
    one-response-round (evaluator runner.turns runner.targets runner.default_of c.args.program.now) (λ ran a b x y. g.met.M.Runner.one_turn c.args.program.now ran a b x y) request peer givens more drawn redrawn want later s p q again
