use Rattle.vcl_runs.specs.Evaluators.{evaluator}
use Rattle.round_task.proofs.Wholes.{goes-on-round}
use Rattle.round_task.proofs.laws.goes_on_to_its_end.Goals as goal

pub returns : goal.returns
returns g c = λ drawn redrawn request peer givens given want later n a p q.
    let runner = g.M.Runner in
    goes-on-round (evaluator runner.turns runner.targets runner.default_of c.args.program.now) (λ ran a b x y. g.met.M.Runner.one_turn c.args.program.now ran a b x y) request peer givens given drawn redrawn want later n a p q
