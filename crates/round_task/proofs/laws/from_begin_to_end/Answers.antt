use Rattle.vcl_runs.specs.Evaluators.{evaluator}
use Rattle.round_task.specs.Responses.{AnyWord}
use Rattle.round_task.proofs.Fronts.{whole-round}
use Rattle.round_task.proofs.laws.from_begin_to_end.Goals as goal

pub returns : goal.returns
returns g c = λ request peer steps w.
    let runner = g.M.Runner in
    whole-round (evaluator runner.turns runner.targets runner.default_of c.args.program.now) (λ ran a b x y. g.met.M.Runner.one_turn c.args.program.now ran a b x y) AnyWord request peer steps w
