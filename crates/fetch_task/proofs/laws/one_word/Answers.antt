use Rattle.vcl_runs.specs.Evaluators.{evaluator}
use Rattle.fetch_task.proofs.OneWant.{words-one}
use Rattle.fetch_task.proofs.laws.one_word.Goals as goal

pub returns : goal.returns
returns g c = λ opened givens drawn redrawn one other p q.
    let runner = g.M.Runner in
    words-one (evaluator runner.turns runner.targets runner.default_of c.args.program.now) (λ ran a b x y. g.met.M.Runner.one_turn c.args.program.now ran a b x y)
    opened givens drawn redrawn one other p q
