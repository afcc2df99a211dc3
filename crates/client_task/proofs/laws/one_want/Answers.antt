use Rattle.client_task.specs.Rounds.{evaluator}
use Rattle.client_task.proofs.OneWant.{wants-one}
use Rattle.client_task.proofs.laws.one_want.Goals as goal

pub returns : goal.returns
returns g c = λ opened givens one other p q.
    let runner = g.M.Runner in
    wants-one (evaluator runner.turns runner.targets c.args.program.now) (λ ran a b x y. g.met.M.Runner.one_turn c.args.program.now ran a b x y) opened givens one other p q
