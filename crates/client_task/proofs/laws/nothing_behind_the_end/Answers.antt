use Rattle.client_task.specs.Rounds.{evaluator}
use Rattle.client_task.proofs.Ends.{nothing-behind}
use Rattle.client_task.proofs.laws.nothing_behind_the_end.Goals as goal

pub returns : goal.returns
returns g c = λ opened givens given want later h p q.
    let runner = g.M.Runner in
    nothing-behind (evaluator runner.turns runner.targets c.args.program.now) (λ ran a b x y. g.met.M.Runner.one_turn c.args.program.now ran a b x y) opened givens given want later h p q
