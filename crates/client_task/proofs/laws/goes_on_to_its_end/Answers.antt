use Rattle.client_task.specs.Rounds.{evaluator}
use Rattle.client_task.proofs.Live.{goes-on-to-end}
use Rattle.client_task.proofs.laws.goes_on_to_its_end.Goals as goal

pub returns : goal.returns
returns g c = λ opened givens given want later n h p q.
    let runner = g.M.Runner in
    goes-on-to-end (evaluator runner.turns runner.targets c.args.program.now) (λ ran a b x y. g.met.M.Runner.one_turn c.args.program.now ran a b x y) opened givens given want later n h p q
