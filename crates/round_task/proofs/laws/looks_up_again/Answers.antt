use Rattle.vcl_runs.specs.Evaluators.{evaluator}
use Rattle.round_task.proofs.Wholes.{looks-again-round}
use Rattle.round_task.proofs.laws.looks_up_again.Goals as goal

pub returns : goal.returns
returns g c = λ drawn redrawn request peer givens told token query later wait p q.
    let runner = g.M.Runner in
    looks-again-round (evaluator runner.turns runner.targets runner.default_of c.args.program.now) (λ ran a b x y. g.met.M.Runner.one_turn c.args.program.now ran a b x y) request peer givens told token query drawn redrawn later wait p q
