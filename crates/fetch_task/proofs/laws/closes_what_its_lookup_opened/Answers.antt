use Rattle.vcl_runs.specs.Evaluators.{evaluator}
use Rattle.fetch_task.proofs.Closing.{closes}
use Rattle.fetch_task.proofs.laws.closes_what_its_lookup_opened.Goals as goal

pub returns : goal.returns
returns g c = λ order givens given drawn redrawn want outcome looked a p q.
    let runner = g.M.Runner in
    closes (evaluator runner.turns runner.targets runner.default_of c.args.program.now) (λ ran a b x y. g.met.M.Runner.one_turn c.args.program.now ran a b x y)
    order givens given drawn redrawn want outcome looked a p q
