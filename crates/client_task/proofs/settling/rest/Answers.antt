use Rattle.client_task.specs.Rounds.{evaluator}
use Rattle.client_task.proofs.Going.{rested}
use Rattle.client_task.proofs.settling.rest.Goals as goal

pub returns : goal.returns
returns g c =
    let runner = g.M.Runner in
    rested (evaluator runner.turns runner.targets c.args.program.now) (λ run ran. runner.stands run c.args.program.now ran) runner.fits
    c.args.point c.args.round c.in-Ok.hint c.in-Ok-ask.want c.in-Ok.ensures c.in-Ok-ask.ensures
