use Rattle.vcl_runs.specs.Runs.{answered}
use Rattle.client_task.specs.Rounds.{Moves, Runs, evaluator}
use Rattle.client_task.proofs.Going.{if_ok, led, settled-from, stopped}
use Rattle.client_task.proofs.settling.go_on.Goals as goal

pub go-requires-clause-stands : goal.go-requires-clause-stands
go-requires-clause-stands g c = c.requires.stands

pub go-requires-clause-fits : goal.go-requires-clause-fits
go-requires-clause-fits g c = c.requires.fits

pub returns-in-Stops : goal.returns-in-Stops
returns-in-Stops g c = λ ran s.
    let runner = g.M.Runner in
    let e = evaluator runner.turns runner.targets c.args.program.now in
    stopped e _ runner.fits _ c.in_ok-run_step.run_step c.in-Stops.settled c.in-Stops.is (c.in_ok-run_step.ensures.went ran s)

pub returns-in-Leads : goal.returns-in-Leads
returns-in-Leads g c =
    let runner = g.M.Runner in
    let e = evaluator runner.turns runner.targets c.args.program.now in
    if_ok _ _ c.settle.result
    (λ settled h ran s. settled-from e _ runner.fits (Runs c.args.state (answered c.args.answer ran) c.args.round) (Moves c.in-Leads.next) settled
    (led e _ runner.fits _ c.in_ok-run_step.run_step c.in-Leads.next c.in-Leads.is (c.in_ok-run_step.ensures.went ran s)) h)
    c.settle.ensures
