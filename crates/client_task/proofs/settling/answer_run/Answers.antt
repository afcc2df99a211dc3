use Rattle.std.proofs.Common.{sym}
use Rattle.client_task.specs.Rounds.{evaluator}
use Rattle.client_task.proofs.Going.{if_ok}
use Rattle.client_task.proofs.Places.{answer-fits, settles-step, step-answered, step-other, step-unanswered}
use Rattle.client_task.proofs.settling.answer_run.Goals as goal

pub go_on-requires-clause-stands : goal.go_on-requires-clause-stands
go_on-requires-clause-stands g c = c.requires.stands

pub go_on-requires-clause-fits : goal.go_on-requires-clause-fits
go_on-requires-clause-fits g c =
    let runner = g.M.Runner in
    answer-fits (runner.fits c.args.run) c.args.asked c.in-Reply.told.reply c.in-Some.answer (sym c.in-Some.ensures) c.requires.ready

pub returns-in-Some : goal.returns-in-Some
returns-in-Some g c =
    let runner = g.M.Runner in
    let e = evaluator runner.turns runner.targets c.args.program.now in
    if_ok _ _ c.go_on.result
    (λ settled h ran s. settles-step e _ runner.fits _ _ settled
    (step-answered c.args.asked c.args.state ran c.args.round c.args.given c.in-Reply.told c.in-Some.answer c.in-Reply.is (sym c.in-Some.ensures)) (h ran s))
    c.go_on.ensures

pub returns-in-None : goal.returns-in-None
returns-in-None g c =
    let runner = g.M.Runner in
    let e = evaluator runner.turns runner.targets c.args.program.now in
    if_ok _ _ c.end_round.result
    (λ settled h ran s. settles-step e _ runner.fits _ _ settled
    (step-unanswered c.args.asked c.args.state ran c.args.round c.args.given c.in-Reply.told c.in-Reply.is (sym c.in-None.ensures)) h)
    c.end_round.ensures

pub returns-in_default : goal.returns-in_default
returns-in_default g c =
    let runner = g.M.Runner in
    let e = evaluator runner.turns runner.targets c.args.program.now in
    if_ok _ _ c.end_round-in_default.result
    (λ settled h ran s. settles-step e _ runner.fits _ _ settled
    (step-other c.args.asked c.args.state ran c.args.round c.args.given c.in_default.not-Reply) h)
    c.end_round-in_default.ensures
