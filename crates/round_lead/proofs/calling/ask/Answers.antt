-- What a call makes of the caller's round.
use Rattle.turnstile.specs.Handles.{known}
use Rattle.round_lead.proofs.Open.{opened_so, declined_so, end_made}
use Rattle.round_lead.proofs.calling.ask.Goals as goal

pub returns-clause-opened : goal.returns-clause-opened
returns-clause-opened g c =
    let made = c.call-answer.ensures.answer in
    opened_so c.call-answer.result (known c.args.pass.now) (known c.call-answer.new.pass) made.0 c.args.call c.call-answer.ensures.pass.1 made.2

pub returns-clause-declined : goal.returns-clause-declined
returns-clause-declined g c =
    let made = c.call-answer.ensures.answer in
    declined_so c.call-answer.result (known c.args.pass.now) (known c.call-answer.new.pass) made.0 c.args.call c.call-answer.ensures.pass.1 made.2

pub returns-clause-closes : goal.returns-clause-closes
returns-clause-closes g c = λ is opened.
    let made = c.call-answer.ensures.answer in
    end_made c.call-answer.result (known c.args.pass.now) (known c.call-answer.new.pass) made.0 c.args.call is c.call-answer.ensures.pass.1 c.call-answer.ensures.legal opened made.2
