-- The parts of a request, one behind another.
use Rattle.message_reader.specs.Inputs.{Hears}
use Rattle.message_reader.proofs.Errors.{at_err}
use Rattle.connection.specs.Reading.{RequestTold}
use Rattle.connection.proofs.RequestFacts.{head_found, head_failed, fields_failed, whole_request, body_failed}
use Rattle.connection.proofs.requests.read_request.Goals as goal

pub returns-in_err-head-clause-told : goal.returns-in_err-head-clause-told
returns-in_err-head-clause-told g c =
    let first = g.L.Link.flow c.args.link.now in
    let third = g.L.Link.flow c.read_head.new.link in
    let left = c.read_head.new.held in
    at_err c.from_residual-in_err-head.result c.in_err-head.field-0.0 (λ r. Hears first third c.args.held.now (RequestTold third left r)) c.from_residual-in_err-head.ensures.1
    (head_failed first (g.L.Link.flow c.has_more.new.link) third c.args.held.now c.has_more.new.held left left c.in_err-head.field-0.0
    (rw c.if-not-branch.false at c.in_ok-has_more.ensures.told) c.in_err-head.ensures.told)

pub returns-in_err-framing-clause-told : goal.returns-in_err-framing-clause-told
returns-in_err-framing-clause-told g c =
    let first = g.L.Link.flow c.args.link.now in
    let third = g.L.Link.flow c.read_head.new.link in
    let left = c.read_head.new.held in
    at_err c.from_residual-in_err-framing.result c.in_err-framing.field-0.0 (λ r. Hears first third c.args.held.now (RequestTold third left r))
    c.from_residual-in_err-framing.ensures.1
    (fields_failed first third c.args.held.now left left c.in_ok-head.head c.in_err-framing.field-0.0
    (head_found first (g.L.Link.flow c.has_more.new.link) third c.args.held.now c.has_more.new.held left c.in_ok-head.head
    (rw c.if-not-branch.false at c.in_ok-has_more.ensures.told) c.in_ok-head.ensures.told) c.in_err-framing.ensures)

pub returns-in_err-body-clause-told : goal.returns-in_err-body-clause-told
returns-in_err-body-clause-told g c =
    let first = g.L.Link.flow c.args.link.now in
    let third = g.L.Link.flow c.read_head.new.link in
    let last = g.L.Link.flow c.read_body.new.link in
    let left = c.read_body.new.held in
    at_err c.from_residual-in_err-body.result c.in_err-body.field-0.0 (λ r. Hears first last c.args.held.now (RequestTold last left r)) c.from_residual-in_err-body.ensures.1
    (body_failed first third last c.args.held.now c.read_head.new.held left c.in_ok-head.head c.in_ok-framing.framing c.in_err-body.field-0.0
    (head_found first (g.L.Link.flow c.has_more.new.link) third c.args.held.now c.has_more.new.held c.read_head.new.held c.in_ok-head.head
    (rw c.if-not-branch.false at c.in_ok-has_more.ensures.told) c.in_ok-head.ensures.told) c.in_ok-framing.ensures c.in_err-body.ensures.told)

pub returns-clause-told : goal.returns-clause-told
returns-clause-told g c =
    let first = g.L.Link.flow c.args.link.now in
    let third = g.L.Link.flow c.read_head.new.link in
    let last = g.L.Link.flow c.read_body.new.link in
    whole_request first third last c.args.held.now c.read_head.new.held c.read_body.new.held c.in_ok-head.head c.in_ok-framing.framing c.in_ok-body.body
    (head_found first (g.L.Link.flow c.has_more.new.link) third c.args.held.now c.has_more.new.held c.read_head.new.held c.in_ok-head.head
    (rw c.if-not-branch.false at c.in_ok-has_more.ensures.told) c.in_ok-head.ensures.told) c.in_ok-framing.ensures c.in_ok-body.ensures.told
