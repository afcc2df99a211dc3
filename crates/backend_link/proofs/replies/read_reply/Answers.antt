-- The body behind the final head.
use Rattle.message_reader.specs.Inputs.{Hears}
use Rattle.message_reader.proofs.Errors.{at_err}
use Rattle.backend_link.specs.Replies.{BehindInterim, ReplyAt}
use Rattle.backend_link.proofs.BehindFacts.{reply_ok, reply_unread}
use Rattle.backend_link.proofs.replies.read_reply.Goals as goal

pub returns-in_err-body-clause-told : goal.returns-in_err-body-clause-told
returns-in_err-body-clause-told g c =
    let first = g.L.Link.flow c.args.link.now in
    let second = g.L.Link.flow c.read_final.new.link in
    let third = g.L.Link.flow c.read_body.new.link in
    let left = c.read_body.new.held in
    let frames = rw c.kind_of_reply.ensures at c.in-Ok.ensures.framed in
    at_err c.from_residual-in_err-body.result c.in_err-body.field-0.0
    (λ r. Hears first third c.args.held.now (BehindInterim (λ passed text. ReplyAt c.args.to_head third left passed r text))) c.from_residual-in_err-body.ensures.1
    (reply_unread c.args.to_head first second third c.args.held.now c.read_final.new.held left c.in_ok-head.head c.in-Ok.framing c.in_err-body.field-0.0 c.in_ok-head.ensures.told
    frames c.in_err-body.ensures.told)

pub returns-clause-told : goal.returns-clause-told
returns-clause-told g c =
    let frames = rw c.kind_of_reply.ensures at c.in-Ok.ensures.framed in
    reply_ok c.args.to_head (g.L.Link.flow c.args.link.now) (g.L.Link.flow c.read_final.new.link) (g.L.Link.flow c.read_body.new.link) c.args.held.now c.read_final.new.held
    c.read_body.new.held c.in_ok-head.head c.in-Ok.framing c.in_ok-body.body c.in_ok-head.ensures.told frames c.in_ok-body.ensures.told
