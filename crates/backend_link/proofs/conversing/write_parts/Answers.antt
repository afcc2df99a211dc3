-- The body was cut short behind the whole head.
use Rattle.std.proofs.lemmas.Result.{on_err_weaker}
use Rattle.wire.specs.Flow.{MovesPart}
use Rattle.backend_link.proofs.ConversedFacts.{part_behind}
use Rattle.backend_link.proofs.conversing.write_parts.Goals as goal

pub returns-clause-part : goal.returns-clause-part
returns-clause-part g c =
    let first = g.L.Link.flow c.args.link.now in
    let second = g.L.Link.flow c.write_link.new.link in
    let third = g.L.Link.flow c.write_text.new.link in
    let whole = rw c.bytes.ensures at c.in_ok-write_link.ensures.whole in
    on_err_weaker c.write_text.result (λ (part : MovesPart second third c.args.body.now). part_behind first second third c.args.head.now c.args.body.now whole part)
    c.write_text.ensures.part
