use Rattle.std.proofs.lemmas.Result.{IfOk-weaker}
use Rattle.backend_link.proofs.WholeHeads.{says_framed}
use Rattle.backend_link.proofs.whole.read_behind.Goals as goal

pub returns-in-Ok : goal.returns-in-Ok
returns-in-Ok c =
    IfOk-weaker c.read_framed.result _ _
    (says_framed c.args.to_head c.args.text.now c.args.head c.args.count c.in-Ok.framing (rw c.kind_of_reply.ensures at c.in-Ok.ensures.framed)) c.read_framed.ensures
