use Rattle.replay.proofs.Wholes.{framed_body}
use Rattle.replay.proofs.whole.read_framed_body.Goals as goal

pub returns-in-Ok : goal.returns-in-Ok
returns-in-Ok c =
    framed_body c.args.kind c.args.limit c.args.fields.now c.args.text.now c.in-Ok.framing c.find_body.result c.in-Ok.ensures.framed c.in-Ok.ensures.only c.find_body.ensures
