use Rattle.std.proofs.Common.{sym}
use Rattle.units.proofs.Pieces.{pieces_more, body_read}
use Rattle.units.proofs.quotes.after_body.Goals as goal

pub loop-behind-preserved : goal.loop-behind-preserved
loop-behind-preserved c = pieces_more c.args.body.now c.loop-behind.rest.now c.in-Some.field-0-0 c.in-Some.behind.now c.loop-behind.invariant (sym c.in-Some.ensures)

pub returns : goal.returns
returns c = body_read c.args.body.now c.loop-behind.rest.now c.strip_prefix.result c.loop-behind.invariant (sym c.in_default.ensures) c.strip_prefix.ensures.cases
