use Rattle.std.proofs.Common.{refl}
use Rattle.cli_console.specs.declared.message.Message.TheVariants as message
use Rattle.cli_console.specs.Sources.{IsTextRefused}
use Rattle.cli_console.proofs.Reasons.{tells_why}
use Rattle.cli_console.proofs.sources.source_of.Goals as goal

pub returns-in-Err-Refused-clause-refused : goal.returns-in-Err-Refused-clause-refused
returns-in-Err-Refused-clause-refused g c =
    let refused = rw c.in-Err-Refused.field-0-is at c.in-Err-Refused.ensures.refused in
    tells_why (IsTextRefused c.args.vmods.now.stored c.args.text) (message.VclRefused c.in-Err-Refused.kind c.in-Err-Refused.place) c.refusal.result
    (c.in-Err-Refused.kind, c.in-Err-Refused.place, refused, refl) c.refusal.ensures
