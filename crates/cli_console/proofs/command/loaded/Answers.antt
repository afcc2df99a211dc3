use Rattle.std.proofs.Common.{ℕ, List, Option, sym, ap, subst}
use Rattle.cli_console.specs.declared.message.Message.TheVariants as message
use Rattle.cli_console.specs.Lines.{IsNotLoaded}
use Rattle.cli_console.proofs.Reasons.{tells_why}
use Rattle.cli_console.proofs.command.loaded.Goals as goal

pub returns-in_ok-copy-in-None-clause-refused : goal.returns-in_ok-copy-in-None-clause-refused
returns-in_ok-copy-in-None-clause-refused g c =
    let stored = c.args.vmods.now.stored in
    let file = c.args.file.now in
    let said = message.CannotRead c.in_ok-copy-in-None.field-0 in
    let At : Option (List ℕ) → Type 0 = λ found. IsNotLoaded stored file found said in
    tells_why (IsNotLoaded stored file c.args.found) said c.refusal.result
    (subst At (sym c.in-None.is) (ap message.CannotRead c.in_ok-copy-in-None.ensures)) c.refusal.ensures
