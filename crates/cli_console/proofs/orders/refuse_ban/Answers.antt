use Rattle.std.proofs.Common.{sym, refl}
use Rattle.cli_console.specs.declared.message.Message.TheVariants as message
use Rattle.cli_console.specs.Orders.{IsBanRefused}
use Rattle.cli_console.proofs.Reasons.{tells_why}
use Rattle.cli_console.proofs.orders.refuse_ban.Goals as goal

pub returns-in-Some : goal.returns-in-Some
returns-in-Some c =
    tells_why (IsBanRefused c.args.error) (message.BanRefused c.in-Some.number) c.refusal.result (c.in-Some.number, sym c.in-Some.ensures, refl) c.refusal.ensures
