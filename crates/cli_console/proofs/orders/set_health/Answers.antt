use Rattle.std.proofs.Common.{◌≡◌, ℕ, List, None, sym, refl, subst}
use Rattle.cli_console.specs.declared.commands.CommandKind.TheVariants as command
use Rattle.cli_console.specs.declared.message.Message.TheVariants as message
use Rattle.cli_console.specs.Orders.{Refuses, health_named}
use Rattle.cli_console.proofs.Reasons.{tells_why}
use Rattle.cli_console.proofs.orders.set_health.Goals as goal

pub returns-in_default-clause-refused : goal.returns-in_default-clause-refused
returns-in_default-clause-refused c =
    let none : health_named c.both-pair.result.second.now ≡ None = cc in
    let At : List (List ℕ) → Type 0 = λ words. Refuses command.SetHealth words message.NoState in
    tells_why (Refuses command.SetHealth c.args.arguments.now) message.NoState c.refusal.result
    (subst At (sym c.both-pair.ensures) (none, refl)) c.refusal.ensures
