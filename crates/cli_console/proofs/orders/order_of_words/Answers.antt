use Rattle.std.proofs.Common.{ℕ, List, sym, refl, subst}
use Rattle.cli_console.specs.declared.message.Message.TheVariants as message
use Rattle.cli_console.specs.Orders.{IsWrongOrder}
use Rattle.cli_console.proofs.Reasons.{tells_why}
use Rattle.cli_console.proofs.orders.order_of_words.Goals as goal

pub returns-in_default-clause-refused : goal.returns-in_default-clause-refused
returns-in_default-clause-refused c =
    let At : List (List ℕ) → Type 0 = λ words. IsWrongOrder words message.UnknownRequest in
    tells_why (IsWrongOrder c.args.words) message.UnknownRequest c.refusal.result (subst At (sym c.in_default.ensures) refl) c.refusal.ensures
