use Rattle.std.proofs.Common.{refl, inl}
use Rattle.cli_console.specs.declared.message.Message.TheVariants as message
use Rattle.cli_console.specs.Orders.{IsWrongLine}
use Rattle.cli_console.proofs.Reasons.{tells_why}
use Rattle.cli_console.proofs.orders.read_order.Goals as goal

pub returns-in-Err-Syntax-clause-refused : goal.returns-in-Err-Syntax-clause-refused
returns-in-Err-Syntax-clause-refused c =
    tells_why (IsWrongLine c.args.line.now) message.SyntaxError c.refusal.result
    (inl (rw c.in-Err-Syntax.field-0-is at c.in-Err-Syntax.ensures.error, refl)) c.refusal.ensures
