use Rattle.std.proofs.Common.{arith}
use Rattle.vcl_program.proofs.Lists.{members-end}
use Rattle.vcl_program.proofs.members.in_block.Goals as goal

pub returns : goal.returns
returns c =
    rw (← c.block.view_is, ← c.deref-statement-items.ensures.value) (members-end c.args.names.now c.args.out.now c.loop-statement.out c.deref-statement-items.result.now c.loop-statement.statement-index c.loop-statement.invariant (omega arith))
