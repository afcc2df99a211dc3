use Rattle.std.proofs.Common.{◌∙◌, arith}
use Rattle.vcl_program.specs.Blocks.{heads}
use Rattle.vcl_program.proofs.Lists.{bodies-before}
use Rattle.vcl_program.proofs.blocks.built_in_blocks.Goals as goal

pub items-preserved : goal.items-preserved
items-preserved c = (
  bodies-before c.args.names.now c.args.items.now c.items.left c.index-items-left.result (heads c.items.numbers c.items.arena) _
      (omega arith) c.items.invariant.1 c.index-items-left.is c.in_ok-in_item.ensures ∙ c.items.invariant.0,
  omega arith,
)
