use Rattle.vcl_operands.specs.Nodes.{combined, given_if}
use Rattle.vcl_operands.proofs.Binds.{some-before}
use Rattle.vcl_operands.proofs.evaluation.given_combined.Goals as goal

pub combined-requires : goal.combined-requires
combined-requires c = some-before given_if (combined c.args.program.now.code c.args.what c.args.left.now c.args.right.now) c.requires
