use Rattle.vcl_operands.specs.Nodes.{changed, given_if}
use Rattle.vcl_operands.proofs.Binds.{some-before}
use Rattle.vcl_operands.proofs.evaluation.given_changed.Goals as goal

pub changed-requires : goal.changed-requires
changed-requires c = some-before given_if (changed c.args.program.now.code c.args.what c.args.value.now) c.requires
