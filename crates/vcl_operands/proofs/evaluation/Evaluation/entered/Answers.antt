use Rattle.vcl_operands.specs.Nodes.{world}
use Rattle.vcl_operands.proofs.Steps.{leaf-some}
use Rattle.vcl_operands.proofs.evaluation.Evaluation.entered.Goals as goal

pub leaf-requires : goal.leaf-requires
leaf-requires g c =
    leaf-some (world c.args.program.now.code c.args.functions.now.stored c.args.context.now) c.args.number c.in-Some.node c.in-Leaf.node c.args.self.now
    (rw c.as_slice.ensures at c.in-Some.ensures) c.in-Leaf.ensures c.requires
