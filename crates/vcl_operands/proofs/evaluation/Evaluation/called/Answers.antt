use Rattle.std.proofs.Common.{subst}
use Rattle.std.specs.Prelude.{IsSome}
use Rattle.vcl_code.specs.declared.node.Arguments.{Arguments}
use Rattle.vcl_operands.specs.Nodes.{given_if}
use Rattle.vcl_operands.specs.Steps.{stay, given_due, called_step}
use Rattle.vcl_operands.specs.Values.{applied}
use Rattle.vcl_operands.proofs.Binds.{some-before}
use Rattle.vcl_operands.proofs.evaluation.Evaluation.called.Goals as goal

pub applied-requires : goal.applied-requires
applied-requires g c =
    let P : Arguments → Type 0 = λ rest. IsSome (called_step c.args.functions.now.stored c.args.function c.args.values rest c.args.self.now) in
    rw c.as_slice.ensures (some-before given_if (applied c.args.functions.now.stored c.args.function c.args.values)
    (some-before (stay c.args.self.now) (given_due (applied c.args.functions.now.stored c.args.function c.args.values)) (subst P c.in-Zero.is c.requires)))
