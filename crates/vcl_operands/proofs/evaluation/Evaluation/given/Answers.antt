use Rattle.std.proofs.Common.{subst}
use Rattle.std.specs.Prelude.{IsSome}
use Rattle.vcl_operands.specs.declared.frame.Frame.{Frame}
use Rattle.vcl_operands.specs.Nodes.{changed, combined}
use Rattle.vcl_operands.specs.Steps.{stay, given_due, given_step}
use Rattle.vcl_operands.proofs.Binds.{some-before}
use Rattle.vcl_operands.proofs.evaluation.Evaluation.given.Goals as goal

pub given_changed-requires : goal.given_changed-requires
given_changed-requires g c =
    let P : Frame → Type 0 = λ f. IsSome (given_step c.args.program.now.code c.args.functions.now.stored f c.args.value c.args.self.now) in
    some-before (stay c.args.self.now) (given_due (changed c.args.program.now.code c.in-One.what c.args.value)) (subst P c.in-One.is c.requires)

pub given_combined-requires : goal.given_combined-requires
given_combined-requires g c =
    let P : Frame → Type 0 = λ f. IsSome (given_step c.args.program.now.code c.args.functions.now.stored f c.args.value c.args.self.now) in
    some-before (stay c.args.self.now) (given_due (combined c.args.program.now.code c.in-Right.what c.in-Right.left c.args.value)) (subst P c.in-Right.is c.requires)
