use Rattle.std.proofs.Common.{subst}
use Rattle.std.specs.Prelude.{IsSome}
use Rattle.vcl_operands.proofs.Binds.{some-before}
use Rattle.vcl_eval.specs.declared.finish.Finish.{Finish}
use Rattle.vcl_eval.specs.Steps.{stay, ends_with_one, ends_with_two, finished_step}
use Rattle.vcl_eval.proofs.run_state.RunState.finish.Goals as goal

pub ends_with_one-requires : goal.ends_with_one-requires
ends_with_one-requires c =
    let P : Finish → Type 0 = λ what. IsSome (finished_step c.args.program.now.code what c.args.value.now c.args.self.now) in
    some-before (stay c.args.self.now) (ends_with_one c.in-Return.word c.args.value.now) (subst P c.in-Return.is c.requires)

pub ends_with_two-requires : goal.ends_with_two-requires
ends_with_two-requires c =
    let P : Finish → Type 0 = λ what. IsSome (finished_step c.args.program.now.code what c.args.value.now c.args.self.now) in
    some-before (stay c.args.self.now) (ends_with_two c.in-ReturnSecond.word c.in-ReturnSecond.first c.args.value.now) (subst P c.in-ReturnSecond.is c.requires)
