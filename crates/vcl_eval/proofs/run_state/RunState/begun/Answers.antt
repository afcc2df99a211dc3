use Rattle.std.proofs.Common.{subst}
use Rattle.std.specs.Prelude.{IsSome}
use Rattle.vcl_operands.proofs.Binds.{some-before}
use Rattle.vcl_eval.specs.declared.finish.Plan.{Plan}
use Rattle.vcl_eval.specs.Steps.{stay, ends_plain, begun_step}
use Rattle.vcl_eval.proofs.run_state.RunState.begun.Goals as goal

pub ends_plain-requires : goal.ends_plain-requires
ends_plain-requires c =
    let P : Plan → Type 0 = λ plan. IsSome (begun_step c.args.program.now.code plan c.args.self.now) in
    some-before (stay c.args.self.now) (ends_plain c.in-Return.word) (subst P c.in-Return.is c.requires)
