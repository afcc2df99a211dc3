use Rattle.vcl_operands.proofs.Binds.{some-before}
use Rattle.vcl_eval.specs.Statements.{append_to}
use Rattle.vcl_eval.specs.Steps.{set_step}
use Rattle.vcl_eval.proofs.run_state.RunState.appended.Goals as goal

pub append_to-requires : goal.append_to-requires
append_to-requires c = some-before (set_step c.args.self.now) (append_to c.args.variable c.args.value.now c.args.self.now.context) c.requires
