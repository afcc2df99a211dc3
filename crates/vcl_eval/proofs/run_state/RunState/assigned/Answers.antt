use Rattle.vcl_operands.proofs.Binds.{some-before}
use Rattle.vcl_eval.specs.Statements.{set_to}
use Rattle.vcl_eval.specs.Steps.{set_step}
use Rattle.vcl_eval.proofs.run_state.RunState.assigned.Goals as goal

pub set_to-requires : goal.set_to-requires
set_to-requires c = some-before (set_step c.args.self.now) (set_to c.args.variable c.args.value.now c.args.self.now.context) c.requires
