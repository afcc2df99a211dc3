use Rattle.vcl_eval.specs.RunStates.{state_of, behind}
use Rattle.vcl_eval.specs.Runs.{finished, block_at}
use Rattle.vcl_eval.proofs.Sure.{operand-sure}
use Rattle.vcl_eval.proofs.run_state.RunState.evaluated.Goals as goal

pub evaluate-requires-clause-sure : goal.evaluate-requires-clause-sure
evaluate-requires-clause-sure g c =
    let code = c.args.program.now.code in
    let stored = c.args.functions.now.stored in
    λ s. operand-sure code stored c.args.number (finished code stored (block_at code stored) c.args.what) (state_of c.args.self.now s) (behind code stored c.args.self.now.ahead) (c.requires s)
