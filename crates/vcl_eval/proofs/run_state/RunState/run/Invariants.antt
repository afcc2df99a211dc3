use Rattle.vcl_eval.specs.Weights.{weight}
use Rattle.vcl_eval.proofs.Steps.{Since}
use Rattle.vcl_eval.proofs.run_state.RunState.run.Given as goal

abbrev pub invariant-steps : goal.invariant-steps
invariant-steps g l = Since l.program.code l.functions.stored l.initial.task l.initial.self l.task l.self

abbrev pub decreases-steps : goal.decreases-steps
decreases-steps g l = weight l.program.code l.task l.self
