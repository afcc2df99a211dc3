use Rattle.std.proofs.Common.{◌≡◌, List}
use Rattle.vcl_context.specs.declared.turn.Answer.{Answer}
use Rattle.vcl_operands.specs.Nodes.{world, rest_of}
use Rattle.vcl_operands.specs.Weights.{weight}
use Rattle.vcl_operands.proofs.evaluation.Evaluation.run.Given as goal

abbrev pub invariant-steps : goal.invariant-steps
invariant-steps g l =
    (s : List Answer) → rest_of (world l.program.code l.functions.stored l.context) l.initial.doing l.initial.self s ≡ rest_of (world l.program.code l.functions.stored l.context) l.doing l.self s

abbrev pub decreases-steps : goal.decreases-steps
decreases-steps g l = weight l.doing l.self
