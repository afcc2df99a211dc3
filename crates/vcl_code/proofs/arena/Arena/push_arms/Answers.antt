use Rattle.std.proofs.Common.{List, sym, ap, ◌∙◌}
use Rattle.vcl_code.specs.declared.node.Arm.{Arm}
use Rattle.vcl_code.specs.Statements.{with_arms}
use Rattle.vcl_code.proofs.Steps.{arms-step}
use Rattle.vcl_code.proofs.arena.Arena.push_arms.Goals as goal

pub arms-preserved : goal.arms-preserved
arms-preserved c =
    arms-step _ c.in-Some.arm c.arms.otherwise _ c.arms.self _ c.in_ok-number.ensures
    ∙ ap (λ (s : List Arm). with_arms s c.arms.otherwise c.arms.self) (sym c.in-Some.ensures.items) ∙ c.arms.invariant
