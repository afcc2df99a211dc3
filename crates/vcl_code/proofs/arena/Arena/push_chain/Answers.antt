use Rattle.std.proofs.Common.{List, sym, ap, ◌∙◌}
use Rattle.vcl_code.specs.declared.node.Action.{Action}
use Rattle.vcl_code.specs.Statements.{with_chain}
use Rattle.vcl_code.proofs.Steps.{chain-step}
use Rattle.vcl_code.proofs.arena.Arena.push_chain.Goals as goal

pub actions-preserved : goal.actions-preserved
actions-preserved c =
    chain-step c.pop.new.self.items c.in-Some.action c.actions.next _ c.actions.self _ c.in_ok-next.ensures
    ∙ ap (λ (s : List Action). with_chain s c.actions.next c.actions.self) (sym c.in-Some.ensures.items) ∙ c.actions.invariant
