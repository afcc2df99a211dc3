use Rattle.std.proofs.Common.{◌≡◌, drop}
use Rattle.vcl_code.specs.Statements.{acts, arms_in}
use Rattle.vcl_code.proofs.Steps.{further_acts, further_arms}
use Rattle.vcl_code.proofs.arena.Arena.+statements.Given as goal

abbrev pub invariant-actions-statements : goal.invariant-actions-statements
invariant-actions-statements l = further_acts l.names (acts l.actions.items l.self) (drop l.statement-index l.statement-items) ≡ further_acts l.names (acts l.initial.actions.items l.initial.self) l.statement-items

abbrev pub invariant-statement-others : goal.invariant-statement-others
invariant-statement-others l = further_arms l.names (arms_in l.arms.items l.self) (drop l.branch-index l.branch-items) ≡ further_arms l.names (arms_in l.initial.arms.items l.initial.self) l.branch-items
