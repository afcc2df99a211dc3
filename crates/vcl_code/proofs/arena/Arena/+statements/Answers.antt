use Rattle.std.proofs.Common.{◌≡◌, arith}
use Rattle.vcl_tree.specs.Phrase.{At, Node, If, ElseIf, chain}
use Rattle.vcl_code.specs.Statements.{arms_of, arms_in}
use Rattle.vcl_code.proofs.Steps.{acts-end, all-arms, if-end, else-end}
use Rattle.vcl_code.proofs.arena.Arena.+statements.Goals as goal

pub actions-returns : goal.actions-returns
actions-returns t c =
    rw (← c.block.view_is, ← c.deref-statement-items.ensures.value) (acts-end c.args.names.now c.args.self.now c.deref-statement-items.result.now c.statements.statement-index _ (rw c.new-actions.ensures.items at c.statements.invariant) (omega arith))

pub statement-returns-in-None : goal.statement-returns-in-None
statement-returns-in-None t c =
    let e : arms_of c.args.names.now (chain ElseIf (Node If (At c.in-If.field-0) c.in-If.first.value) c.deref-branch-items.result.now) c.args.self.now ≡ arms_in c.others.arms.items c.others.self =
    all-arms c.args.names.now (At c.in-If.field-0) c.in-If.first.value c.args.self.now _ c.others.self c.in_ok-first-in-If.first c.deref-branch-items.result.now c.others.branch-index c.others.arms.items (rw c.deref.ensures at c.in_ok-first-in-If.ensures) (rw (c.in_ok-push-in-If.ensures.items, c.new-arms.ensures.items) at c.others.invariant) (omega arith) in
    rw (← c.statement.view_is, c.in-If.is, c.in-None.is, ← c.deref-branch-items.ensures.value) (if-end c.args.names.now (At c.in-If.field-0) c.in-If.first.value c.deref-branch-items.result.now c.args.self.now c.others.arms.items c.others.self c.push_arms.result c.push_arms.new.self e c.push_arms.ensures)

pub statement-returns-in_ok-last-in-Some : goal.statement-returns-in_ok-last-in-Some
statement-returns-in_ok-last-in-Some t c =
    let e : arms_of c.args.names.now (chain ElseIf (Node If (At c.in-If.field-0) c.in-If.first.value) c.deref-branch-items.result.now) c.args.self.now ≡ arms_in c.others.arms.items c.others.self =
    all-arms c.args.names.now (At c.in-If.field-0) c.in-If.first.value c.args.self.now _ c.others.self c.in_ok-first-in-If.first c.deref-branch-items.result.now c.others.branch-index c.others.arms.items (rw c.deref.ensures at c.in_ok-first-in-If.ensures) (rw (c.in_ok-push-in-If.ensures.items, c.new-arms.ensures.items) at c.others.invariant) (omega arith) in
    rw (← c.statement.view_is, c.in-If.is, c.in-Some.is, ← c.deref-branch-items.ensures.value) (else-end c.args.names.now (chain ElseIf (Node If (At c.in-If.field-0) c.in-If.first.value) c.deref-branch-items.result.now) c.in-Some.block c.args.self.now c.others.arms.items c.others.self c.in_ok-actions-in-Some.actions.items _ c.in_ok-last-in-Some.last _ c.push_arms-in-Some.result c.push_arms-in-Some.new.self e c.in_ok-actions-in-Some.ensures c.in_ok-last-in-Some.ensures c.push_arms-in-Some.ensures)
