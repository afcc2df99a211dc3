use Rattle.std.proofs.Common.{◌≡◌, List, refl, subst, arith}
use Rattle.std.specs.Prelude.{OnOk}
use Rattle.vcl_tree.specs.Phrase.{Node, If, At, ElseIf, chain}
use Rattle.vcl_check.specs.Mentions.{Said, with_mentions}
use Rattle.vcl_check.proofs.MentionLemmas.{block-mentions-end, branch-mentions-end}
use Rattle.vcl_check.proofs.mentions.+mentions.Goals as goal

pub in_block-returns : goal.in_block-returns
in_block-returns t c = rw (← c.block.view_is, ← c.deref-statement-items.ensures.value) (block-mentions-end c.args.owner.now c.args.out.now.items c.deref-statement-items.result.now c.statements.statement-index _ c.statements.out.items refl c.statements.invariant (omega arith))

pub in_statement-returns-in-None : goal.in_statement-returns-in-None
in_statement-returns-in-None t c =
    rw (← c.statement.view_is, c.in-If.is, c.in-None.is, ← c.deref-other-items.ensures.value)
    (branch-mentions-end c.args.owner.now c.args.out.now.items (Node If (At c.in-If.field-0) (c.in-If.first).value) c.deref-other-items.result.now c.branches.other-index _ c.branches.out.items (rw c.deref-in-If.ensures at c.in_ok-in_branch-in-If.ensures) c.branches.invariant (omega arith))

pub in_statement-returns-in-Some : goal.in_statement-returns-in-Some
in_statement-returns-in-Some t c =
    let front = Node If (At c.in-If.field-0) (c.in-If.first).value in
    let e : c.branches.out.items ≡ with_mentions c.args.owner.now c.args.out.now.items (chain ElseIf front c.deref-other-items.result.now) =
    branch-mentions-end c.args.owner.now c.args.out.now.items front c.deref-other-items.result.now c.branches.other-index _ c.branches.out.items (rw c.deref-in-If.ensures at c.in_ok-in_branch-in-If.ensures) c.branches.invariant (omega arith) in
    let P : List Said → Type 0 = λ s. OnOk c.in_block.result (c.in_block.new.out.items ≡ with_mentions c.args.owner.now s c.in-Some.last) in
    rw (← c.statement.view_is, c.in-If.is, c.in-Some.is, ← c.deref-other-items.ensures.value) (subst P e c.in_block.ensures)
