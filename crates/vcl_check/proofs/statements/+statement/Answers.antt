use Rattle.std.proofs.Common.{◌≡◌, arith}
use Rattle.vcl_tree.specs.Phrase.{Node, If, At, ElseIf, chain}
use Rattle.vcl_check.specs.Least.{told_of}
use Rattle.vcl_check.specs.Roles.{Statement}
use Rattle.vcl_check.proofs.Chains.{block-end, branches-end}
use Rattle.vcl_check.proofs.statements.+statement.Goals as goal

pub block-returns : goal.block-returns
block-returns t c = rw (← c.b.view_is, ← c.deref-one-items.ensures.value) (block-end c.args.tables.now c.args.roots.now c.deref-one-items.result.now c.statements.one-index _ c.statements.told (cc) c.statements.invariant (omega arith))

pub statement-returns-in-None : goal.statement-returns-in-None
statement-returns-in-None t c =
    rw (← c.s.view_is, c.in-If.is, c.in-None.is, ← c.deref-other-items.ensures.value) (branches-end c.args.tables.now c.args.roots.now (Node If (At c.in-If.place) (c.in-If.first).value) c.deref-other-items.result.now c.branches.other-index _ c.branches.told (cc) c.branches.invariant (omega arith))

pub statement-returns-in-Some : goal.statement-returns-in-Some
statement-returns-in-Some t c =
    let e : c.branches.told ≡ told_of c.args.tables.now c.args.roots.now Statement (chain ElseIf (Node If (At c.in-If.place) (c.in-If.first).value) c.deref-other-items.result.now) =
    branches-end c.args.tables.now c.args.roots.now (Node If (At c.in-If.place) (c.in-If.first).value) c.deref-other-items.result.now c.branches.other-index _ c.branches.told (cc) c.branches.invariant (omega arith) in
    rw (← c.s.view_is, c.in-If.is, c.in-Some.is, ← c.deref-other-items.ensures.value) (cc)
