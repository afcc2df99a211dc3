use Rattle.std.proofs.Common.{◌≡◌, ◌+◌, ◌*◌, arith}
use Rattle.vcl_tree.specs.Phrase.{Node, Both, chain, phrase_size}
use Rattle.vcl_check.proofs.Chains.{either-end, both-end, sum-end, arguments-end, operand-falls, first-falls, all-falls, term-falls, first-terms-fall, argument-falls}
use Rattle.vcl_check.proofs.expressions.+expression.Goals as goal

pub expression-junction-requires-in-All : goal.expression-junction-requires-in-All
expression-junction-requires-in-All t c =
    let so_far : 2 * phrase_size c.args.e.now + 1 ≡ t = c.decreases in
    let whole : 2 * phrase_size (chain Both (Node Both (c.in-All.first).value (c.in-All.second).value) (c.in-All.others).items) + 1 ≡ t = rw (← c.e.view_is, c.in-All.is) at so_far in
    (all-falls _ _ _ _ _ _ t c.deref-in-All.ensures c.deref-in-All-2.ensures c.deref-in-All-3.ensures.value whole, tt)

pub junction-expression-left-requires : goal.junction-expression-left-requires
junction-expression-left-requires t c = ((first-falls c.args.first.now c.args.second.now c.args.others.now t c.decreases).0, tt)

pub junction-expression-right-requires : goal.junction-expression-right-requires
junction-expression-right-requires t c = ((first-falls c.args.first.now c.args.second.now c.args.others.now t c.decreases).1, tt)

pub junction-expression-next-requires : goal.junction-expression-next-requires
junction-expression-next-requires t c =
    (operand-falls c.args.first.now c.args.second.now c.args.others.now c.operands.operand-index t c.operand-item.result c.operands-test.true c.operand-item.is c.decreases, tt)

pub junction-returns-clause-any : goal.junction-returns-clause-any
junction-returns-clause-any t c = either-end c.args.tables.now c.args.roots.now c.args.first.now c.args.second.now c.args.others.now c.operands.operand-index _ c.operands.told (cc) c.operands.invariant (omega arith)

pub junction-returns-clause-all : goal.junction-returns-clause-all
junction-returns-clause-all t c = both-end c.args.tables.now c.args.roots.now c.args.first.now c.args.second.now c.args.others.now c.operands.operand-index _ c.operands.told (cc) c.operands.invariant (omega arith)

pub sum-expression-left-requires : goal.sum-expression-left-requires
sum-expression-left-requires t c = ((first-terms-fall c.args.second.now.sign c.args.first.now c.args.second.now.term c.args.others.now t c.decreases).0, tt)

pub sum-expression-right-requires : goal.sum-expression-right-requires
sum-expression-right-requires t c = ((first-terms-fall c.args.second.now.sign c.args.first.now c.args.second.now.term c.args.others.now t c.decreases).1, tt)

pub sum-expression-term-requires : goal.sum-expression-term-requires
sum-expression-term-requires t c =
    (term-falls c.args.second.now.sign c.args.first.now c.args.second.now.term c.args.others.now c.terms.addend-index t c.addend-item.result c.terms-test.true c.addend-item.is c.decreases, tt)

pub sum-returns : goal.sum-returns
sum-returns t c = sum-end c.args.tables.now c.args.roots.now c.args.second.now.sign c.args.first.now c.args.second.now.term c.args.others.now c.terms.addend-index _ c.terms.told (cc) c.terms.invariant (omega arith)

pub arguments_of-expression-next-requires : goal.arguments_of-expression-next-requires
arguments_of-expression-next-requires t c =
    (argument-falls c.args.arguments.now c.arguments.argument-index t c.argument-item.result c.arguments-test.true c.argument-item.is c.decreases, tt)

pub arguments_of-returns : goal.arguments_of-returns
arguments_of-returns t c = arguments-end c.args.tables.now c.args.roots.now c.args.arguments.now c.arguments.argument-index _ c.arguments.told (cc) c.arguments.invariant (omega arith)
