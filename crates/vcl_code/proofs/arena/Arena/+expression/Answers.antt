use Rattle.std.proofs.Common.{arith}
use Rattle.vcl_code.proofs.Chains.{junction-end, sum-end, arguments-end, operand-falls, first-falls, term-falls, first-terms-fall, argument-falls}
use Rattle.vcl_code.proofs.arena.Arena.+expression.Goals as goal

pub junction-expression-requires : goal.junction-expression-requires
junction-expression-requires t c = ((first-falls c.args.junction c.args.first.now c.args.second.now c.args.others.now t c.decreases).0, tt)

pub junction-expression-requires-2 : goal.junction-expression-requires-2
junction-expression-requires-2 t c = ((first-falls c.args.junction c.args.first.now c.args.second.now c.args.others.now t c.decreases).1, tt)

pub junction-expression-requires-in-operands : goal.junction-expression-requires-in-operands
junction-expression-requires-in-operands t c =
    (operand-falls c.args.junction c.args.first.now c.args.second.now c.args.others.now c.operands.operand-index t c.operand-item.result c.operands-test.true c.operand-item.is c.decreases, tt)

pub junction-returns : goal.junction-returns
junction-returns t c =
    junction-end c.args.names.now c.args.junction c.args.first.now c.args.second.now c.args.self.now c.args.others.now c.operands.operand-index _ _ _ _ _ _ _ _ c.in_ok-left.ensures c.in_ok-right.ensures (rw c.joined.ensures at c.in_ok-front.ensures) c.operands.invariant (omega arith)

pub sum-expression-requires : goal.sum-expression-requires
sum-expression-requires t c = ((first-terms-fall c.args.second.now.sign c.args.first.now c.args.second.now.term c.args.others.now t c.decreases).0, tt)

pub sum-expression-requires-2 : goal.sum-expression-requires-2
sum-expression-requires-2 t c = ((first-terms-fall c.args.second.now.sign c.args.first.now c.args.second.now.term c.args.others.now t c.decreases).1, tt)

pub sum-expression-requires-in-terms : goal.sum-expression-requires-in-terms
sum-expression-requires-in-terms t c =
    (term-falls c.args.second.now.sign c.args.first.now c.args.second.now.term c.args.others.now c.terms.addend-index t c.addend-item.result c.terms-test.true c.addend-item.is c.decreases, tt)

pub sum-returns : goal.sum-returns
sum-returns t c =
    sum-end c.args.names.now c.args.second.now.sign c.args.first.now c.args.second.now.term c.args.self.now c.args.others.now c.terms.addend-index _ _ _ _ _ _ _ _ c.in_ok-left.ensures c.in_ok-right.ensures (rw c.summed.ensures at c.in_ok-front.ensures) c.terms.invariant (omega arith)

pub arguments-expression-requires : goal.arguments-expression-requires
arguments-expression-requires t c =
    (argument-falls c.args.arguments.now c.arguments.argument-index t c.argument-item.result c.arguments-test.true c.argument-item.is c.decreases, tt)

pub arguments-returns : goal.arguments-returns
arguments-returns t c = arguments-end _ _ c.args.arguments.now c.arguments.argument-index _ c.arguments.invariant (omega arith)
