use Rattle.std.proofs.Common.{◌≡◌, ◌+◌, ◌*◌, ◌∙◌, List, refl, ap, arith}
use Rattle.vcl_tree.specs.Phrase.{Node, Either, Both, chain, phrase_size}
use Rattle.vcl_check.specs.Mentions.{Said, with_strings}
use Rattle.vcl_check.proofs.Chains.{operand-falls, first-falls, all-falls, term-falls, first-terms-fall, argument-falls}
use Rattle.vcl_check.proofs.MentionLemmas.{strings-end, sum-strings-end, list-strings-end}
use Rattle.vcl_check.proofs.mentions.+in_expression.Goals as goal

pub in_expression-in_operands-requires-in-All : goal.in_expression-in_operands-requires-in-All
in_expression-in_operands-requires-in-All t c =
    let so_far : 2 * phrase_size c.args.e.now + 1 ≡ t = c.decreases in
    let whole : 2 * phrase_size (chain Both (Node Both (c.in-All.first).value (c.in-All.second).value) (c.in-All.others).items) + 1 ≡ t = rw (← c.e.view_is, c.in-All.is) at so_far in
    (all-falls _ _ _ _ _ _ t c.deref-in-All.ensures c.deref-in-All-2.ensures c.deref-in-All-3.ensures.value whole, tt)

pub in_operands-in_expression-requires : goal.in_operands-in_expression-requires
in_operands-in_expression-requires t c = ((first-falls c.args.first.now c.args.second.now c.args.others.now t c.decreases).0, tt)

pub in_operands-in_expression-requires-2 : goal.in_operands-in_expression-requires-2
in_operands-in_expression-requires-2 t c = ((first-falls c.args.first.now c.args.second.now c.args.others.now t c.decreases).1, tt)

pub in_operands-in_expression-requires-in-operands : goal.in_operands-in_expression-requires-in-operands
in_operands-in_expression-requires-in-operands t c =
    (operand-falls c.args.first.now c.args.second.now c.args.others.now c.operands.operand-index t c.operand-item.result c.operands-test.true c.operand-item.is c.decreases, tt)

pub in_operands-returns-clause-any : goal.in_operands-returns-clause-any
in_operands-returns-clause-any t c =
    strings-end Either (λ a b. refl) c.args.out.now.items c.args.first.now c.args.second.now c.args.others.now c.operands.operand-index _ c.operands.out.items
    (c.in_ok-in_expression-2.ensures ∙ ap (λ (s : List Said). with_strings s c.args.second.now) c.in_ok-in_expression.ensures) c.operands.invariant (omega arith)

pub in_operands-returns-clause-all : goal.in_operands-returns-clause-all
in_operands-returns-clause-all t c =
    strings-end Both (λ a b. refl) c.args.out.now.items c.args.first.now c.args.second.now c.args.others.now c.operands.operand-index _ c.operands.out.items
    (c.in_ok-in_expression-2.ensures ∙ ap (λ (s : List Said). with_strings s c.args.second.now) c.in_ok-in_expression.ensures) c.operands.invariant (omega arith)

pub in_terms-in_expression-requires : goal.in_terms-in_expression-requires
in_terms-in_expression-requires t c = ((first-terms-fall c.args.second.now.sign c.args.first.now c.args.second.now.term c.args.others.now t c.decreases).0, tt)

pub in_terms-in_expression-requires-2 : goal.in_terms-in_expression-requires-2
in_terms-in_expression-requires-2 t c = ((first-terms-fall c.args.second.now.sign c.args.first.now c.args.second.now.term c.args.others.now t c.decreases).1, tt)

pub in_terms-in_expression-requires-in-terms : goal.in_terms-in_expression-requires-in-terms
in_terms-in_expression-requires-in-terms t c =
    (term-falls c.args.second.now.sign c.args.first.now c.args.second.now.term c.args.others.now c.terms.addend-index t c.addend-item.result c.terms-test.true c.addend-item.is c.decreases, tt)

pub in_terms-returns : goal.in_terms-returns
in_terms-returns t c =
    sum-strings-end c.args.out.now.items c.args.second.now.sign c.args.first.now c.args.second.now.term c.args.others.now c.terms.addend-index _ c.terms.out.items
    (c.in_ok-in_expression-2.ensures ∙ ap (λ (s : List Said). with_strings s c.args.second.now.term) c.in_ok-in_expression.ensures) c.terms.invariant (omega arith)

pub in_arguments-in_expression-requires : goal.in_arguments-in_expression-requires
in_arguments-in_expression-requires t c =
    (argument-falls c.args.arguments.now c.arguments.argument-index t c.argument-item.result c.arguments-test.true c.argument-item.is c.decreases, tt)

pub in_arguments-returns : goal.in_arguments-returns
in_arguments-returns t c = list-strings-end c.args.out.now.items c.args.arguments.now c.arguments.argument-index _ c.arguments.out.items refl c.arguments.invariant (omega arith)
