use Rattle.std.proofs.Common.{◌≡◌, ◌+◌, ◌*◌, drop}
use Rattle.vcl_tree.specs.Phrase.{Node, Either, chain, list_of, phrase_size}
use Rattle.vcl_tree.specs.ExpressionView.{sum_of, sum_label}
use Rattle.vcl_check.proofs.MentionLemmas.{with_each, with_addends}
use Rattle.vcl_check.proofs.mentions.+in_expression.Given as goal

abbrev pub decreases-in_expression : goal.decreases-in_expression
decreases-in_expression l = 2 * phrase_size l.e.now + 1

abbrev pub decreases-in_operands : goal.decreases-in_operands
decreases-in_operands l = 2 * phrase_size (chain Either (Node Either l.first.now l.second.now) l.others.now)

abbrev pub decreases-in_terms : goal.decreases-in_terms
decreases-in_terms l = 2 * phrase_size (sum_of (Node (sum_label l.second.now.sign) l.first.now l.second.now.term) l.others.now)

abbrev pub decreases-in_arguments : goal.decreases-in_arguments
decreases-in_arguments l = 2 * phrase_size (list_of l.arguments.now)

abbrev pub invariant-in_operands-operands : goal.invariant-in_operands-operands
invariant-in_operands-operands l = with_each l.out.items (drop l.operand-index l.others) ≡ with_each l.initial.out.items l.others

abbrev pub invariant-in_terms-terms : goal.invariant-in_terms-terms
invariant-in_terms-terms l = with_addends l.out.items (drop l.addend-index l.others) ≡ with_addends l.initial.out.items l.others

abbrev pub invariant-in_arguments-arguments : goal.invariant-in_arguments-arguments
invariant-in_arguments-arguments l = with_each l.out.items (drop l.argument-index l.arguments) ≡ with_each l.initial.out.items l.arguments
