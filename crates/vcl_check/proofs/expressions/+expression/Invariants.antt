use Rattle.std.proofs.Common.{◌≡◌, ◌+◌, ◌*◌, drop}
use Rattle.vcl_tree.specs.Phrase.{Node, Either, chain, list_of, phrase_size}
use Rattle.vcl_tree.specs.ExpressionView.{sum_of, sum_label}
use Rattle.vcl_check.specs.declared.form.Form.TheVariants.{Junction, Argument}
use Rattle.vcl_check.specs.Roles.{Value}
use Rattle.vcl_check.proofs.Chains.{chain_told, sum_told}
use Rattle.vcl_check.proofs.expressions.+expression.Given as goal

abbrev pub decreases-expression : goal.decreases-expression
decreases-expression l = 2 * phrase_size l.e.now + 1

abbrev pub decreases-junction : goal.decreases-junction
decreases-junction l = 2 * phrase_size (chain Either (Node Either l.first.now l.second.now) l.others.now)

abbrev pub decreases-sum : goal.decreases-sum
decreases-sum l = 2 * phrase_size (sum_of (Node (sum_label l.second.now.sign) l.first.now l.second.now.term) l.others.now)

abbrev pub decreases-arguments_of : goal.decreases-arguments_of
decreases-arguments_of l = 2 * phrase_size (list_of l.arguments.now)

abbrev pub invariant-junction-operands : goal.invariant-junction-operands
invariant-junction-operands l = chain_told l.tables l.roots Junction Value l.told (drop l.operand-index l.others) ≡ chain_told l.tables l.roots Junction Value l.initial.told l.others

abbrev pub invariant-sum-terms : goal.invariant-sum-terms
invariant-sum-terms l = sum_told l.tables l.roots l.told (drop l.addend-index l.others) ≡ sum_told l.tables l.roots l.initial.told l.others

abbrev pub invariant-arguments_of-arguments : goal.invariant-arguments_of-arguments
invariant-arguments_of-arguments l = chain_told l.tables l.roots Argument Value l.told (drop l.argument-index l.arguments) ≡ chain_told l.tables l.roots Argument Value l.initial.told l.arguments
