use Rattle.std.proofs.Common.{◌≡◌, ◌+◌, ◌*◌, drop}
use Rattle.vcl_tree.specs.Phrase.{list_of, phrase_size}
use Rattle.vcl_code.specs.declared.node.Arguments.TheVariants.{Zero}
use Rattle.vcl_code.specs.Arenas.{at}
use Rattle.vcl_code.specs.Expressions.{given, joined, operands_of, terms_of}
use Rattle.vcl_code.proofs.Chains.{operands, terms, further}
use Rattle.vcl_code.proofs.arena.Arena.+expression.Given as goal

abbrev pub decreases-expression : goal.decreases-expression
decreases-expression l = 2 * phrase_size l.e.now + 1

abbrev pub decreases-junction : goal.decreases-junction
decreases-junction l = 2 * phrase_size (operands_of l.junction l.first.now l.second.now l.others.now)

abbrev pub decreases-sum : goal.decreases-sum
decreases-sum l = 2 * phrase_size (terms_of l.first.now l.second.now l.others.now)

abbrev pub decreases-arguments : goal.decreases-arguments
decreases-arguments l = 2 * phrase_size (list_of l.arguments.now)

abbrev pub invariant-junction-operands : goal.invariant-junction-operands
invariant-junction-operands l = operands l.names (joined l.junction) (at l.front l.self) (drop l.operand-index l.others) ≡ operands l.names (joined l.junction) (at l.initial.front l.initial.self) l.others

abbrev pub invariant-sum-terms : goal.invariant-sum-terms
invariant-sum-terms l = terms l.names (at l.front l.self) (drop l.addend-index l.others) ≡ terms l.names (at l.initial.front l.initial.self) l.others

abbrev pub invariant-arguments-arguments : goal.invariant-arguments-arguments
invariant-arguments-arguments l = further l.names (given l.given l.self) (drop l.argument-index l.arguments) ≡ further l.names (given Zero l.initial.self) l.arguments
