-- The one form of an expression: the first operand of a chain binds tighter than the chain's operator, or else the
-- operand's own operands would stand in the chain.
use Rattle.std.specs.Prelude.{ℕ, ◌<◌}
use Rattle.vcl_tree.specs.Phrase.{Phrase, Label, Node, Either, Both, Not, Compared, Added, Subtracted}
use Rattle.vcl_tree.specs.declared.expression.Operation.{Operation}
use Rattle.vcl_tree.specs.declared.expression.Operation.TheVariants as operation

-- How loosely an operator binds its operands: the least for what is whole by itself, as a literal, a call or a group.
abbrev pub looseness_of : Label → ℕ
looseness_of Either = 5
looseness_of Both = 4
looseness_of Not = 3
looseness_of (Compared how) = 2
looseness_of Added = 1
looseness_of Subtracted = 1
looseness_of _ = 0

abbrev pub looseness : Phrase → ℕ
looseness (Node label a b) = looseness_of label
looseness _ = 0

abbrev pub HasOneForm : Operation → Type 0
HasOneForm (operation.Any first second others) = looseness first.value < looseness_of Either
HasOneForm (operation.All first second others) = looseness first.value < looseness_of Both
HasOneForm (operation.Sum first second others) = looseness first.value < looseness_of Added
HasOneForm _ = Unit {0}
