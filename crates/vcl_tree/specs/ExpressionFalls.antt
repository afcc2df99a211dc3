-- Each operand has fewer parts than the expression.
use Rattle.std.specs.Prelude.{◌≤◌, ◌+◌, max, List, [], ◌∷◌}
use Rattle.std.proofs.Common.{arith}
use denote.Param.Weighed.{most}
use Rattle.vcl_tree.specs.Phrase.{Phrase, Label, Node, Nothing, More, Either, Both, chain, phrase_size}
use Rattle.vcl_tree.specs.ExpressionView.{expression_of, sum_of, sum_label}
use Rattle.vcl_tree.specs.declared.expression.Addend.{Addend}
use Rattle.vcl_tree.specs.declared.expression.Operation.{Operation}
use Rattle.vcl_tree.specs.declared.expression.Operation.TheVariants as operation
use Rattle.vcl_tree.specs.declared.expression.Expression.TheDeep.{deep-Operation, deep-Addend}

pub chain_longer : (label : Label) (front : Phrase) (parts : List Phrase) → phrase_size front ≤ phrase_size (chain label front parts)
chain_longer label front [] = omega arith
chain_longer label front (part ∷ parts) = omega (arith, chain_longer label (Node label front part) parts)

pub most_chain : (label : Label) (front : Phrase) (parts : List Phrase) → most (λ p. phrase_size p + 1) parts ≤ phrase_size (chain label front parts)
most_chain label front [] = omega arith
most_chain label front (part ∷ parts) = omega (arith, most_chain label (Node label front part) parts, chain_longer label (Node label front part) parts)

sum_longer : (front : Phrase) (addends : List Addend) → phrase_size front ≤ phrase_size (sum_of front addends)
sum_longer front [] = omega arith
sum_longer front (a ∷ addends) = omega (arith, sum_longer (Node (sum_label a.sign) front a.term) addends)

most_sum : (front : Phrase) (addends : List Addend) → most deep-Addend addends ≤ phrase_size (sum_of front addends)
most_sum front [] = omega arith
most_sum front (a ∷ addends) = omega (arith, most_sum (Node (sum_label a.sign) front a.term) addends, sum_longer (Node (sum_label a.sign) front a.term) addends)

pub falls : (o : Operation) → max (deep-Operation o) 0 ≤ phrase_size (expression_of o)
falls (operation.Any first second others) = omega (arith, most_chain Either (Node Either first.value second.value) others.items, chain_longer Either (Node Either first.value second.value) others.items)
falls (operation.All first second others) = omega (arith, most_chain Both (Node Both first.value second.value) others.items, chain_longer Both (Node Both first.value second.value) others.items)
falls (operation.Not place e) = omega arith
falls (operation.Compare how a b) = omega arith
falls (operation.Sum first second others) = let front = Node (sum_label (second.value).sign) first.value (second.value).term in omega (arith, most_sum front others.items, sum_longer front others.items)
falls (operation.Group place e) = omega arith
falls (operation.String place text) = omega arith
falls (operation.Integer place n) = omega arith
falls (operation.Weight place text) = omega arith
falls (operation.Duration place n) = omega arith
falls (operation.Name place text) = omega arith
falls (operation.Call place text arguments) = omega (arith, most_chain More Nothing arguments.items)
