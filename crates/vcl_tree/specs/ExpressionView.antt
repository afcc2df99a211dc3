-- What a clause sees of an expression.
use Rattle.std.specs.Prelude.{List, [], ◌∷◌}
use Rattle.vcl_tree.specs.Phrase.{Phrase, Label, At, Named, String, Weight, Integer, Duration, Node, Either, Both, Not, Compared, Added, Subtracted, Group, Called, chain, list_of}
use Rattle.vcl_tree.specs.declared.expression.Operation.{Operation}
use Rattle.vcl_tree.specs.declared.expression.Operation.TheVariants as operation
use Rattle.vcl_tree.specs.declared.expression.Addition.{Addition}
use Rattle.vcl_tree.specs.declared.expression.Addition.TheVariants.{Plus, Minus}
use Rattle.vcl_tree.specs.declared.expression.Addend.{Addend}

abbrev pub sum_label : Addition → Label
sum_label Plus = Added
sum_label Minus = Subtracted

-- a sum from left to right
abbrev pub sum_of : Phrase → List Addend → Phrase
sum_of front [] = front
sum_of front (a ∷ addends) = sum_of (Node (sum_label a.sign) front a.term) addends

abbrev pub expression_of : Operation → Phrase
expression_of (operation.Any first second others) = chain Either (Node Either first.value second.value) others.items
expression_of (operation.All first second others) = chain Both (Node Both first.value second.value) others.items
expression_of (operation.Not place e) = Node Not (At place) e.value
expression_of (operation.Compare how a b) = Node (Compared how) a.value b.value
expression_of (operation.Sum first second others) = sum_of (Node (sum_label (second.value).sign) first.value (second.value).term) others.items
expression_of (operation.Group place e) = Node Group (At place) e.value
expression_of (operation.String place text) = String place text
expression_of (operation.Integer place n) = Integer place n
expression_of (operation.Weight place text) = Weight place text
expression_of (operation.Duration place n) = Duration place n
expression_of (operation.Name place text) = Named place text
expression_of (operation.Call place text arguments) = Node Called (Named place text) (list_of arguments.items)
