-- A chain binds as loosely as its operator.
use Rattle.std.proofs.Common.{◌≤◌, List, [], ◌∷◌, arith}
use Rattle.vcl_tree.specs.Phrase.{Phrase, Node, Both, chain}
use Rattle.vcl_tree.specs.ExpressionForm.{looseness, looseness_of}
use Rattle.vcl_tree.specs.ExpressionView.{sum_of, sum_label}
use Rattle.vcl_tree.specs.declared.expression.Addition.{Addition}
use Rattle.vcl_tree.specs.declared.expression.Addition.TheVariants.{Plus, Minus}
use Rattle.vcl_tree.specs.declared.expression.Addend.{Addend}

pub chain_binds : (front : Phrase) (parts : List Phrase) → looseness front ≤ 4 → looseness (chain Both front parts) ≤ 4
chain_binds front [] h = h
chain_binds front (part ∷ parts) h = chain_binds (Node Both front part) parts (omega arith)

addition_binds : (sign : Addition) → looseness_of (sum_label sign) ≤ 1
addition_binds Plus = omega arith
addition_binds Minus = omega arith

pub sum_binds : (front : Phrase) (addends : List Addend) → looseness front ≤ 1 → looseness (sum_of front addends) ≤ 1
sum_binds front [] h = h
sum_binds front (a ∷ addends) h = sum_binds (Node (sum_label a.sign) front a.term) addends (addition_binds a.sign)

pub ruleset binding = (chain_binds, sum_binds)
