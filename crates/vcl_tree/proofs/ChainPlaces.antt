-- A chain begins where its first operand does.
use Rattle.std.proofs.Common.{◌≡◌, ℕ, List, [], ◌∷◌, Option, Some, None}
use Rattle.vcl_tree.specs.Phrase.{Phrase, Label, Node, chain}
use Rattle.vcl_tree.specs.ExpressionView.{sum_of, sum_label}
use Rattle.vcl_tree.specs.StatementView.{with_else}
use Rattle.vcl_tree.specs.Places.{place_of}
use Rattle.vcl_tree.specs.declared.expression.Addend.{Addend}

pub chain_place : (label : Label) (front : Phrase) (parts : List Phrase) (place : ℕ) → place_of front ≡ Some place → place_of (chain label front parts) ≡ Some place
chain_place label front [] place e = e
chain_place label front (part ∷ parts) place e = chain_place label (Node label front part) parts place (rw e)

pub sum_place : (front : Phrase) (addends : List Addend) (place : ℕ) → place_of front ≡ Some place → place_of (sum_of front addends) ≡ Some place
sum_place front [] place e = e
sum_place front (a ∷ addends) place e = sum_place (Node (sum_label a.sign) front a.term) addends place (rw e)

pub else_place : (branches : Phrase) (otherwise : Option Phrase) (place : ℕ) → place_of branches ≡ Some place → place_of (with_else branches otherwise) ≡ Some place
else_place branches None place e = e
else_place branches (Some block) place e = rw e
