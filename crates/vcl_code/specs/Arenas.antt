-- Flat lists that grow at their ends, and what is put in with the number that it gets.
use Rattle.std.specs.Prelude.{ℕ, List, [], ◌∷◌, ◌++◌, length}
use Rattle.vcl_code.specs.declared.arena.Arena.{Arena}
use Rattle.vcl_code.specs.declared.node.Node.{Node}
use Rattle.vcl_code.specs.declared.node.Block.{Block}
use Rattle.vcl_code.specs.declared.node.Block.TheVariants.{End}
use Rattle.vcl_code.specs.declared.node.Branch.{Branch}

-- a number, and the lists behind it
pub record Numbered : Type 0 where
  pub number : ℕ
  pub arena : Arena

abbrev pub at : ℕ → Arena → Numbered
at number arena = record { number = number; arena = arena }

-- no node yet; the block of number 0 has no statement
abbrev pub empty : Arena
empty = record { nodes = []; blocks = End ∷ []; branches = []; texts = []; patterns = [] }

abbrev pub with_node : Node → Arena → Numbered
with_node node a = at (length a.nodes) (record a { nodes = a.nodes ++ node ∷ [] })

abbrev pub with_block : Block → Arena → Numbered
with_block block a = at (length a.blocks) (record a { blocks = a.blocks ++ block ∷ [] })

abbrev pub with_branch : Branch → Arena → Numbered
with_branch branch a = at (length a.branches) (record a { branches = a.branches ++ branch ∷ [] })

abbrev pub with_text : List ℕ → Arena → Numbered
with_text text a = at (length a.texts) (record a { texts = a.texts ++ text ∷ [] })

abbrev pub with_pattern : List ℕ → Arena → Numbered
with_pattern source a = at (length a.patterns) (record a { patterns = a.patterns ++ source ∷ [] })

-- what is numbered, and then a node of its number; and of the numbers of two
abbrev pub one : (ℕ → Node) → Numbered → Numbered
one make a = with_node (make a.number) a.arena

abbrev pub two : (ℕ → ℕ → Node) → Numbered → (Arena → Numbered) → Numbered
two make a second = one (make a.number) (second a.arena)

abbrev pub three : (ℕ → ℕ → ℕ → Node) → Numbered → (Arena → Numbered) → (Arena → Numbered) → Numbered
three make a second third = two (make a.number) (second a.arena) third
