-- The programs of VCL texts.
use Rattle.std.specs.Prelude.{◌≡◌, ℕ, List}
use Rattle.vcl_tree.specs.declared.item.Tree.{Tree}
use Rattle.vmod_host.specs.declared.signature.Stored.{Stored}
use Rattle.vcl_store.specs.Joined.{IsJoined}
use Rattle.vcl_library.specs.Functions.{std_functions}

-- a program with this tree, made with these functions, is one of the text: its tree with the built-in text behind it
pub record IsProgramOf (text : List ℕ) (tree : Tree) (stored : List Stored) : Type 0 where
  pub joined : ∥ IsJoined text tree ∥₁
  pub functions : stored ≡ std_functions
