-- Files by name.
use Rattle.std.specs.Prelude.{◌≡◌, ℕ, Bool, List, find, Option, Some, None}
use Rattle.std.specs.Option.{option_map}
use Rattle.std.specs.Str.{bytes_eq}
use Rattle.wire.specs.Calls.{Counted}
use Rattle.world.specs.declared.file.File.{File}

abbrev pub has_name : List ℕ → File → Bool
has_name name file = bytes_eq name file.name

-- the text of the first file of that name
abbrev pub text_named : List ℕ → List File → Option (List ℕ)
text_named name files = option_map (λ file. file.text) (find (has_name name) files)

-- this is what the files have of that name, where they are told
abbrev pub IsShelved : Option (List File) → List ℕ → Option (List ℕ) → Type 0
IsShelved None name text = Unit {0}
IsShelved (Some files) name text = text ≡ text_named name files

-- a shelf in memory: its files, and its calls
pub record ShelfState : Type 0 where
  pub files : List File
  pub reads : Counted
