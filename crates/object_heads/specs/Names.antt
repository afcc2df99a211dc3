-- The name under which the objects of a key stand.
use Rattle.std.specs.Prelude.{ℕ, ◌≡◌, ◌<◌, List, slice_index_or}
use Rattle.std.specs.declared.cmp.Ordering.{Ordering}
use Rattle.std.specs.Ordering.{nat_cmp, ordering_then}
use Rattle.std.specs.Cmp.Lexicographic.{slice_cmp}
use Rattle.std.specs.List.{flat_map, AllByRecursion}
use Rattle.units.specs.Quoted.{quote_of}
use Rattle.directors.specs.KeyWord.{key_word_of}
use Rattle.object_heads.specs.declared.name.Name.{Name}

-- the texts of a key, each quoted, joined
abbrev pub joined : List (List ℕ) → List ℕ
joined key = flat_map quote_of key

abbrev pub name_of : List (List ℕ) → Name
name_of key = record { word = key_word_of (joined key); text = joined key }

-- by the numbers, and among equal numbers by the texts
abbrev pub name_cmp : Name → Name → Ordering
name_cmp a b = ordering_then (nat_cmp a.word b.word) (slice_cmp nat_cmp a.text b.text)

abbrev pub AreBytes : List (List ℕ) → Type 0
AreBytes key = AllByRecursion (λ text. (i : ℕ) → slice_index_or text i 0 < 256) key

-- The name is the key's, whose texts are of bytes: so no other such key has it.
pub record IsNameOf (name : Name) (key : List (List ℕ)) : Type 0 where
  pub is : name ≡ name_of key
  pub bytes : AreBytes key
