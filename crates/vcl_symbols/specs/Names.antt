-- A map from names to the place of the first equal one in a list.
use Rattle.std.specs.Prelude.{ℕ, ◌≡◌, List, position}
use Rattle.std.specs.BTreeMap.{BTreeMap, get_by}
use Rattle.std.specs.Cmp.Lexicographic.{slice_cmp}
use Rattle.std.specs.Ordering.{nat_cmp}
use Rattle.std.specs.Str.{bytes_eq}
use denote.Ref.{Bor}

-- looking a name up in the map gives the position of the first equal one in the list
abbrev pub FindsFirst : BTreeMap (Bor (List ℕ)) ℕ → List (List ℕ) → Type 0
FindsFirst places names =
    (name : List ℕ) → get_by (λ key. slice_cmp nat_cmp name key.now) places ≡ position (λ other. bytes_eq name other) names
