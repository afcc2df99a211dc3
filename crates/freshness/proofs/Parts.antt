-- The parts of a list, one by one.
use Rattle.std.proofs.Common.{◌≡◌, ◌∙◌, ap, sym, refl, ℕ, ◌<◌, ◌+◌, Bool, true, false, not, ◌&&◌, List, [], ◌∷◌, ◌++◌, length, get_or, take, drop, drop-cons, add-one, append_assoc}
use Rattle.std.proofs.Math.Seq.{take-length, drop-length}
use Rattle.std.proofs.lemmas.List.{take_more, append-nil}
use Rattle.std.specs.Prelude.{if◌then◌else◌}
use Rattle.std.specs.List.{onto_first}
use Rattle.freshness.specs.Directives.{is_comma}
use Rattle.freshness.specs.Validators.{parts, is_quoted_behind}

-- parts of which the first has more in front
abbrev pub onto_front : List ℕ → List (List ℕ) → List (List ℕ)
onto_front front [] = front ∷ []
onto_front front (part ∷ more) = (front ++ part) ∷ more

onto_front_more : (front : List ℕ) (byte : ℕ) (parts : List (List ℕ)) → onto_front front (onto_first byte parts) ≡ onto_front (front ++ byte ∷ []) parts
onto_front_more front byte [] = refl
onto_front_more front byte (part ∷ more) = ap (λ whole. whole ∷ more) (sym (append_assoc front (byte ∷ []) part))

module _ (list : List ℕ) (place : ℕ) (quoted : Bool) (within : place < length list) where
  -- a byte that ends no part belongs to it
  pub part_goes_on : (is_comma (get_or list place 0) && not quoted) ≡ false
      → onto_front (take place list) (parts quoted (drop place list))
      ≡ onto_front (take (place + 1) list) (parts (is_quoted_behind quoted (get_or list place 0)) (drop (place + 1) list))
  part_goes_on other =
      rw (drop-cons list place 0, other)
      (onto_front_more (take place list) (get_or list place 0) _ ∙ rw (← take_more list place 0 within, add-one) refl)

  -- a part ends before its comma
  pub part_ends : (is_comma (get_or list place 0) && not quoted) ≡ true
      → onto_front (take place list) (parts quoted (drop place list)) ≡ take place list ∷ parts false (drop (place + 1) list)
  part_ends comma = rw (drop-cons list place 0, comma, append-nil, add-one) refl

-- a list has a first part, and nothing stands in front of it
pub parts_begin : (quoted : Bool) (list : List ℕ) → parts quoted list ≡ onto_front [] (parts quoted list)
parts_begin quoted [] = refl
parts_begin quoted (byte ∷ more) = begins (is_comma byte && not quoted) (parts (is_quoted_behind quoted byte) more)
  where
    begins : (ends : Bool) (others : List (List ℕ))
        → (if ends then [] ∷ parts false more else onto_first byte others) ≡ onto_front [] (if ends then [] ∷ parts false more else onto_first byte others)
    begins true others = refl
    begins false [] = refl
    begins false (part ∷ others) = refl

-- a list without such a comma is one part
pub list_ends : (list : List ℕ) (quoted : Bool) → onto_front (take (length list) list) (parts quoted (drop (length list) list)) ≡ list ∷ []
list_ends list quoted = rw (take-length list, drop-length list, append-nil) refl
