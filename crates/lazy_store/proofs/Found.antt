-- A member that is found by a test of what it has: its handle, and what is looked up by that.
use Rattle.std.proofs.Common.{◌≡◌, ℕ, Bool, true, false, cond, List, [], ◌∷◌, Option, Some, None, filter, find, nat_eq, refl, arith, sym, ap, ◌∙◌}
use Rattle.std.specs.Prelude.{option_map, option_and_then, slice_get}
use Rattle.std.specs.List.{AllByRecursion}
use Rattle.std.specs.Map.{keys_of, lookup}
use Rattle.std.proofs.lemmas.Bool.Decides.{nat_tests}
use Rattle.lazy_store.specs.Tied.{AreApart}

pub own_eq : (n : ℕ) → nat_eq n n ≡ true
own_eq n = grind (arith, nat_tests)

swapped : (a b : ℕ) → nat_eq a b ≡ false → nat_eq b a ≡ false
swapped a b e = grind (arith, nat_tests)

module _ {X : Type 0} where
  abbrev pub first_where : (X → Bool) → List (ℕ × X) → Option ℕ
  first_where test members = slice_get (keys_of (filter (λ member. test member.1) members)) 0

  first_case : (test : X → Bool) (m : ℕ × X) (ms : List (ℕ × X)) (b : Bool) → test m.1 ≡ b → first_where test (m ∷ ms) ≡ cond b (Some m.0) (first_where test ms)
  first_case test m ms true e = rw e refl
  first_case test m ms false e = rw e refl

  other_case : (test : X → Bool) (own : ℕ) (m : ℕ × X) (ms : List (ℕ × X)) (b : Bool) (handle : ℕ) → nat_eq own m.0 ≡ false
      → (first_where test ms ≡ Some handle → nat_eq own handle ≡ false) → cond b (Some m.0) (first_where test ms) ≡ Some handle → nat_eq own handle ≡ false
  other_case test own m ms true handle e rest is = let same : m.0 ≡ handle = cc in rw (← same) e
  other_case test own m ms false handle e rest is = rest is

  other_handle : (test : X → Bool) (own : ℕ) (ms : List (ℕ × X)) (handle : ℕ) → AllByRecursion (λ (m : ℕ × X). nat_eq own m.0 ≡ false) ms → first_where test ms ≡ Some handle → nat_eq own handle ≡ false
  other_handle test own [] handle others is = cc
  other_handle test own (m ∷ ms) handle others is =
      other_case test own m ms (test m.1) handle others.0 (other_handle test own ms handle others.1) (sym (first_case test m ms (test m.1) refl) ∙ is)

  abbrev pub looked_up : List (ℕ × X) → ℕ → Option (ℕ × X)
  looked_up members handle = option_map (λ (item : X). (handle, item)) (lookup (nat_eq handle) members)

  behind_case : (m : ℕ × X) (ms : List (ℕ × X)) (first : Option ℕ) → ((handle : ℕ) → first ≡ Some handle → nat_eq m.0 handle ≡ false)
      → option_and_then (looked_up (m ∷ ms)) first ≡ option_and_then (looked_up ms) first
  behind_case m ms None apart = refl
  behind_case m ms (Some handle) apart = rw (swapped m.0 handle (apart handle refl)) refl

  handle_case : (test : X → Bool) (m : ℕ × X) (ms : List (ℕ × X)) (b : Bool) → AllByRecursion (λ (other : ℕ × X). nat_eq m.0 other.0 ≡ false) ms
      → option_and_then (looked_up ms) (first_where test ms) ≡ find (λ (member : ℕ × X). test member.1) ms
      → option_and_then (looked_up (m ∷ ms)) (cond b (Some m.0) (first_where test ms)) ≡ cond b (Some m) (find (λ (member : ℕ × X). test member.1) ms)
  handle_case test m ms true others rest = rw (own_eq m.0) refl
  handle_case test m ms false others rest = behind_case m ms (first_where test ms) (λ handle is. other_handle test m.0 ms handle others is) ∙ rest

  pub by_handle : (test : X → Bool) (members : List (ℕ × X)) → AreApart (λ (member : ℕ × X). member.0) members
      → option_and_then (looked_up members) (first_where test members) ≡ find (λ (member : ℕ × X). test member.1) members
  by_handle test [] apart = refl
  by_handle test (m ∷ ms) apart =
      ap (option_and_then (looked_up (m ∷ ms))) (first_case test m ms (test m.1) refl)
      ∙ handle_case test m ms (test m.1) apart.0 (by_handle test ms apart.1)
