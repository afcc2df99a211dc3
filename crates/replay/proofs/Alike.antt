-- Two lists that are alike item by item: what is found in one is found in the other.
use Rattle.std.proofs.Common.{◌≡◌, ℕ, zero, suc, nat_lt, Bool, true, false, not, cond, List, [], ◌∷◌, ◌++◌, ◌+◌, ◌<◌, ◌≤◌, ◌||◌, Some, None, length, get_or, refl, sym, ◌∙◌, ap, subst, arith, inl, inr}
use Rattle.std.proofs.lemmas.Bool.{ltb-true, ltb-false}
use Rattle.std.proofs.lemmas.List.Folds.{find_at}
use Rattle.std.proofs.lemmas.Option.{slice_get_cases, slice_get_past}
use Rattle.std.specs.Prelude.{find, position, remove, slice_get}
use Rattle.std.specs.List.{list_any, position_or_len}
use Rattle.replay.specs.Went.{AllAlike}

-- what a place that was found tells
place_found : (k n place : ℕ) (b : Bool) → b ≡ nat_lt k n → cond b (Some k) None ≡ Some place → (k ≡ place) × (k < n)
place_found k n place true e found = (cc, ltb-true k n (sym e))
place_found k n place false e found = cc

none_found : (k n : ℕ) (b : Bool) → b ≡ nat_lt k n → cond b (Some k) None ≡ None → n ≤ k
none_found k n true e found = cc
none_found k n false e found = ltb-false k n (sym e)

-- a place that was found is within the list
pub position_within : {X : Type 0} (p : X → Bool) (xs : List X) (place : ℕ) → position p xs ≡ Some place → place < length xs
position_within p xs place at = let told = place_found (position_or_len p xs) (length xs) place _ refl at in omega (arith, told.0, told.1)

either_more : (a b x y : Bool) → a ≡ b → x ≡ y → (a || x) ≡ (b || y)
either_more a b x y p q = ap (λ (z : Bool). z || x) p ∙ ap (λ (z : Bool). b || z) q

first_more : (a b : Bool) (x y : ℕ) → a ≡ b → x ≡ y → cond (not a) (1 + x) 0 ≡ cond (not b) (1 + y) 0
first_more a b x y p q = ap (λ (z : Bool). cond (not z) (1 + x) 0) p ∙ ap (λ (n : ℕ). cond (not b) (1 + n) 0) q

module _ {X Y : Type 0} (same : X → Y → Type 0) where
  pub alike-push : (xs : List X) (ys : List Y) (x : X) (y : Y) → AllAlike same xs ys → same x y → AllAlike same (xs ++ x ∷ []) (ys ++ y ∷ [])
  alike-push [] [] x y are is = (is, tt)
  alike-push [] (b ∷ bs) x y are is = absurd are
  alike-push (a ∷ xs) [] x y are is = absurd are
  alike-push (a ∷ xs) (b ∷ bs) x y are is = (are.0, alike-push xs bs x y are.1 is)

  pub alike-length : (xs : List X) (ys : List Y) → AllAlike same xs ys → length xs ≡ length ys
  alike-length [] [] are = refl
  alike-length [] (b ∷ bs) are = absurd are
  alike-length (a ∷ xs) [] are = absurd are
  alike-length (a ∷ xs) (b ∷ bs) are = ap suc (alike-length xs bs are.1)

  pub alike-nil : (xs : List X) (ys : List Y) → AllAlike same xs ys → xs ≡ [] → ys ≡ []
  alike-nil xs [] are none = refl
  alike-nil xs (b ∷ bs) are none = absurd (subst (λ (zs : List X). AllAlike same zs (b ∷ bs)) none are)

  pub alike-some : (xs : List X) (ys : List Y) → AllAlike same xs ys → ys ≡ [] → xs ≡ []
  alike-some [] ys are none = refl
  alike-some (a ∷ xs) ys are none = absurd (subst (λ (zs : List Y). AllAlike same (a ∷ xs) zs) none are)

  alike-remove : (place : ℕ) (xs : List X) (ys : List Y) → AllAlike same xs ys → AllAlike same (remove xs place) (remove ys place)
  alike-remove zero [] [] are = tt
  alike-remove (suc i) [] [] are = tt
  alike-remove i [] (b ∷ bs) are = absurd are
  alike-remove i (a ∷ xs) [] are = absurd are
  alike-remove zero (a ∷ xs) (b ∷ bs) are = are.1
  alike-remove (suc i) (a ∷ xs) (b ∷ bs) are = (are.0, alike-remove i xs bs are.1)

  alike-at : (place : ℕ) (xs : List X) (ys : List Y) → AllAlike same xs ys → place < length xs → (x : X) (y : Y) → x ≡ get_or xs place x → y ≡ get_or ys place y → same x y
  alike-at i [] [] are short x y e f = absurd (omega arith)
  alike-at i [] (b ∷ bs) are short x y e f = absurd are
  alike-at i (a ∷ xs) [] are short x y e f = absurd are
  alike-at zero (a ∷ xs) (b ∷ bs) are short x y e f = subst (λ (z : X). same z y) (sym e) (subst (λ (z : Y). same a z) (sym f) are.0)
  alike-at (suc i) (a ∷ xs) (b ∷ bs) are short x y e f = alike-at i xs bs are.1 (omega arith) x y e f

  -- tests that agree on items that are alike
  module _ (p : X → Bool) (q : Y → Bool) (agree : (x : X) (y : Y) → same x y → p x ≡ q y) where
    pub alike-any : (xs : List X) (ys : List Y) → AllAlike same xs ys → list_any p xs ≡ list_any q ys
    alike-any [] [] are = refl
    alike-any [] (b ∷ bs) are = absurd are
    alike-any (a ∷ xs) [] are = absurd are
    alike-any (a ∷ xs) (b ∷ bs) are = either_more (p a) (q b) _ _ (agree a b are.0) (alike-any xs bs are.1)

    same_place : (xs : List X) (ys : List Y) → AllAlike same xs ys → position_or_len p xs ≡ position_or_len q ys
    same_place [] [] are = refl
    same_place [] (b ∷ bs) are = absurd are
    same_place (a ∷ xs) [] are = absurd are
    same_place (a ∷ xs) (b ∷ bs) are = first_more (p a) (q b) _ _ (agree a b are.0) (same_place xs bs are.1)

    -- the first that passes the test, and the others
    pub record Found (xs : List X) (ys : List Y) (place : ℕ) (x : X) : Type 0 where
      pub one : Y
      pub is_first : find q ys ≡ Some one
      pub is_same : same x one
      pub others : AllAlike same (remove xs place) (remove ys (position_or_len q ys))

    pub found : (xs : List X) (ys : List Y) (place : ℕ) (x : X) → AllAlike same xs ys → position p xs ≡ Some place → x ≡ get_or xs place x → Found xs ys place x
    found xs ys place x are at x_is =
        let k = position_or_len p xs in
        let told = place_found k (length xs) place _ refl at in
        let first : position_or_len q ys ≡ place = sym (same_place xs ys are) ∙ told.0 in
        let len : length xs ≡ length ys = alike-length xs ys are in
        let short : place < length ys = omega (arith, told.0, told.1, len) in
        let short_too : place < length xs = omega (arith, told.0, told.1) in
        elim (slice_get_cases ys place).1 [
          | inl here ↦ record {
            one = here.0;
            is_first = find_at q ys ∙ (ap (λ (i : ℕ). slice_get ys i) first ∙ here.2);
            is_same = alike-at place xs ys are short_too x here.0 x_is (sym here.3);
            others = subst (λ (i : ℕ). AllAlike same (remove xs place) (remove ys i)) (sym first) (alike-remove place xs ys are);
          }
          | inr past ↦ absurd (omega (arith, past.0))
        ]

    pub not_found : (xs : List X) (ys : List Y) → AllAlike same xs ys → position p xs ≡ None → find q ys ≡ None
    not_found xs ys are at =
        let k = position_or_len p xs in
        let past : length xs ≤ k = none_found k (length xs) _ refl at in
        find_at q ys ∙ slice_get_past ys (position_or_len q ys) (omega (arith, past, alike-length xs ys are, same_place xs ys are))
