-- How an object that waits for the lurker is come to.
use Rattle.std.proofs.Common.{◌≡◌, ◌≤◌, ◌<◌, ℕ, Bool, true, false, cond, List, [], ◌∷◌, ◌||◌, Option, Some, None, Less, refl, arith, subst}
use Rattle.std.specs.Prelude.{nat_eq, nat_le}
use Rattle.std.specs.Ordering.{nat_cmp}
use Rattle.std.specs.List.{list_any, AllByRecursion}
use Rattle.std.specs.List.Sorted.{IsStrictlySortedBy}
use Rattle.std.specs.Map.{keys_of, lookup}
use Rattle.std.proofs.lemmas.Bool.{eqb-true, leb-false, leb-true}
use Rattle.std.proofs.lemmas.Bool.Decides.{nat_tests}
use Rattle.object_heads.specs.Members.{AreInOrder, first_from}
use Rattle.lazy_store.specs.Tied.{AreApart}

or_right : (a : Bool) {b : Bool} → b ≡ true → (a || b) ≡ true
or_right true e = refl
or_right false e = e

pub true_false : (b : Bool) → b ≡ true → b ≡ false → ⊥
true_false b e f = cc

below_of : (a b : ℕ) → nat_cmp a b ≡ Less → a ≤ b
below_of a b e = grind (arith, nat_tests)

not_from : (from n : ℕ) → nat_le from n ≡ false → from ≤ n → ⊥
not_from from n e f = let below : n < from = leb-false from n e in omega arith

module _ {X : Type 0} where
  all_other : (handle own : ℕ) (item : X) (ms : List (ℕ × X)) → handle ≡ own → AllByRecursion (λ (x : ℕ × X). nat_eq own x.0 ≡ false) ms
      → AllByRecursion (λ (x : ℕ × X). nat_eq handle x.0 ≡ true → x.1 ≡ item) ms
  all_other handle own item [] same others = tt
  all_other handle own item (m ∷ ms) same others =
      ((λ f. absurd (true_false (nat_eq handle m.0) f (rw same others.0))), all_other handle own item ms same others.1)

  -- ---- what is looked up

  there_case : (test : X → Bool) (m : ℕ × X) (ms : List (ℕ × X)) (item : X) (b : Bool) → (lookup_rest : Option X) → (lookup_rest ≡ Some item → list_any (λ (x : ℕ × X). test x.1) ms ≡ true)
      → cond b (Some m.1) lookup_rest ≡ Some item → test item ≡ true → (test m.1 || list_any (λ (x : ℕ × X). test x.1) ms) ≡ true
  there_case test m ms item true others rest is passes = let same : m.1 ≡ item = cc in rw (same, passes) refl
  there_case test m ms item false others rest is passes = or_right (test m.1) (rest is)

  pub any_looked : (test : X → Bool) (handle : ℕ) (members : List (ℕ × X)) (item : X) → lookup (nat_eq handle) members ≡ Some item → test item ≡ true
      → list_any (λ (x : ℕ × X). test x.1) members ≡ true
  any_looked test handle [] item is passes = cc
  any_looked test handle (m ∷ ms) item is passes =
      there_case test m ms item (nat_eq handle m.0) (lookup (nat_eq handle) ms) (λ e. any_looked test handle ms item e passes) is passes

  only_case : (handle : ℕ) (m : ℕ × X) (ms : List (ℕ × X)) (item : X) (b : Bool) → nat_eq handle m.0 ≡ b → AllByRecursion (λ (x : ℕ × X). nat_eq m.0 x.0 ≡ false) ms
      → (lookup (nat_eq handle) ms ≡ Some item → AllByRecursion (λ (x : ℕ × X). nat_eq handle x.0 ≡ true → x.1 ≡ item) ms)
      → cond b (Some m.1) (lookup (nat_eq handle) ms) ≡ Some item → AllByRecursion (λ (x : ℕ × X). nat_eq handle x.0 ≡ true → x.1 ≡ item) (m ∷ ms)
  only_case handle m ms item true e others rest is =
      ((λ f. cc), all_other handle m.0 item ms (eqb-true handle m.0 e) others)
  only_case handle m ms item false e others rest is = ((λ f. absurd (true_false (nat_eq handle m.0) f e)), rest is)

  pub only_looked : (handle : ℕ) (members : List (ℕ × X)) (item : X) → AreApart (λ (x : ℕ × X). x.0) members → lookup (nat_eq handle) members ≡ Some item
      → AllByRecursion (λ (x : ℕ × X). nat_eq handle x.0 ≡ true → x.1 ≡ item) members
  only_looked handle [] item apart is = tt
  only_looked handle (m ∷ ms) item apart is =
      only_case handle m ms item (nat_eq handle m.0) refl apart.0 (only_looked handle ms item apart.1) is

  none_case : (handle : ℕ) (m : ℕ × X) (ms : List (ℕ × X)) (b : Bool) → nat_eq handle m.0 ≡ b → (lookup (nat_eq handle) ms ≡ None → AllByRecursion (λ (x : ℕ × X). nat_eq handle x.0 ≡ false) ms)
      → cond b (Some m.1) (lookup (nat_eq handle) ms) ≡ None → AllByRecursion (λ (x : ℕ × X). nat_eq handle x.0 ≡ false) (m ∷ ms)
  none_case handle m ms true e rest is = cc
  none_case handle m ms false e rest is = (e, rest is)

  pub none_looked : (handle : ℕ) (members : List (ℕ × X)) → lookup (nat_eq handle) members ≡ None → AllByRecursion (λ (x : ℕ × X). nat_eq handle x.0 ≡ false) members
  none_looked handle [] is = tt
  none_looked handle (m ∷ ms) is = none_case handle m ms (nat_eq handle m.0) refl (none_looked handle ms) is

  -- ---- the first from a handle on

  above_all : (from low : ℕ) (ms : List (ℕ × X)) → AllByRecursion (λ (y : ℕ). nat_cmp low y ≡ Less) (keys_of ms) → AllByRecursion (λ (x : ℕ × X). from ≤ x.0 → low ≤ x.0) ms
  above_all from low [] above = tt
  above_all from low (m ∷ ms) above = ((λ e. below_of low m.0 above.0), above_all from low ms above.1)

  lowest_case : (from next : ℕ) (m : ℕ × X) (ms : List (ℕ × X)) (b : Bool) → nat_le from m.0 ≡ b → AllByRecursion (λ (y : ℕ). nat_cmp m.0 y ≡ Less) (keys_of ms)
      → (first_from from ms ≡ Some next → AllByRecursion (λ (x : ℕ × X). from ≤ x.0 → next ≤ x.0) ms)
      → first_from from (m ∷ ms) ≡ Some next → AllByRecursion (λ (x : ℕ × X). from ≤ x.0 → next ≤ x.0) (m ∷ ms)
  lowest_case from next m ms true e above rest is =
      let first = rw e at is in
      let same : m.0 ≡ next = cc in
      subst (λ (n : ℕ). AllByRecursion (λ (x : ℕ × X). from ≤ x.0 → n ≤ x.0) (m ∷ ms)) same ((λ f. omega arith), above_all from m.0 ms above)
  lowest_case from next m ms false e above rest is =
      let later = rw e at is in
      ((λ f. absurd (not_from from m.0 e f)), rest later)

  pub lowest_from : (from next : ℕ) (members : List (ℕ × X)) → AreInOrder members → first_from from members ≡ Some next → AllByRecursion (λ (x : ℕ × X). from ≤ x.0 → next ≤ x.0) members
  unfolding IsStrictlySortedBy
  lowest_from from next [] order is = tt
  lowest_from from next (m ∷ ms) order is = lowest_case from next m ms (nat_le from m.0) refl order.0 (lowest_from from next ms order.1) is

  from_case : (from next : ℕ) (m : ℕ × X) (ms : List (ℕ × X)) (b : Bool) → nat_le from m.0 ≡ b → (first_from from ms ≡ Some next → from ≤ next) → first_from from (m ∷ ms) ≡ Some next → from ≤ next
  from_case from next m ms true e rest is = let first = rw e at is in let same : m.0 ≡ next = cc in subst (λ (n : ℕ). from ≤ n) same (leb-true from m.0 e)
  from_case from next m ms false e rest is = let later = rw e at is in rest later

  pub from_on : (from next : ℕ) (members : List (ℕ × X)) → first_from from members ≡ Some next → from ≤ next
  from_on from next [] is = cc
  from_on from next (m ∷ ms) is = from_case from next m ms (nat_le from m.0) refl (from_on from next ms) is

  end_case : (from : ℕ) (m : ℕ × X) (ms : List (ℕ × X)) (b : Bool) → nat_le from m.0 ≡ b → (first_from from ms ≡ None → AllByRecursion (λ (x : ℕ × X). x.0 < from) ms)
      → first_from from (m ∷ ms) ≡ None → AllByRecursion (λ (x : ℕ × X). x.0 < from) (m ∷ ms)
  end_case from m ms true e rest is = let first = rw e at is in cc
  end_case from m ms false e rest is = let later = rw e at is in (leb-false from m.0 e, rest later)

  pub none_from : (from : ℕ) (members : List (ℕ × X)) → first_from from members ≡ None → AllByRecursion (λ (x : ℕ × X). x.0 < from) members
  none_from from [] is = tt
  none_from from (m ∷ ms) is = end_case from m ms (nat_le from m.0) refl (none_from from ms) is

  -- ---- what holds of all

  pub all_by : (P Q R S : X → Type 0) → ((x : X) → P x → Q x → R x → S x) → (xs : List X) → AllByRecursion P xs → AllByRecursion Q xs → AllByRecursion R xs → AllByRecursion S xs
  all_by P Q R S on [] p q r = tt
  all_by P Q R S on (x ∷ xs) p q r = (on x p.0 q.0 r.0, all_by P Q R S on xs p.1 q.1 r.1)
