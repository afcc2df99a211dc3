-- Lists around one of their items.
use Rattle.std.proofs.Common.{◌≡◌, ◌+◌, ℕ, Bool, true, false, cond, List, [], ◌∷◌, ◌++◌, ◌||◌, Some, None, filter, find, map, length, nat_eq, refl, arith, sym, ap, ◌∙◌, subst}
use Rattle.std.specs.Prelude.{sum_by, nat_lt}
use Rattle.std.specs.List.{list_any, AllByRecursion}
use Rattle.std.proofs.lemmas.Bool.{false≢true, lt-ltb}
use Rattle.std.proofs.lemmas.Bool.Decides.{nat_tests}
use Rattle.std.proofs.lemmas.List.Sums.{sum_by-append, sum_by-cons}
use Rattle.lazy_store.specs.Tied.{AreAlike, AreApart}

pub eq_turned : (a b : ℕ) → nat_eq a b ≡ nat_eq b a
eq_turned a b = grind (arith, nat_tests)

abbrev pub one_if : Bool → ℕ
one_if true = 1
one_if false = 0

any_step : (b : Bool) (rest : ℕ) (more : Bool) → more ≡ nat_lt 0 rest → (b || more) ≡ nat_lt 0 (cond b 1 0 + rest)
any_step true rest more e = sym (lt-ltb 0 (1 + rest) (omega arith))
any_step false rest more e = e ∙ ap (nat_lt 0) (omega arith)

any_or : (a b : Bool) → (a || b) ≡ false → (a ≡ false) × (b ≡ false)
any_or true b e = absurd (false≢true (sym e))
any_or false b e = (refl, e)

module _ {X : Type 0} where
  pub record IsSplit (xs : List X) (x : X) : Type 0 where
    pub before : List X
    pub behind : List X
    pub is : xs ≡ before ++ x ∷ behind

  -- ---- what holds of all

  pub all_here : (P : X → Type 0) (before : List X) (x : X) (behind : List X) → AllByRecursion P (before ++ x ∷ behind) → P x
  all_here P [] x behind all = all.0
  all_here P (y ∷ before) x behind all = all_here P before x behind all.1

  pub all_less : (P : X → Type 0) (before : List X) (x : X) (behind : List X) → AllByRecursion P (before ++ x ∷ behind) → AllByRecursion P (before ++ behind)
  all_less P [] x behind all = all.1
  all_less P (y ∷ before) x behind all = (all.0, all_less P before x behind all.1)

  pub all_more : (P : X → Type 0) (before : List X) (x : X) (behind : List X) → P x → AllByRecursion P (before ++ behind) → AllByRecursion P (before ++ x ∷ behind)
  all_more P [] x behind here all = (here, all)
  all_more P (y ∷ before) x behind here all = (all.0, all_more P before x behind here all.1)

  pub all_weaken : (P Q : X → Type 0) → ((x : X) → P x → Q x) → (xs : List X) → AllByRecursion P xs → AllByRecursion Q xs
  all_weaken P Q on [] all = tt
  all_weaken P Q on (x ∷ xs) all = (on x all.0, all_weaken P Q on xs all.1)

  -- ---- numbers that are apart

  turned : (number : X → ℕ) (x : X) (y : X) → nat_eq (number y) (number x) ≡ false → nat_eq (number x) (number y) ≡ false
  turned number x y e = eq_turned (number x) (number y) ∙ e

  pub apart_others : (number : X → ℕ) (before : List X) (x : X) (behind : List X) → AreApart number (before ++ x ∷ behind)
      → AllByRecursion (λ y. nat_eq (number x) (number y) ≡ false) (before ++ behind)
  apart_others number [] x behind apart = apart.0
  apart_others number (y ∷ before) x behind apart =
      (turned number x y (all_here (λ z. nat_eq (number y) (number z) ≡ false) before x behind apart.0), apart_others number before x behind apart.1)

  pub apart_less : (number : X → ℕ) (before : List X) (x : X) (behind : List X) → AreApart number (before ++ x ∷ behind) → AreApart number (before ++ behind)
  apart_less number [] x behind apart = apart.1
  apart_less number (y ∷ before) x behind apart =
      (all_less (λ z. nat_eq (number y) (number z) ≡ false) before x behind apart.0, apart_less number before x behind apart.1)

  pub apart_more : (number : X → ℕ) (before : List X) (x : X) (behind : List X) → AllByRecursion (λ y. nat_eq (number x) (number y) ≡ false) (before ++ behind)
      → AreApart number (before ++ behind) → AreApart number (before ++ x ∷ behind)
  apart_more number [] x behind others apart = (others, apart)
  apart_more number (y ∷ before) x behind others apart =
      (all_more (λ z. nat_eq (number y) (number z) ≡ false) before x behind (turned number y x others.0) apart.0, apart_more number before x behind others.1 apart.1)

  -- ---- filters and maps

  pub filter_all : (test : X → Bool) (xs : List X) → AllByRecursion (λ x. test x ≡ true) xs → filter test xs ≡ xs
  filter_all test [] all = refl
  filter_all test (x ∷ xs) all = rw (all.0, filter_all test xs all.1) refl

  pub filter_less : (test : X → Bool) (before : List X) (x : X) (behind : List X) → test x ≡ false → AllByRecursion (λ y. test y ≡ true) (before ++ behind)
      → filter test (before ++ x ∷ behind) ≡ before ++ behind
  filter_less test [] x behind e all = rw e (filter_all test behind all)
  filter_less test (y ∷ before) x behind e all = rw (all.0, filter_less test before x behind e all.1) refl

  pub map_all : (f : X → X) (xs : List X) → AllByRecursion (λ x. f x ≡ x) xs → map f xs ≡ xs
  map_all f [] all = refl
  map_all f (x ∷ xs) all = rw (all.0, map_all f xs all.1) refl

  pub map_one : (f : X → X) (before : List X) (x : X) (behind : List X) → AllByRecursion (λ y. f y ≡ y) (before ++ behind)
      → map f (before ++ x ∷ behind) ≡ before ++ f x ∷ behind
  map_one f [] x behind all = rw (map_all f behind all) refl
  map_one f (y ∷ before) x behind all = rw (all.0, map_one f before x behind all.1) refl

  -- ---- the first that passes a test

  pub record IsFound (test : X → Bool) (xs : List X) (x : X) : Type 0 where
    pub split : IsSplit xs x
    pub passes : test x ≡ true

  found_step : (test : X → Bool) (y : X) (ys : List X) (x : X) (b : Bool) → test y ≡ b → (find test ys ≡ Some x → IsFound test ys x)
      → cond b (Some y) (find test ys) ≡ Some x → IsFound test (y ∷ ys) x
  found_step test y ys x true e rest is =
      let same : y ≡ x = cc in
      record { split = record { before = []; behind = ys; is = ap (λ (z : X). z ∷ ys) same }; passes = subst (λ (z : X). test z ≡ true) same e }
  found_step test y ys x false e rest is =
      let later : IsFound test ys x = rest is in
      record {
        split = record { before = y ∷ later.split.before; behind = later.split.behind; is = ap (λ (zs : List X). y ∷ zs) later.split.is };
        passes = later.passes;
      }

  pub found : (test : X → Bool) (xs : List X) (x : X) → find test xs ≡ Some x → IsFound test xs x
  found test [] x is = cc
  found test (y ∷ ys) x is = found_step test y ys x (test y) refl (found test ys x) is

  none_step : (test : X → Bool) (y : X) (ys : List X) (b : Bool) → test y ≡ b → (find test ys ≡ None → AllByRecursion (λ x. test x ≡ false) ys)
      → cond b (Some y) (find test ys) ≡ None → AllByRecursion (λ x. test x ≡ false) (y ∷ ys)
  none_step test y ys true e rest is = cc
  none_step test y ys false e rest is = (e, rest is)

  pub none_found : (test : X → Bool) (xs : List X) → find test xs ≡ None → AllByRecursion (λ x. test x ≡ false) xs
  none_found test [] is = tt
  none_found test (y ∷ ys) is = none_step test y ys (test y) refl (none_found test ys) is

  -- ---- sums and counts

  pub sum_among : (weight : X → ℕ) (before : List X) (x : X) (behind : List X) → sum_by weight (before ++ x ∷ behind) ≡ weight x + sum_by weight (before ++ behind)
  sum_among weight before x behind =
      let long = sum_by-append weight before (x ∷ behind) in
      let tail = sum_by-cons weight x behind in
      let rest = sum_by-append weight before behind in
      omega arith

  length_case : (b : Bool) (x : X) (xs : List X) → length (cond b (x ∷ xs) xs) ≡ one_if b + length xs
  length_case true x xs = omega arith
  length_case false x xs = omega arith

  pub count_cons : (test : X → Bool) (x : X) (xs : List X) → length (filter test (x ∷ xs)) ≡ one_if (test x) + length (filter test xs)
  count_cons test x xs = length_case (test x) x (filter test xs)

  pub count_among : (test : X → Bool) (before : List X) (x : X) (behind : List X)
      → length (filter test (before ++ x ∷ behind)) ≡ one_if (test x) + length (filter test (before ++ behind))
  count_among test [] x behind = count_cons test x behind
  count_among test (y ∷ before) x behind =
      let here = count_cons test y (before ++ x ∷ behind) in
      let there = count_cons test y (before ++ behind) in
      let rest = count_among test before x behind in
      omega arith

  -- ---- alike lists

  weighed_step : (test : X → Bool) (weight : X → ℕ) (b : Bool) (x : X) (xs : List X) → test x ≡ b → sum_by weight (filter test xs) ≡ sum_by (λ y. cond (test y) (weight y) 0) xs
      → sum_by weight (cond b (x ∷ filter test xs) (filter test xs)) ≡ cond b (weight x) 0 + sum_by (λ y. cond (test y) (weight y) 0) xs
  weighed_step test weight true x xs e rest = let here = sum_by-cons weight x (filter test xs) in omega arith
  weighed_step test weight false x xs e rest = omega arith

  sum_filter : (test : X → Bool) (weight : X → ℕ) (xs : List X) → sum_by weight (filter test xs) ≡ sum_by (λ y. cond (test y) (weight y) 0) xs
  sum_filter test weight [] = refl
  sum_filter test weight (x ∷ xs) =
      weighed_step test weight (test x) x xs refl (sum_filter test weight xs) ∙ sym (sum_by-cons (λ y. cond (test y) (weight y) 0) x xs)

  pub alike_filter : (test : X → Bool) (one other : List X) → AreAlike one other → AreAlike (filter test one) (filter test other)
  alike_filter test one other alike =
      λ weight. sum_filter test weight one ∙ alike (λ y. cond (test y) (weight y) 0) ∙ sym (sum_filter test weight other)

  -- one more at the end of one, and anywhere in the other
  pub alike_more : (one before : List X) (x : X) (behind : List X) → AreAlike one (before ++ behind) → AreAlike (one ++ x ∷ []) (before ++ x ∷ behind)
  alike_more one before x behind alike =
      λ weight.
      let long = sum_by-append weight one (x ∷ []) in
      let tail = sum_by-cons weight x [] in
      let same = alike weight in
      let among = sum_among weight before x behind in
      omega arith

  any_counted : (test : X → Bool) (xs : List X) → list_any test xs ≡ nat_lt 0 (sum_by (λ y. cond (test y) 1 0) xs)
  any_counted test [] = refl
  any_counted test (x ∷ xs) =
      any_step (test x) (sum_by (λ y. cond (test y) 1 0) xs) (list_any test xs) (any_counted test xs)
      ∙ ap (nat_lt 0) (sym (sum_by-cons (λ y. cond (test y) 1 0) x xs))

  pub any_alike : (test : X → Bool) (one other : List X) → AreAlike one other → list_any test one ≡ list_any test other
  any_alike test one other alike = any_counted test one ∙ ap (nat_lt 0) (alike (λ y. cond (test y) 1 0)) ∙ sym (any_counted test other)

  pub all_fail : (test : X → Bool) (xs : List X) → list_any test xs ≡ false → AllByRecursion (λ x. test x ≡ false) xs
  all_fail test [] e = tt
  all_fail test (x ∷ xs) e = let parts = any_or (test x) (list_any test xs) e in (parts.0, all_fail test xs parts.1)

  -- ---- one that passes a test

  pub record IsThere (test : X → Bool) (xs : List X) : Type 0 where
    pub one : X
    pub found_ : IsFound test xs one

  there_step : (test : X → Bool) (y : X) (ys : List X) (b : Bool) → test y ≡ b → (list_any test ys ≡ true → IsThere test ys) → (b || list_any test ys) ≡ true → IsThere test (y ∷ ys)
  there_step test y ys true e rest is = record { one = y; found_ = record { split = record { before = []; behind = ys; is = refl }; passes = e } }
  there_step test y ys false e rest is =
      let later : IsThere test ys = rest is in
      record {
        one = later.one;
        found_ = record {
          split = record { before = y ∷ later.found_.split.before; behind = later.found_.split.behind; is = ap (λ (zs : List X). y ∷ zs) later.found_.split.is };
          passes = later.found_.passes;
        };
      }

  pub there : (test : X → Bool) (xs : List X) → list_any test xs ≡ true → IsThere test xs
  there test [] is = absurd (false≢true is)
  there test (y ∷ ys) is = there_step test y ys (test y) refl (there test ys) is
