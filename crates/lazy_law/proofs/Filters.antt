-- Filters and maps of lists, beside what a test finds in them.
use Rattle.std.proofs.Common.{◌≡◌, ◌≤◌, ◌+◌, ℕ, Bool, true, false, cond, List, [], ◌∷◌, ◌&&◌, ◌||◌, Option, Some, None, filter, find, map, length, refl, arith, sym, ap, ◌∙◌}
use Rattle.std.specs.Prelude.{sum_by}
use Rattle.std.specs.List.{list_any, AllByRecursion}
use Rattle.std.specs.Option.{option_map}
use Rattle.std.proofs.lemmas.Bool.{false≢true}
use Rattle.std.proofs.lemmas.List.Sums.{sum_by-cons}

-- ---- of a map

step_filter : {X Y : Type 0} (f : X → Y) (b : Bool) (x : X) (xs : List X) (ys : List Y) → ys ≡ map f xs → cond b (f x ∷ ys) ys ≡ map f (cond b (x ∷ xs) xs)
step_filter f true x xs ys e = ap (λ zs. f x ∷ zs) e
step_filter f false x xs ys e = e

pub filter_of_map : {X Y : Type 0} (test : Y → Bool) (f : X → Y) (xs : List X) → filter test (map f xs) ≡ map f (filter (λ x. test (f x)) xs)
filter_of_map test f [] = refl
filter_of_map test f (x ∷ xs) = step_filter f (test (f x)) x (filter (λ y. test (f y)) xs) (filter test (map f xs)) (filter_of_map test f xs)

pub any_of_map : {X Y : Type 0} (test : Y → Bool) (f : X → Y) (xs : List X) → list_any test (map f xs) ≡ list_any (λ x. test (f x)) xs
any_of_map test f [] = refl
any_of_map test f (x ∷ xs) = ap (λ (b : Bool). test (f x) || b) (any_of_map test f xs)

step_find : {X Y : Type 0} (f : X → Y) (b : Bool) (x : X) (found : Option X) (other : Option Y) → other ≡ option_map f found → cond b (Some (f x)) other ≡ option_map f (cond b (Some x) found)
step_find f true x found other e = refl
step_find f false x found other e = e

pub find_of_map : {X Y : Type 0} (test : Y → Bool) (f : X → Y) (xs : List X) → find test (map f xs) ≡ option_map f (find (λ x. test (f x)) xs)
find_of_map test f [] = refl
find_of_map test f (x ∷ xs) = step_find f (test (f x)) x (find (λ y. test (f y)) xs) (find test (map f xs)) (find_of_map test f xs)

pub map_of_map : {X Y Z : Type 0} (g : Y → Z) (f : X → Y) (xs : List X) → map g (map f xs) ≡ map (λ x. g (f x)) xs
map_of_map g f [] = refl
map_of_map g f (x ∷ xs) = ap (λ zs. g (f x) ∷ zs) (map_of_map g f xs)

pub length_of_map : {X Y : Type 0} (f : X → Y) (xs : List X) → length (map f xs) ≡ length xs
length_of_map f [] = refl
length_of_map f (x ∷ xs) = let rest = length_of_map f xs in omega (arith, rest)

pub sum_of_map : {X Y : Type 0} (w : Y → ℕ) (f : X → Y) (xs : List X) → sum_by w (map f xs) ≡ sum_by (λ x. w (f x)) xs
sum_of_map w f [] = refl
sum_of_map w f (x ∷ xs) =
    let rest = sum_of_map w f xs in omega (arith, rest, sum_by-cons w (f x) (map f xs), sum_by-cons (λ y. w (f y)) x xs)

-- ---- of another filter

step_both : {X : Type 0} (p : X → Bool) (a b : Bool) (x : X) (xs ys : List X) → p x ≡ a → filter p xs ≡ ys → filter p (cond b (x ∷ xs) xs) ≡ cond (b && a) (x ∷ ys) ys
step_both p true true x xs ys e same = rw (e, same) refl
step_both p false true x xs ys e same = rw (e, same) refl
step_both p a false x xs ys e same = same

-- what passes one test and then another passes both
pub filter_both : {X : Type 0} (p q : X → Bool) (xs : List X) → filter p (filter q xs) ≡ filter (λ x. q x && p x) xs
filter_both p q [] = refl
filter_both p q (x ∷ xs) = step_both p (p x) (q x) x (filter q xs) (filter (λ y. q y && p y) xs) refl (filter_both p q xs)

and_swap : (a b : Bool) → (a && b) ≡ (b && a)
and_swap true true = refl
and_swap true false = refl
and_swap false true = refl
and_swap false false = refl

step_agree : {X : Type 0} (a b : Bool) (x : X) (xs ys : List X) → a ≡ b → xs ≡ ys → cond a (x ∷ xs) xs ≡ cond b (x ∷ ys) ys
step_agree a b x xs ys e same = rw (e, same) refl

-- tests that agree on all items leave the same
pub filter_on : {X : Type 0} (p q : X → Bool) (xs : List X) → AllByRecursion (λ x. p x ≡ q x) xs → filter p xs ≡ filter q xs
filter_on p q [] all = refl
filter_on p q (x ∷ xs) all = step_agree (p x) (q x) x (filter p xs) (filter q xs) all.0 (filter_on p q xs all.1)

pub each : {X : Type 0} (P : X → Type 0) → ((x : X) → P x) → (xs : List X) → AllByRecursion P xs
each P on [] = tt
each P on (x ∷ xs) = (on x, each P on xs)

pub filters_swap : {X : Type 0} (p q : X → Bool) (xs : List X) → filter p (filter q xs) ≡ filter q (filter p xs)
filters_swap p q xs =
    filter_both p q xs ∙ filter_on (λ x. q x && p x) (λ x. p x && q x) xs (each _ (λ x. and_swap (q x) (p x)) xs) ∙ sym (filter_both q p xs)

pub filter_all : {X : Type 0} (p : X → Bool) (xs : List X) → AllByRecursion (λ x. p x ≡ true) xs → filter p xs ≡ xs
filter_all p [] all = refl
filter_all p (x ∷ xs) all = rw (all.0, filter_all p xs all.1) refl

pub filter_none : {X : Type 0} (p : X → Bool) (xs : List X) → AllByRecursion (λ x. p x ≡ false) xs → filter p xs ≡ []
filter_none p [] all = refl
filter_none p (x ∷ xs) all = rw (all.0, filter_none p xs all.1) refl

step_passes : {X : Type 0} (p : X → Bool) (b : Bool) (x : X) (xs : List X) → p x ≡ b → AllByRecursion (λ y. p y ≡ true) xs → AllByRecursion (λ y. p y ≡ true) (cond b (x ∷ xs) xs)
step_passes p true x xs e rest = (e, rest)
step_passes p false x xs e rest = rest

-- what is left passes the test
pub all_pass : {X : Type 0} (p : X → Bool) (xs : List X) → AllByRecursion (λ x. p x ≡ true) (filter p xs)
all_pass p [] = tt
all_pass p (x ∷ xs) = step_passes p (p x) x (filter p xs) refl (all_pass p xs)

-- ---- tests

step_any : {X : Type 0} (test : X → Bool) (b : Bool) (x : X) (xs : List X) (later : Bool) → list_any test xs ≡ later → list_any test (cond b (x ∷ xs) xs) ≡ ((b && test x) || later)
step_any test true x xs later e = ap (λ (b : Bool). test x || b) e
step_any test false x xs later e = e

pub any_of_filter : {X : Type 0} (test keep : X → Bool) (xs : List X) → list_any test (filter keep xs) ≡ list_any (λ x. keep x && test x) xs
any_of_filter test keep [] = refl
any_of_filter test keep (x ∷ xs) = step_any test (keep x) x (filter keep xs) (list_any (λ y. keep y && test y) xs) (any_of_filter test keep xs)

pub any_on : {X : Type 0} (p q : X → Bool) (xs : List X) → AllByRecursion (λ x. p x ≡ q x) xs → list_any p xs ≡ list_any q xs
any_on p q [] all = refl
any_on p q (x ∷ xs) all = rw (all.0, any_on p q xs all.1) refl

pub any_none : {X : Type 0} (p : X → Bool) (xs : List X) → AllByRecursion (λ x. p x ≡ false) xs → list_any p xs ≡ false
any_none p [] all = refl
any_none p (x ∷ xs) all = rw (all.0, any_none p xs all.1) refl

step_more : (a b later more : Bool) → (a ≡ true → b ≡ true) → (later ≡ true → more ≡ true) → (a || later) ≡ true → (b || more) ≡ true
step_more true true later more here behind e = refl
step_more true false later more here behind e = absurd (false≢true (here refl))
step_more false true later more here behind e = refl
step_more false false later more here behind e = behind e

-- a test that passes more finds more
pub any_more : {X : Type 0} (p q : X → Bool) → ((x : X) → p x ≡ true → q x ≡ true) → (xs : List X) → list_any p xs ≡ true → list_any q xs ≡ true
any_more p q more [] e = e
any_more p q more (x ∷ xs) e = step_more (p x) (q x) (list_any p xs) (list_any q xs) (more x) (any_more p q more xs) e

-- ---- what holds of the one that is found

step_found : {X : Type 0} (Q : Option X → Type 0) (b : Bool) (x : X) (found : Option X) → Q (Some x) → Q found → Q (cond b (Some x) found)
step_found Q true x found here there = here
step_found Q false x found here there = there

pub found_on : {X : Type 0} (Q : Option X → Type 0) (test : X → Bool) (xs : List X) → Q None → AllByRecursion (λ x. Q (Some x)) xs → Q (find test xs)
found_on Q test [] none_ all = none_
found_on Q test (x ∷ xs) none_ all = step_found Q (test x) x (find test xs) all.0 (found_on Q test xs none_ all.1)

-- ---- sums

step_sum : {X : Type 0} (w : X → ℕ) (b : Bool) (x : X) (xs : List X) (all : ℕ) → sum_by w xs ≤ all → sum_by w (cond b (x ∷ xs) xs) ≤ w x + all
step_sum w true x xs all less = omega (arith, less, sum_by-cons w x xs)
step_sum w false x xs all less = omega (arith, less)

pub sum_of_filter : {X : Type 0} (w : X → ℕ) (test : X → Bool) (xs : List X) → sum_by w (filter test xs) ≤ sum_by w xs
sum_of_filter w test [] = omega arith
sum_of_filter w test (x ∷ xs) =
    let here = step_sum w (test x) x (filter test xs) (sum_by w xs) (sum_of_filter w test xs) in omega (arith, here, sum_by-cons w x xs)

-- ---- a filter and a map at once

step_pass : {X Y : Type 0} (g h : X → Y) (a b : Bool) (x : X) (xs ys : List X) → a ≡ b → g x ≡ h x → map g xs ≡ map h ys → map g (cond a (x ∷ xs) xs) ≡ map h (cond b (x ∷ ys) ys)
step_pass g h true true x xs ys e here same = rw (here, same) refl
step_pass g h false false x xs ys e here same = same
step_pass g h true false x xs ys e here same = absurd (false≢true (sym e))
step_pass g h false true x xs ys e here same = absurd (false≢true e)

pub passes_on : {X Y : Type 0} (a b : X → Bool) (g h : X → Y) (xs : List X) → AllByRecursion (λ x. (a x ≡ b x) × (g x ≡ h x)) xs → map g (filter a xs) ≡ map h (filter b xs)
passes_on a b g h [] all = refl
passes_on a b g h (x ∷ xs) all = step_pass g h (a x) (b x) x (filter a xs) (filter b xs) all.0.0 all.0.1 (passes_on a b g h xs all.1)
