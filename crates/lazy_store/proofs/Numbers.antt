-- Objects by the numbers of those that pass a test.
use Rattle.std.proofs.Common.{◌≡◌, ◌<◌, ◌+◌, ℕ, Bool, true, false, not, cond, List, [], ◌∷◌, ◌&&◌, ◌||◌, Option, Some, filter, find, map, length, take, get_or, nat_eq, refl, arith, sym, ap, ◌∙◌}
use Rattle.std.specs.List.{list_any, AllByRecursion}
use Rattle.std.specs.Map.{keys_of, lookup}
use Rattle.std.specs.Option.{option_map_or}
use Rattle.std.proofs.lemmas.List.Folds.{list_any_more}
use Rattle.cache_law.specs.declared.ban.Issued.{Issued}
use Rattle.object_heads.specs.Members as heads
use Rattle.xkey_index.specs.Members as xkeys
use Rattle.lazy_law.specs.Placed.{Lazy, Placed, is_alive, kept_bans, tested_at, those_alive}
use Rattle.lazy_law.specs.Insertion.{has_number, others_late}
use Rattle.lazy_law.specs.Purging.{count_alive, is_of_key, is_of_xkeys}
use Rattle.lazy_law.proofs.Filters.{any_none, any_of_filter, any_of_map, filter_of_map, filter_on, filters_swap, length_of_map, map_of_map}
use Rattle.lazy_store.specs.Changes.{moving}
use Rattle.lazy_store.specs.Members.{Member, handle_of, number_in, number_of, placed_of, tagged_of}
use Rattle.lazy_store.specs.Numbered.{is_alive_at, is_one_of, numbers_at, numbers_where, testing_all, without_all}
use Rattle.lazy_store.specs.Purged.{purged}
use Rattle.lazy_store.specs.Tied.{AreApart}
use Rattle.lazy_store.proofs.Found.{own_eq}
use Rattle.lazy_store.proofs.Splits.{all_weaken, eq_turned}
use Rattle.lazy_store.proofs.Sweeps.{other_number}

-- ---- tests

none_case : (b c : Bool) → c ≡ false → (b && c) ≡ false
none_case true c e = e
none_case false c e = refl

here_case : (b c : Bool) → c ≡ false → (b && true || c) ≡ b
here_case true c e = refl
here_case false c e = e

-- ---- what holds of all

pub all_two : {X : Type 0} (P Q R : X → Type 0) → ((x : X) → P x → Q x → R x) → (xs : List X) → AllByRecursion P xs → AllByRecursion Q xs → AllByRecursion R xs
all_two P Q R on [] p q = tt
all_two P Q R on (x ∷ xs) p q = (on x p.0 q.0, all_two P Q R on xs p.1 q.1)

module _ {X : Type 0} where
  left_step : (P : X → Type 0) (b : Bool) (x : X) (xs : List X) → P x → AllByRecursion P xs → AllByRecursion P (cond b (x ∷ xs) xs)
  left_step P true x xs here rest = (here, rest)
  left_step P false x xs here rest = rest

  -- of all it holds of those that pass a test
  pub all_left : (P : X → Type 0) (test : X → Bool) (xs : List X) → AllByRecursion P xs → AllByRecursion P (filter test xs)
  all_left P test [] all = tt
  all_left P test (x ∷ xs) all = left_step P (test x) x (filter test xs) all.0 (all_left P test xs all.1)

  -- ---- the one of its own number

  own_step : (number : X → ℕ) (x y : X) (found : Option X) → nat_eq (number x) (number y) ≡ false → found ≡ Some y → cond (nat_eq (number x) (number y)) (Some x) found ≡ Some y
  own_step number x y found other is = rw other is

  -- each is found by its number
  pub found_own : (number : X → ℕ) (xs : List X) → AreApart number xs → AllByRecursion (λ x. find (λ y. nat_eq (number y) (number x)) xs ≡ Some x) xs
  found_own number [] apart = tt
  found_own number (x ∷ xs) apart = (
    rw (own_eq (number x)) refl,
    all_two (λ y. nat_eq (number x) (number y) ≡ false) (λ y. find (λ z. nat_eq (number z) (number y)) xs ≡ Some y) (λ y. find (λ z. nat_eq (number z) (number y)) (x ∷ xs) ≡ Some y)
        (λ y other is. own_step number x y (find (λ z. nat_eq (number z) (number y)) xs) other is) xs apart.0 (found_own number xs apart.1),
  )

  -- where one of those that pass has the number of one, that passes
  pub passes_itself : (number : X → ℕ) (test : X → Bool) (xs : List X) → AreApart number xs → AllByRecursion (λ x. list_any (λ y. test y && nat_eq (number x) (number y)) xs ≡ test x) xs
  passes_itself number test [] apart = tt
  passes_itself number test (x ∷ xs) apart = (
    rw (own_eq (number x))
        (here_case (test x) (list_any (λ y. test y && nat_eq (number x) (number y)) xs)
        (any_none (λ y. test y && nat_eq (number x) (number y)) xs
        (all_weaken (λ y. nat_eq (number x) (number y) ≡ false) (λ y. (test y && nat_eq (number x) (number y)) ≡ false) (λ y e. none_case (test y) (nat_eq (number x) (number y)) e) xs apart.0))),
    all_two (λ y. nat_eq (number x) (number y) ≡ false) (λ y. list_any (λ z. test z && nat_eq (number y) (number z)) xs ≡ test y) (λ y. list_any (λ z. test z && nat_eq (number y) (number z)) (x ∷ xs) ≡ test y)
        (λ y other is. rw (none_case (test x) (nat_eq (number y) (number x)) (eq_turned (number y) (number x) ∙ other)) is) xs apart.0 (passes_itself number test xs apart.1),
  )

  -- ---- the items of handles

  look_step : (x y : ℕ × X) (found : Option X) → nat_eq x.0 y.0 ≡ false → found ≡ Some y.1 → cond (nat_eq y.0 x.0) (Some x.1) found ≡ Some y.1
  look_step x y found other is = rw (eq_turned y.0 x.0 ∙ other) is

  -- each is looked up by its handle
  pub looked_own : (members : List (ℕ × X)) → AreApart (λ (m : ℕ × X). m.0) members → AllByRecursion (λ (m : ℕ × X). lookup (nat_eq m.0) members ≡ Some m.1) members
  looked_own [] apart = tt
  looked_own (m ∷ ms) apart = (
    rw (own_eq m.0) refl,
    all_two (λ (x : ℕ × X). nat_eq m.0 x.0 ≡ false) (λ (x : ℕ × X). lookup (nat_eq x.0) ms ≡ Some x.1) (λ (x : ℕ × X). lookup (nat_eq x.0) (m ∷ ms) ≡ Some x.1)
        (λ x other is. look_step m x (lookup (nat_eq x.0) ms) other is) ms apart.0 (looked_own ms apart.1),
  )

-- ---- the numbers of those that pass

numbers_of_some : (members some : List Member) → AllByRecursion (λ (m : Member). lookup (nat_eq (handle_of m)) members ≡ Some m.1) some
    → numbers_at members (map handle_of some) ≡ map number_of some
numbers_of_some members [] all = refl
numbers_of_some members (m ∷ some) all = rw (all.0) (ap (λ (ns : List ℕ). number_of m ∷ ns) (numbers_of_some members some all.1))

numbers_so : (test : Placed → Bool) (members : List Member) → AreApart handle_of members
    → numbers_at members (map handle_of (filter (λ (m : Member). test (placed_of m)) members)) ≡ numbers_where test (map placed_of members)
numbers_so test members apart =
    numbers_of_some members (filter (λ (m : Member). test (placed_of m)) members)
    (all_left (λ (m : Member). lookup (nat_eq (handle_of m)) members ≡ Some m.1) (λ (m : Member). test (placed_of m)) members (looked_own members apart))
    ∙ sym (map_of_map number_in placed_of (filter (λ (m : Member). test (placed_of m)) members)) ∙ ap (map number_in) (sym (filter_of_map test placed_of members))

pub numbers_by_key : (key : List (List ℕ)) (members : List Member) → AreApart handle_of members
    → numbers_at members (heads.handles_where (heads.has_key key) members) ≡ numbers_where (is_of_key key) (map placed_of members)
numbers_by_key key members apart = numbers_so (is_of_key key) members apart

pub numbers_by_xkeys : (keys : List (List ℕ)) (members : List Member) (tagged : List (ℕ × List (List ℕ))) → AreApart handle_of members → tagged ≡ map tagged_of members
    → numbers_at members (xkeys.handles_with keys tagged) ≡ numbers_where (is_of_xkeys keys) (map placed_of members)
numbers_by_xkeys keys members tagged apart is =
    ap (numbers_at members)
    (ap (xkeys.handles_with keys) is ∙ ap (λ (xs : List (ℕ × List (List ℕ))). keys_of xs) (filter_of_map (xkeys.has_one_of keys) tagged_of members)
    ∙ map_of_map (λ (x : ℕ × List (List ℕ)). x.0) tagged_of (filter (λ (m : Member). is_of_xkeys keys (placed_of m)) members))
    ∙ numbers_so (is_of_xkeys keys) members apart

-- ---- what goes

pub gone_more : (gone : List ℕ) (i d : ℕ) (objects : List Placed) → i < length gone
    → others_late (Some (get_or gone i d)) (filter (λ (p : Placed). not (is_one_of (take i gone) p)) objects) ≡ filter (λ (p : Placed). not (is_one_of (take (i + 1) gone) p)) objects
gone_more gone i d [] within = refl
gone_more gone i d (p ∷ objects) within =
    grind (arith, list_any_more (λ (number : ℕ). has_number number p) gone i d within, gone_more gone i d objects within)

pub none_gone : (objects : List Placed) → objects ≡ filter (λ (p : Placed). not (is_one_of [] p)) objects
none_gone [] = refl
none_gone (p ∷ objects) = ap (λ (rest : List Placed). p ∷ rest) (none_gone objects)

pub one_of_those : (test : Placed → Bool) (objects : List Placed) → AreApart number_in objects → AllByRecursion (λ (p : Placed). is_one_of (numbers_where test objects) p ≡ test p) objects
one_of_those test objects apart =
    all_weaken (λ (p : Placed). list_any (λ (q : Placed). test q && nat_eq (number_in p) (number_in q)) objects ≡ test p) (λ (p : Placed). is_one_of (numbers_where test objects) p ≡ test p)
    (λ p is. any_of_map (λ (n : ℕ). has_number n p) number_in (filter test objects) ∙ any_of_filter (λ (q : Placed). has_number (number_in q) p) test objects ∙ is) objects
    (passes_itself number_in test objects apart)

pub those_gone : (test : Placed → Bool) (lazy : Lazy) → AreApart number_in lazy.objects → without_all (numbers_where test lazy.objects) lazy ≡ purged test lazy
those_gone test lazy apart =
    ap (λ (objects : List Placed). record lazy { objects = objects })
    (filter_on (λ (p : Placed). not (is_one_of (numbers_where test lazy.objects) p)) (λ (p : Placed). not (test p)) lazy.objects
    (all_weaken (λ (p : Placed). is_one_of (numbers_where test lazy.objects) p ≡ test p) (λ (p : Placed). not (is_one_of (numbers_where test lazy.objects) p) ≡ not (test p)) (λ p e. ap not e) lazy.objects
    (one_of_those test lazy.objects apart)))

-- ---- what is tested

tested_case : (number issued : ℕ) (p : Placed) (before one : Bool) → has_number number p ≡ one
    → moving number (record { place = issued; mark = issued }) (cond before (tested_at issued p) p) ≡ cond (before || one) (tested_at issued p) p
tested_case number issued p true true e = rw e refl
tested_case number issued p true false e = rw e refl
tested_case number issued p false true e = rw e refl
tested_case number issued p false false e = rw e refl

one_tested : (some : List ℕ) (i d issued : ℕ) (p : Placed) → i < length some
    → moving (get_or some i d) (record { place = issued; mark = issued }) (testing_all (take i some) issued p) ≡ testing_all (take (i + 1) some) issued p
one_tested some i d issued p within =
    tested_case (get_or some i d) issued p (is_one_of (take i some) p) (has_number (get_or some i d) p) refl
    ∙ ap (λ (b : Bool). cond b (tested_at issued p) p) (sym (list_any_more (λ (number : ℕ). has_number number p) some i d within))

pub tested_more : (some : List ℕ) (i d issued : ℕ) (objects : List Placed) → i < length some
    → map (moving (get_or some i d) (record { place = issued; mark = issued })) (map (testing_all (take i some) issued) objects) ≡ map (testing_all (take (i + 1) some) issued) objects
tested_more some i d issued [] within = refl
tested_more some i d issued (p ∷ objects) within = rw (one_tested some i d issued p within, tested_more some i d issued objects within) refl

pub none_tested : (issued : ℕ) (objects : List Placed) → objects ≡ map (testing_all [] issued) objects
none_tested issued [] = refl
none_tested issued (p ∷ objects) = ap (λ (rest : List Placed). p ∷ rest) (none_tested issued objects)

-- ---- how many are alive

pub those_alive_are : (moment : ℕ) (test : Placed → Bool) (lazy : Lazy) → AreApart number_in lazy.objects
    → length (filter (is_alive_at moment lazy) (numbers_where test lazy.objects)) ≡ count_alive moment (kept_bans lazy) test lazy.objects
those_alive_are moment test lazy apart =
    let alive : Placed → Bool = is_alive moment (kept_bans lazy) in
    ap length
    (filter_of_map (is_alive_at moment lazy) number_in (filter test lazy.objects)
    ∙ ap (map number_in)
    (filter_on (λ (p : Placed). is_alive_at moment lazy (number_in p)) alive (filter test lazy.objects)
    (all_left (λ (p : Placed). is_alive_at moment lazy (number_in p) ≡ alive p) test lazy.objects
    (all_weaken (λ (p : Placed). find (has_number (number_in p)) lazy.objects ≡ Some p) (λ (p : Placed). is_alive_at moment lazy (number_in p) ≡ alive p)
    (λ p is. ap (λ (o : Option Placed). option_map_or alive o false) is) lazy.objects (found_own number_in lazy.objects apart)))
    ∙ filters_swap alive test lazy.objects))
    ∙ length_of_map number_in (filter test (those_alive moment (kept_bans lazy) lazy.objects))

alone_case : (moment : ℕ) (kept : List Issued) (p : Placed) (objects : List Placed) (number : ℕ) (b : Bool) → has_number number p ≡ b → AllByRecursion (λ (q : Placed). nat_eq (number_in p) (number_in q) ≡ false) objects
    → option_map_or (is_alive moment kept) (find (has_number number) objects) false ≡ list_any (λ (q : Placed). is_alive moment kept q && has_number number q) objects
    → option_map_or (is_alive moment kept) (cond b (Some p) (find (has_number number) objects)) false ≡ list_any (λ (q : Placed). is_alive moment kept q && has_number number q) (p ∷ objects)
alone_case moment kept p objects number true e others rest =
    rw e
    (sym (here_case (is_alive moment kept p) (list_any (λ (q : Placed). is_alive moment kept q && has_number number q) objects)
    (any_none (λ (q : Placed). is_alive moment kept q && has_number number q) objects
    (all_weaken (λ (q : Placed). nat_eq (number_in p) (number_in q) ≡ false) (λ (q : Placed). (is_alive moment kept q && has_number number q) ≡ false)
    (λ q other. none_case (is_alive moment kept q) (has_number number q) (other_number (number_in p) number (number_in q) e other)) objects others))))
alone_case moment kept p objects number false e others rest =
    rest ∙ sym (ap (λ (b : Bool). b || list_any (λ (q : Placed). is_alive moment kept q && has_number number q) objects) (none_case (is_alive moment kept p) (has_number number p) e))

alive_among : (moment : ℕ) (kept : List Issued) (number : ℕ) (objects : List Placed) → AreApart number_in objects
    → option_map_or (is_alive moment kept) (find (has_number number) objects) false ≡ list_any (λ (q : Placed). is_alive moment kept q && has_number number q) objects
alive_among moment kept number [] apart = refl
alive_among moment kept number (p ∷ objects) apart =
    alone_case moment kept p objects number (has_number number p) refl apart.0 (alive_among moment kept number objects apart.1)

-- one is there where it is among those that are alive
pub alive_there : (moment number : ℕ) (lazy : Lazy) → AreApart number_in lazy.objects → is_alive_at moment lazy number ≡ list_any (has_number number) (those_alive moment (kept_bans lazy) lazy.objects)
alive_there moment number lazy apart =
    alive_among moment (kept_bans lazy) number lazy.objects apart ∙ sym (any_of_filter (has_number number) (is_alive moment (kept_bans lazy)) lazy.objects)
