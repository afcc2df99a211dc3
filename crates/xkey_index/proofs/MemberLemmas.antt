-- The list of members, as the map by handle has it.
use Rattle.std.proofs.Common.{◌≡◌, ◌<◌, ℕ, Bool, true, false, ◌||◌, cond, List, [], ◌∷◌, filter, Option, None, Some, refl, sym, ◌∙◌, ap, arith}
use Rattle.std.specs.Prelude.{nat_eq, nat_lt, slice_get, IsTrue, ◌↔◌}
use Rattle.std.proofs.Common.{Less}
use Rattle.std.specs.Ordering.{is_eq, nat_cmp}
use Rattle.std.specs.Option.{is_some}
use Rattle.std.specs.List.{list_any, AllByRecursion}
use Rattle.std.specs.List.Sorted.{IsStrictlySortedBy}
use Rattle.std.specs.Cmp.{nat_cmp_total, eq_by_cmp_equiv}
use Rattle.std.specs.Str.{bytes_eq}
use Rattle.std.specs.Map.{keys_of, lookup, remove_entry}
use Rattle.std.specs.BTreeMap.{insert_entry, is_at}
use Rattle.std.specs.BTreeSet.{BTreeSet, contains, IsOrdered}
use Rattle.std.proofs.lemmas.Bool.{ltb-true, lt-ltb}
use Rattle.std.proofs.lemmas.Bool.Decides.{nat_tests}
use Rattle.std.proofs.lemmas.Map.Entries.{option_filter, lookup-filter-values}
use Rattle.std.proofs.lemmas.Map.Keys.{IsDistinct-from_sorted}
use Rattle.std.proofs.lemmas.Map.Made.{is_some-lookup}
use Rattle.std.proofs.lemmas.Map.Lookups.{btree_set_from_contains, exact_unsigned}
use Rattle.xkey_index.specs.Members.{Member, IsNewest, has_one_of, handles_with, without}
use Rattle.xkey_index.specs.Handles.{is_owned, has_key}

less : (a b : ℕ) → a < b → nat_cmp a b ≡ Less
less a b h = grind (arith, nat_tests)

pub at_number : (a b : ℕ) → is_eq (nat_cmp a b) ≡ nat_eq a b
at_number a b = grind (arith, nat_tests)

-- ---- a newest member
pub get-newest : (handle : ℕ) (members : List Member) → IsNewest handle members → lookup (is_at (nat_cmp handle)) members ≡ None
get-newest handle [] newest = refl
get-newest handle (m ∷ ms) newest = rw (less handle m.0 newest.0) (get-newest handle ms newest.1)

pub insert-newest : (handle : ℕ) (keys : List (List ℕ)) (members : List Member) → IsNewest handle members
    → insert_entry nat_cmp members handle keys ≡ (handle, keys) ∷ members
insert-newest handle keys [] newest = refl
insert-newest handle keys (m ∷ ms) newest = rw (less handle m.0 newest.0) refl

less_back : (a b : ℕ) → nat_cmp a b ≡ Less → a < b
less_back a b e = grind (arith, nat_tests)

newest_of : (handle a : ℕ) (members : List Member) → handle < a → AllByRecursion (λ y. nat_cmp a y ≡ Less) (keys_of members) → IsNewest handle members
newest_of handle a [] below above = tt
newest_of handle a (m ∷ ms) below above =
    let here : a < m.0 = less_back a m.0 above.0 in
    let first : handle < m.0 = omega arith in
    (first, newest_of handle a ms below above.1)

newest_before : (handle : ℕ) (m : Member) (ms : List Member) → IsStrictlySortedBy nat_cmp (keys_of (m ∷ ms)) → handle < m.0 → IsNewest handle (m ∷ ms)
unfolding IsStrictlySortedBy
newest_before handle m ms s below = (below, newest_of handle m.0 ms below s.0)

pub is_newest_before : (handle : ℕ) (members : List Member) (first : ℕ) (keys : List (List ℕ)) → IsStrictlySortedBy nat_cmp (keys_of members)
    → slice_get members 0 ≡ Some (first, keys) → IsTrue (nat_lt handle first) ↔ IsNewest handle members
is_newest_before handle [] first keys s at = cc
is_newest_before handle (m ∷ ms) first keys s at =
    let same : m.0 ≡ first = cc in
    let there : IsTrue (nat_lt handle m.0) → IsNewest handle (m ∷ ms) = λ e. newest_before handle m ms s (ltb-true handle m.0 e) in
    let back : IsNewest handle (m ∷ ms) → IsTrue (nat_lt handle m.0) = λ newest. lt-ltb handle m.0 newest.0 in
    rw (← same) (there, back)

-- ---- one member less
pub lookup-number : (handle : ℕ) (members : List Member) → lookup (is_at (nat_cmp handle)) members ≡ lookup (nat_eq handle) members
lookup-number handle [] = refl
lookup-number handle (m ∷ ms) = rw (at_number handle m.0, lookup-number handle ms) refl

kept_step : (b : Bool) (handle : ℕ) (m : Member) (ms : List Member) → nat_eq handle m.0 ≡ b
    → (lookup (is_at (nat_cmp handle)) ms ≡ None → without handle ms ≡ ms)
    → lookup (is_at (nat_cmp handle)) (m ∷ ms) ≡ None → without handle (m ∷ ms) ≡ m ∷ ms
kept_step true handle m ms e rest none = let found = rw (at_number handle m.0, e) at none in cc
kept_step false handle m ms e rest none = let behind = rw (at_number handle m.0, e) at none in rw e (ap (λ es. m ∷ es) (rest behind))

kept_where_none : (handle : ℕ) (members : List Member) → lookup (is_at (nat_cmp handle)) members ≡ None → without handle members ≡ members
kept_where_none handle [] none = refl
kept_where_none handle (m ∷ ms) none = kept_step (nat_eq handle m.0) handle m ms refl (kept_where_none handle ms) none

rest_step : (b : Bool) (handle : ℕ) (m : Member) (ms : List Member) → nat_eq handle m.0 ≡ b
    → (lookup (is_at (nat_cmp handle)) (remove_entry (is_at (nat_cmp handle)) ms) ≡ None → remove_entry (is_at (nat_cmp handle)) ms ≡ without handle ms)
    → lookup (is_at (nat_cmp handle)) (remove_entry (is_at (nat_cmp handle)) (m ∷ ms)) ≡ None
    → remove_entry (is_at (nat_cmp handle)) (m ∷ ms) ≡ without handle (m ∷ ms)
rest_step true handle m ms e rest none = let behind = rw (at_number handle m.0, e) at none in rw (at_number handle m.0, e) (sym (kept_where_none handle ms behind))
rest_step false handle m ms e rest none = let behind = rw (at_number handle m.0, e, at_number handle m.0, e) at none in rw (at_number handle m.0, e) (ap (λ es. m ∷ es) (rest behind))

pub rest-without : (handle : ℕ) (members : List Member) → lookup (is_at (nat_cmp handle)) (remove_entry (is_at (nat_cmp handle)) members) ≡ None
    → remove_entry (is_at (nat_cmp handle)) members ≡ without handle members
rest-without handle [] none = refl
rest-without handle (m ∷ ms) none = rest_step (nat_eq handle m.0) handle m ms refl (rest-without handle ms) none

-- ---- the members that have one of some keys
or_swap : (a b c d : Bool) → ((a || b) || (c || d)) ≡ ((a || c) || (b || d))
or_swap true b c d = refl
or_swap false true true d = refl
or_swap false true false d = refl
or_swap false false c d = refl

any_or : (f g : List ℕ → Bool) (keys : List (List ℕ)) → list_any (λ key. f key || g key) keys ≡ (list_any f keys || list_any g keys)
any_or f g [] = refl
any_or f g (key ∷ keys) = rw (any_or f g keys) (or_swap (f key) (g key) (list_any f keys) (list_any g keys))

any_none : (keys : List (List ℕ)) → list_any (λ key. false) keys ≡ false
any_none [] = refl
any_none (key ∷ keys) = any_none keys

any_swap : (own keys : List (List ℕ)) → list_any (λ o. list_any (bytes_eq o) keys) own ≡ list_any (λ key. has_key own key) keys
any_swap [] keys = sym (any_none keys)
any_swap (o ∷ own) keys = rw (any_swap own keys) (sym (any_or (bytes_eq o) (has_key own) keys))

is_some_cond : (b : Bool) (own : List (List ℕ)) → is_some (cond b (Some own) None) ≡ b
is_some_cond true own = refl
is_some_cond false own = refl

any_owned : (keys : List (List ℕ)) (own : Option (List (List ℕ)))
    → is_some (option_filter (λ texts. list_any (λ o. list_any (bytes_eq o) keys) texts) own) ≡ list_any (λ key. is_owned own key) keys
any_owned keys None = sym (any_none keys)
any_owned keys (Some own) = is_some_cond (list_any (λ o. list_any (bytes_eq o) keys) own) own ∙ any_swap own keys

-- a part of the members is in order, too
all_step : (P : ℕ → Type 0) (p : Member → Bool) (m : Member) (ms : List Member) (b : Bool) → p m ≡ b → P m.0
    → AllByRecursion P (keys_of (filter p ms)) → AllByRecursion P (keys_of (filter p (m ∷ ms)))
all_step P p m ms true e here rest = rw e (here, rest)
all_step P p m ms false e here rest = rw e rest

all_kept : (P : ℕ → Type 0) (p : Member → Bool) (members : List Member) → AllByRecursion P (keys_of members) → AllByRecursion P (keys_of (filter p members))
all_kept P p [] h = tt
all_kept P p (m ∷ ms) h = all_step P p m ms (p m) refl h.0 (all_kept P p ms h.1)

sorted_step : (p : Member → Bool) (m : Member) (ms : List Member) (b : Bool) → p m ≡ b
    → AllByRecursion (λ y. nat_cmp m.0 y ≡ Less) (keys_of (filter p ms)) → IsStrictlySortedBy nat_cmp (keys_of (filter p ms))
    → IsStrictlySortedBy nat_cmp (keys_of (filter p (m ∷ ms)))
unfolding IsStrictlySortedBy
sorted_step p m ms true e above rest = rw e (above, rest)
sorted_step p m ms false e above rest = rw e rest

sorted_kept : (p : Member → Bool) (members : List Member) → IsStrictlySortedBy nat_cmp (keys_of members) → IsStrictlySortedBy nat_cmp (keys_of (filter p members))
unfolding IsStrictlySortedBy
sorted_kept p [] s = s
sorted_kept p (m ∷ ms) s = sorted_step p m ms (p m) refl (all_kept (λ y. nat_cmp m.0 y ≡ Less) p ms s.0) (sorted_kept p ms s.1)

member_found : (keys : List (List ℕ)) (members : List Member) → IsStrictlySortedBy nat_cmp (keys_of members) → (q : ℕ)
    → list_any (is_at (nat_cmp q)) (handles_with keys members) ≡ list_any (λ key. is_owned (lookup (is_at (nat_cmp q)) members) key) keys
member_found keys members s q =
    sym (is_some-lookup (is_at (nat_cmp q)) (filter (has_one_of keys) members))
    ∙ ap is_some (lookup-filter-values (eq_by_cmp_equiv nat_cmp_total) (λ texts. list_any (λ o. list_any (bytes_eq o) keys) texts) q members (IsDistinct-from_sorted nat_cmp (keys_of members) s))
    ∙ any_owned keys (lookup (is_at (nat_cmp q)) members)

pub found_handles : (keys : List (List ℕ)) (members : List Member) (found : BTreeSet ℕ)
    → IsStrictlySortedBy nat_cmp (keys_of members) → IsOrdered nat_cmp found
    → ((q : ℕ) → contains nat_cmp found q ≡ list_any (λ key. is_owned (lookup (is_at (nat_cmp q)) members) key) keys)
    → found.keys ≡ handles_with keys members
found_handles keys members found s t is =
    let wanted : BTreeSet ℕ = record { keys = handles_with keys members } in
    btree_set_from_contains nat_cmp_total found wanted t (sorted_kept (has_one_of keys) members s) (λ q. is q ∙ sym (member_found keys members s q)) exact_unsigned
