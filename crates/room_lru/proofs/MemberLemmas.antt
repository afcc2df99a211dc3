-- The list of members, as the map by last use has it.
use Rattle.std.proofs.Common.{◌≡◌, ◌<◌, ◌+◌, ℕ, Bool, true, false, List, [], ◌∷◌, ◌++◌, None, Some, refl, sym, ◌∙◌, ap, arith, Greater, IsTrue, ◌↔◌, Result, Ok, Err, OnOk, OnErr}
use Rattle.std.specs.Result.{is_err}
use Rattle.std.specs.Prelude.{nat_eq, nat_lt, unwrap_or}
use Rattle.std.specs.Option.{option_map}
use Rattle.std.specs.Ordering.{is_eq, is_lt, nat_cmp}
use Rattle.std.specs.List.{All, AllByRecursion, sum_by}
use Rattle.std.specs.List.Sorted.{IsStrictlySortedBy}
use Rattle.std.specs.Cmp.{nat_cmp_total, eq_by_cmp_equiv}
use Rattle.std.specs.Map.{keys_of, values_of, lookup, remove_entry}
use Rattle.std.specs.BTreeMap.{insert_entry, is_at}
use Rattle.std.proofs.lemmas.Bool.{ltb-true, lt-ltb, eqb-true}
use Rattle.std.proofs.lemmas.Bool.Decides.{nat_tests}
use Rattle.std.proofs.lemmas.List.{map-append}
use Rattle.std.proofs.lemmas.List.Elements.{recursion_from_All}
use Rattle.std.proofs.lemmas.List.Sums.{sum-map, sum_by_push}
use Rattle.std.proofs.lemmas.Map.{lookup-remove_entry}
use Rattle.std.proofs.lemmas.Map.Keys.{IsDistinct-from_sorted}
use Rattle.std.proofs.lemmas.Map.Entries.{sum_by-remove_entry}
use Rattle.room_lru.specs.declared.member.Member.{Member}
use Rattle.room_lru.specs.Members.{Used, total_of, without, IsLatest}

greater : (a b : ℕ) → b < a → nat_cmp a b ≡ Greater
greater a b h = grind (arith, nat_tests)

pub at_number : (a b : ℕ) → is_eq (nat_cmp a b) ≡ nat_eq a b
at_number a b = grind (arith, nat_tests)

-- ---- a latest use
pub get-latest : (used : ℕ) (members : List Used) → IsLatest used members → lookup (is_at (nat_cmp used)) members ≡ None
get-latest used [] latest = refl
get-latest used (m ∷ ms) latest = rw (greater used m.0 latest.0) (get-latest used ms latest.1)

pub insert-latest : (used : ℕ) (member : Member) (members : List Used) → IsLatest used members
    → insert_entry nat_cmp members used member ≡ members ++ (used, member) ∷ []
insert-latest used member [] latest = refl
insert-latest used member (m ∷ ms) latest = rw (greater used m.0 latest.0) (ap (λ es. m ∷ es) (insert-latest used member ms latest.1))

-- ---- one member less
pub lookup-number : (used : ℕ) (members : List Used) → lookup (is_at (nat_cmp used)) members ≡ lookup (nat_eq used) members
lookup-number used [] = refl
lookup-number used (m ∷ ms) = rw (at_number used m.0, lookup-number used ms) refl

kept_step : (b : Bool) (used : ℕ) (m : Used) (ms : List Used) → nat_eq used m.0 ≡ b
    → (lookup (is_at (nat_cmp used)) ms ≡ None → without used ms ≡ ms)
    → lookup (is_at (nat_cmp used)) (m ∷ ms) ≡ None → without used (m ∷ ms) ≡ m ∷ ms
kept_step true used m ms e rest none = let found = rw (at_number used m.0, e) at none in cc
kept_step false used m ms e rest none = let behind = rw (at_number used m.0, e) at none in rw e (ap (λ es. m ∷ es) (rest behind))

pub kept_where_none : (used : ℕ) (members : List Used) → lookup (is_at (nat_cmp used)) members ≡ None → without used members ≡ members
kept_where_none used [] none = refl
kept_where_none used (m ∷ ms) none = kept_step (nat_eq used m.0) used m ms refl (kept_where_none used ms) none

rest_step : (b : Bool) (used : ℕ) (m : Used) (ms : List Used) → nat_eq used m.0 ≡ b
    → (lookup (is_at (nat_cmp used)) (remove_entry (is_at (nat_cmp used)) ms) ≡ None → remove_entry (is_at (nat_cmp used)) ms ≡ without used ms)
    → lookup (is_at (nat_cmp used)) (remove_entry (is_at (nat_cmp used)) (m ∷ ms)) ≡ None
    → remove_entry (is_at (nat_cmp used)) (m ∷ ms) ≡ without used (m ∷ ms)
rest_step true used m ms e rest none = let behind = rw (at_number used m.0, e) at none in rw (at_number used m.0, e) (sym (kept_where_none used ms behind))
rest_step false used m ms e rest none = let behind = rw (at_number used m.0, e, at_number used m.0, e) at none in rw (at_number used m.0, e) (ap (λ es. m ∷ es) (rest behind))

pub rest-without : (used : ℕ) (members : List Used) → lookup (is_at (nat_cmp used)) (remove_entry (is_at (nat_cmp used)) members) ≡ None
    → remove_entry (is_at (nat_cmp used)) members ≡ without used members
rest-without used [] none = refl
rest-without used (m ∷ ms) none = rest_step (nat_eq used m.0) used m ms refl (rest-without used ms) none

-- ---- sums
pub total_is : (members : List Used) → total_of members ≡ sum_by (λ member. member.size) (values_of members)
total_is members = sum-map (λ member. member.size) (values_of members)

pub total_more : (used : ℕ) (member : Member) (members : List Used) → total_of (members ++ (used, member) ∷ []) ≡ total_of members + member.size
total_more used member members =
    total_is (members ++ (used, member) ∷ [])
    ∙ ap (sum_by (λ m. m.size)) (map-append (λ m. m.1) members ((used, member) ∷ []))
    ∙ sum_by_push (λ m. m.size) (values_of members) member
    ∙ ap (λ n. n + member.size) (sym (total_is members))

pub total_less : (test : ℕ → Bool) (member : Member) (members : List Used) → lookup test members ≡ Some member
    → total_of (remove_entry test members) + member.size ≡ total_of members
total_less test member members found =
    ap (λ n. n + member.size) (total_is (remove_entry test members))
    ∙ ap (λ o. sum_by (λ m. m.size) (values_of (remove_entry test members)) + unwrap_or (option_map (λ m. m.size) o) 0) (sym found)
    ∙ sum_by-remove_entry (λ m. m.size) test members
    ∙ sym (total_is members)

-- ---- uses that rise
pub gone_after : (used : ℕ) (members : List Used) → IsStrictlySortedBy nat_cmp (keys_of members)
    → lookup (is_at (nat_cmp used)) (remove_entry (is_at (nat_cmp used)) members) ≡ None
gone_after used members rising =
    let laws = eq_by_cmp_equiv nat_cmp_total in
    let gone = lookup-remove_entry laws (is_at (nat_cmp used)) (λ x y same. laws.congr used x y same) used members (IsDistinct-from_sorted nat_cmp (keys_of members) rising) in
    rw (laws.refl used) at gone

pub total_without : (used : ℕ) (member : Member) (members : List Used) → IsStrictlySortedBy nat_cmp (keys_of members)
    → lookup (is_at (nat_cmp used)) members ≡ Some member → member.size + total_of (without used members) ≡ total_of members
total_without used member members rising found =
    let rest = ap total_of (rest-without used members (gone_after used members rising)) in
    let sum = total_less (is_at (nat_cmp used)) member members found in
    omega arith

-- ---- the latest use of all
not_above : (latest used key : ℕ) → latest < used → is_lt (nat_cmp latest key) ≡ false → key < used
not_above latest used key later most = grind (arith, nat_tests)

latest_of : (latest used : ℕ) (members : List Used) → latest < used
    → AllByRecursion (λ key. is_lt (nat_cmp latest key) ≡ false) (keys_of members) → IsLatest used members
latest_of latest used [] later most = tt
latest_of latest used (m ∷ ms) later most = (not_above latest used m.0 later most.0, latest_of latest used ms later most.1)

below_step : (b : Bool) (used latest : ℕ) (member : Member) (m : Used) (ms : List Used) → nat_eq latest m.0 ≡ b
    → m.0 < used → (lookup (is_at (nat_cmp latest)) ms ≡ Some member → latest < used)
    → lookup (is_at (nat_cmp latest)) (m ∷ ms) ≡ Some member → latest < used
below_step true used latest member m ms e here rest found = let same = eqb-true latest m.0 e in omega arith
below_step false used latest member m ms e here rest found = rest (rw (at_number latest m.0, e) at found)

pub latest_below : (used latest : ℕ) (member : Member) (members : List Used) → IsLatest used members
    → lookup (is_at (nat_cmp latest)) members ≡ Some member → latest < used
latest_below used latest member [] above found = cc
latest_below used latest member (m ∷ ms) above found =
    below_step (nat_eq latest m.0) used latest member m ms refl above.0 (latest_below used latest member ms above.1) found

pub is_latest_behind : (used latest : ℕ) (member : Member) (members : List Used)
    → All (λ key. is_lt (nat_cmp latest key) ≡ false) (keys_of members) → lookup (is_at (nat_cmp latest)) members ≡ Some member
    → IsTrue (nat_lt latest used) ↔ IsLatest used members
is_latest_behind used latest member members most found =
    let there : IsTrue (nat_lt latest used) → IsLatest used members = λ e.
    latest_of latest used members (ltb-true latest used e) (recursion_from_All (λ key. is_lt (nat_cmp latest key) ≡ false) (keys_of members) most) in
    let back : IsLatest used members → IsTrue (nat_lt latest used) = λ above. lt-ltb latest used (latest_below used latest member members above found) in
    (there, back)

-- ---- what a call gives that is, or isn't, refused
pub ok_given : {T E : Type 0} (r : Result T E) (P : Type 0) → is_err r ≡ false → OnOk r P → P
ok_given (Ok t) P ok p = p
ok_given (Err e) P ok p = cc

pub err_given : {T E : Type 0} (r : Result T E) (P : Type 0) → is_err r ≡ true → OnErr r P → P
err_given (Ok t) P err p = cc
err_given (Err e) P err p = p
