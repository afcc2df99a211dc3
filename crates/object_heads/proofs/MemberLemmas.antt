-- The list of members, as the map by handle has it.
use Rattle.std.proofs.Common.{◌≡◌, ◌<◌, ℕ, Bool, true, false, ◌||◌, cond, List, [], ◌∷◌, filter, map, Option, None, Some, refl, sym, ◌∙◌, ap, subst, arith}
use Rattle.std.specs.declared.ops.Bound.TheVariants.{Included, Unbounded}
use Rattle.std.specs.Prelude.{nat_eq, nat_lt, nat_le, slice_get, IsTrue, IfSome, ◌↔◌, option_map}
use Rattle.std.proofs.Common.{Less}
use Rattle.std.specs.Ordering.{is_eq, nat_cmp}
use Rattle.std.specs.Option.{is_some, option_map_or}
use Rattle.std.specs.List.{list_any, AllByRecursion}
use Rattle.std.specs.List.Sorted.{IsStrictlySortedBy}
use Rattle.std.specs.Cmp.{nat_cmp_total, eq_by_cmp_equiv}
use Rattle.std.specs.Map.{keys_of, lookup, remove_entry, set_value}
use Rattle.std.specs.BTreeMap.{BTreeMap, insert_entry, is_at}
use Rattle.std.specs.BTreeMap.Range.{entries_between, range_contains}
use Rattle.std.specs.BTreeMap as tree
use Rattle.std.specs.BTreeSet.{BTreeSet, contains, IsOrdered}
use Rattle.std.proofs.lemmas.Bool.{ltb-true, lt-ltb, eqb-true}
use Rattle.std.proofs.lemmas.Bool.Decides.{nat_tests}
use Rattle.std.proofs.lemmas.Map.Entries.{option_filter, lookup-filter-values}
use Rattle.std.proofs.lemmas.Map.Keys.{IsDistinct-from_sorted}
use Rattle.std.proofs.lemmas.Map.Made.{is_some-lookup, keys_of-map_values, lookup-map_values}
use Rattle.std.proofs.lemmas.Map.Lookups.{btree_set_from_contains, exact_unsigned}
use Rattle.cache_law.specs.declared.object.Object.{Object}
use Rattle.cache_law.specs.Object.{key_of}
use Rattle.object_heads.specs.declared.item.Item.{Item}
use Rattle.object_heads.specs.declared.heads.Kept.{Kept}
use Rattle.object_heads.specs.declared.name.Name.{Name}
use Rattle.object_heads.specs.declared.places.Places.{Places}
use Rattle.object_heads.specs.Members.{IsNewest, has_key, has_number, handles_where, handle_at, without, changed, with_object, first_from}
use Rattle.object_heads.specs.Names.{IsNameOf}
use Rattle.object_heads.specs.Indexes.{same_name, is_that, is_under, is_at_number}
use Rattle.object_heads.specs.Kept.{member_of, members_of, IsNamed, Stands}
use Rattle.object_heads.proofs.IndexLemmas.{compared_equal, index_same, all_more}
use Rattle.object_heads.proofs.NameLemmas.{same_name-of}

less : (a b : ℕ) → a < b → nat_cmp a b ≡ Less
less a b h = grind (arith, nat_tests)

less_back : (a b : ℕ) → nat_cmp a b ≡ Less → a < b
less_back a b e = grind (arith, nat_tests)

-- ---- a newest member
pub newest_kept : {P : Type 0} (handle : ℕ) (entries : List (ℕ × Kept P)) → IsNewest handle (map member_of entries) → IsNewest handle entries
newest_kept handle [] newest = tt
newest_kept handle (m ∷ ms) newest = (newest.0, newest_kept handle ms newest.1)

pub newest_shown : {P : Type 0} (handle : ℕ) (entries : List (ℕ × Kept P)) → IsNewest handle entries → IsNewest handle (map member_of entries)
newest_shown handle [] newest = tt
newest_shown handle (m ∷ ms) newest = (newest.0, newest_shown handle ms newest.1)

module _ {X : Type 0} where
  pub get-newest : (handle : ℕ) (members : List (ℕ × X)) → IsNewest handle members → lookup (is_at (nat_cmp handle)) members ≡ None
  get-newest handle [] newest = refl
  get-newest handle (m ∷ ms) newest = rw (less handle m.0 newest.0) (get-newest handle ms newest.1)

  pub insert-newest : (handle : ℕ) (x : X) (members : List (ℕ × X)) → IsNewest handle members → insert_entry nat_cmp members handle x ≡ (handle, x) ∷ members
  insert-newest handle x [] newest = refl
  insert-newest handle x (m ∷ ms) newest = rw (less handle m.0 newest.0) refl

  newest_of : (handle a : ℕ) (members : List (ℕ × X)) → handle < a → AllByRecursion (λ y. nat_cmp a y ≡ Less) (keys_of members) → IsNewest handle members
  newest_of handle a [] below above = tt
  newest_of handle a (m ∷ ms) below above =
      let here : a < m.0 = less_back a m.0 above.0 in
      let first : handle < m.0 = omega arith in
      (first, newest_of handle a ms below above.1)

  newest_before : (handle : ℕ) (m : ℕ × X) (ms : List (ℕ × X)) → IsStrictlySortedBy nat_cmp (keys_of (m ∷ ms)) → handle < m.0 → IsNewest handle (m ∷ ms)
  unfolding IsStrictlySortedBy
  newest_before handle m ms s below = (below, newest_of handle m.0 ms below s.0)

  pub is_newest_before : (handle : ℕ) (members : List (ℕ × X)) (first : ℕ) (x : X) → IsStrictlySortedBy nat_cmp (keys_of members)
      → slice_get members 0 ≡ Some (first, x) → IsTrue (nat_lt handle first) ↔ IsNewest handle members
  is_newest_before handle [] first x s at = cc
  is_newest_before handle (m ∷ ms) first x s at =
      let same : m.0 ≡ first = cc in
      let there : IsTrue (nat_lt handle m.0) → IsNewest handle (m ∷ ms) = λ e. newest_before handle m ms s (ltb-true handle m.0 e) in
      let back : IsNewest handle (m ∷ ms) → IsTrue (nat_lt handle m.0) = λ newest. lt-ltb handle m.0 newest.0 in
      rw (← same) (there, back)

  -- ---- one member less
  pub lookup-number : (handle : ℕ) (members : List (ℕ × X)) → lookup (is_at (nat_cmp handle)) members ≡ lookup (nat_eq handle) members
  lookup-number handle [] = refl
  lookup-number handle (m ∷ ms) = rw (compared_equal handle m.0, lookup-number handle ms) refl

  kept_step : (b : Bool) (handle : ℕ) (m : ℕ × X) (ms : List (ℕ × X)) → nat_eq handle m.0 ≡ b
      → (lookup (is_at (nat_cmp handle)) ms ≡ None → without handle ms ≡ ms)
      → lookup (is_at (nat_cmp handle)) (m ∷ ms) ≡ None → without handle (m ∷ ms) ≡ m ∷ ms
  kept_step true handle m ms e rest none = let found = rw (compared_equal handle m.0, e) at none in cc
  kept_step false handle m ms e rest none = let behind = rw (compared_equal handle m.0, e) at none in rw e (ap (λ es. m ∷ es) (rest behind))

  kept_where_none : (handle : ℕ) (members : List (ℕ × X)) → lookup (is_at (nat_cmp handle)) members ≡ None → without handle members ≡ members
  kept_where_none handle [] none = refl
  kept_where_none handle (m ∷ ms) none = kept_step (nat_eq handle m.0) handle m ms refl (kept_where_none handle ms) none

  rest_step : (b : Bool) (handle : ℕ) (m : ℕ × X) (ms : List (ℕ × X)) → nat_eq handle m.0 ≡ b
      → (lookup (is_at (nat_cmp handle)) (remove_entry (is_at (nat_cmp handle)) ms) ≡ None → remove_entry (is_at (nat_cmp handle)) ms ≡ without handle ms)
      → lookup (is_at (nat_cmp handle)) (remove_entry (is_at (nat_cmp handle)) (m ∷ ms)) ≡ None
      → remove_entry (is_at (nat_cmp handle)) (m ∷ ms) ≡ without handle (m ∷ ms)
  rest_step true handle m ms e rest none = let behind = rw (compared_equal handle m.0, e) at none in rw (compared_equal handle m.0, e) (sym (kept_where_none handle ms behind))
  rest_step false handle m ms e rest none = let behind = rw (compared_equal handle m.0, e, compared_equal handle m.0, e) at none in rw (compared_equal handle m.0, e) (ap (λ es. m ∷ es) (rest behind))

  rest-without : (handle : ℕ) (members : List (ℕ × X)) → lookup (is_at (nat_cmp handle)) (remove_entry (is_at (nat_cmp handle)) members) ≡ None
      → remove_entry (is_at (nat_cmp handle)) members ≡ without handle members
  rest-without handle [] none = refl
  rest-without handle (m ∷ ms) none = rest_step (nat_eq handle m.0) handle m ms refl (rest-without handle ms) none

module _ {P : Type 0} where
  without_step : (b : Bool) (handle : ℕ) (m : ℕ × Kept P) (ms : List (ℕ × Kept P)) → nat_eq handle m.0 ≡ b
      → map member_of (without handle ms) ≡ without handle (map member_of ms) → map member_of (without handle (m ∷ ms)) ≡ without handle (map member_of (m ∷ ms))
  without_step true handle m ms e rest = rw (e, rest) refl
  without_step false handle m ms e rest = rw (e, rest) refl

  without-shown : (handle : ℕ) (entries : List (ℕ × Kept P)) → map member_of (without handle entries) ≡ without handle (map member_of entries)
  without-shown handle [] = refl
  without-shown handle (m ∷ ms) = without_step (nat_eq handle m.0) handle m ms refl (without-shown handle ms)

  pub shown-rest : (handle : ℕ) (entries : List (ℕ × Kept P)) → lookup (is_at (nat_cmp handle)) (remove_entry (is_at (nat_cmp handle)) entries) ≡ None
      → map member_of (remove_entry (is_at (nat_cmp handle)) entries) ≡ without handle (map member_of entries)
  shown-rest handle entries none = ap (map member_of) (rest-without handle entries none) ∙ without-shown handle entries

  pub shown-lookup : (handle : ℕ) (entries : List (ℕ × Kept P)) → lookup (nat_eq handle) (map member_of entries) ≡ option_map (λ (kept : Kept P). kept.item) (lookup (is_at (nat_cmp handle)) entries)
  shown-lookup handle entries = sym (lookup-number handle (map member_of entries)) ∙ lookup-map_values (λ (kept : Kept P). kept.item) (is_at (nat_cmp handle)) entries

-- ---- the members that pass a test
module _ {X : Type 0} where
  all_step : (R : ℕ → Type 0) (p : ℕ × X → Bool) (m : ℕ × X) (ms : List (ℕ × X)) (b : Bool) → p m ≡ b → R m.0
      → AllByRecursion R (keys_of (filter p ms)) → AllByRecursion R (keys_of (filter p (m ∷ ms)))
  all_step R p m ms true e here rest = rw e (here, rest)
  all_step R p m ms false e here rest = rw e rest

  all_kept : (R : ℕ → Type 0) (p : ℕ × X → Bool) (members : List (ℕ × X)) → AllByRecursion R (keys_of members) → AllByRecursion R (keys_of (filter p members))
  all_kept R p [] h = tt
  all_kept R p (m ∷ ms) h = all_step R p m ms (p m) refl h.0 (all_kept R p ms h.1)

  sorted_step : (p : ℕ × X → Bool) (m : ℕ × X) (ms : List (ℕ × X)) (b : Bool) → p m ≡ b
      → AllByRecursion (λ y. nat_cmp m.0 y ≡ Less) (keys_of (filter p ms)) → IsStrictlySortedBy nat_cmp (keys_of (filter p ms))
      → IsStrictlySortedBy nat_cmp (keys_of (filter p (m ∷ ms)))
  unfolding IsStrictlySortedBy
  sorted_step p m ms true e above rest = rw e (above, rest)
  sorted_step p m ms false e above rest = rw e rest

  sorted_kept : (p : ℕ × X → Bool) (members : List (ℕ × X)) → IsStrictlySortedBy nat_cmp (keys_of members) → IsStrictlySortedBy nat_cmp (keys_of (filter p members))
  unfolding IsStrictlySortedBy
  sorted_kept p [] s = s
  sorted_kept p (m ∷ ms) s = sorted_step p m ms (p m) refl (all_kept (λ y. nat_cmp m.0 y ≡ Less) p ms s.0) (sorted_kept p ms s.1)

  is_some_cond : (b : Bool) (x : X) → is_some (cond b (Some x) None) ≡ b
  is_some_cond true x = refl
  is_some_cond false x = refl

  tested : (test : X → Bool) (o : Option X) → is_some (option_filter test o) ≡ option_map_or test o false
  tested test None = refl
  tested test (Some x) = is_some_cond (test x) x

  passing : (test : X → Bool) (members : List (ℕ × X)) → IsStrictlySortedBy nat_cmp (keys_of members) → (q : ℕ)
      → list_any (is_at (nat_cmp q)) (keys_of (filter (λ member. test member.1) members)) ≡ option_map_or test (lookup (is_at (nat_cmp q)) members) false
  passing test members s q =
      sym (is_some-lookup (is_at (nat_cmp q)) (filter (λ member. test member.1) members))
      ∙ ap is_some (lookup-filter-values (eq_by_cmp_equiv nat_cmp_total) test q members (IsDistinct-from_sorted nat_cmp (keys_of members) s))
      ∙ tested test (lookup (is_at (nat_cmp q)) members)

first_where : (r : Option ℕ) (handles : List ℕ) → ((q : ℕ) → is_that r q ≡ list_any (is_at (nat_cmp q)) handles) → r ≡ slice_get handles 0
first_where None [] is = refl
first_where None (x ∷ xs) is = let at : false ≡ (is_eq (nat_cmp x x) || list_any (is_at (nat_cmp x)) xs) = is x in absurd (grind (arith, nat_tests))
first_where (Some own) [] is = let at : nat_eq own own ≡ false = is own in absurd (grind (arith, nat_tests))
first_where (Some own) (x ∷ xs) is =
    let at : nat_eq own x ≡ (is_eq (nat_cmp x x) || list_any (is_at (nat_cmp x)) xs) = is x in
    let here : own ≡ x = grind (arith, nat_tests) in
    ap Some here

module _ {P : Type 0} where
  shown_test : (test : Item P → Bool) (o : Option (Kept P)) → option_map_or test (option_map (λ (kept : Kept P). kept.item) o) false ≡ option_map_or (λ (kept : Kept P). test kept.item) o false
  shown_test test None = refl
  shown_test test (Some kept) = refl

  pub sorted_shown : (entries : List (ℕ × Kept P)) → IsStrictlySortedBy nat_cmp (keys_of entries) → IsStrictlySortedBy nat_cmp (keys_of (map member_of entries))
  sorted_shown entries s = subst (IsStrictlySortedBy nat_cmp) (sym (keys_of-map_values (λ (kept : Kept P). kept.item) entries)) s

  -- what an index has of a handle, and whether the handle is that of a member which passes the test
  passing_shown : (test : Item P → Bool) (entries : List (ℕ × Kept P)) → IsStrictlySortedBy nat_cmp (keys_of entries) → (q : ℕ)
      → list_any (is_at (nat_cmp q)) (handles_where test (map member_of entries)) ≡ option_map_or (λ (kept : Kept P). test kept.item) (lookup (is_at (nat_cmp q)) entries) false
  passing_shown test entries s q =
      passing test (map member_of entries) (sorted_shown entries s) q
      ∙ ap (λ o. option_map_or test o false) (lookup-map_values (λ (kept : Kept P). kept.item) (is_at (nat_cmp q)) entries)
      ∙ shown_test test (lookup (is_at (nat_cmp q)) entries)

  found_handles : (test : Item P → Bool) (entries : List (ℕ × Kept P)) (found : BTreeSet ℕ) → IsStrictlySortedBy nat_cmp (keys_of entries) → IsOrdered nat_cmp found
      → ((q : ℕ) → contains nat_cmp found q ≡ option_map_or (λ (kept : Kept P). test kept.item) (lookup (is_at (nat_cmp q)) entries) false)
      → found.keys ≡ handles_where test (map member_of entries)
  found_handles test entries found s t is =
      let wanted : BTreeSet ℕ = record { keys = handles_where test (map member_of entries) } in
      btree_set_from_contains nat_cmp_total found wanted t (sorted_kept (λ member. test member.1) (map member_of entries) (sorted_shown entries s)) (λ q. is q ∙ sym (passing_shown test entries s q)) exact_unsigned

  named_test : (name : Name) (key : List (List ℕ)) → IsNameOf name key → (o : Option (Kept P)) → IfSome o IsNamed
      → option_map_or (λ (kept : Kept P). same_name kept.name name) o false ≡ option_map_or (λ (kept : Kept P). has_key key kept.item) o false
  named_test name key one None named = refl
  named_test name key one (Some kept) named = same_name-of kept.name name (key_of kept.item.view.object) key named one

  -- the handles that stand under a name are those of the members of its key
  pub found_by_key : (items : BTreeMap ℕ (Kept P)) (name : Name) (key : List (List ℕ)) (found : BTreeSet ℕ) → IsNameOf name key
      → tree.IsOrdered nat_cmp items → IsOrdered nat_cmp found → ((handle : ℕ) → IfSome (tree.get nat_cmp items handle) IsNamed)
      → ((handle : ℕ) → contains nat_cmp found handle ≡ option_map_or (λ (kept : Kept P). same_name kept.name name) (tree.get nat_cmp items handle) false)
      → found.keys ≡ handles_where (has_key key) (members_of items)
  found_by_key items name key found one s t named is =
      found_handles (has_key key) items.entries found s t (λ q. is q ∙ named_test name key one (tree.get nat_cmp items q) (named q))

  -- the handle at a number is that of the member of the number
  pub found_by_number : (items : BTreeMap ℕ (Kept P)) (number : ℕ) (found : Option ℕ) → tree.IsOrdered nat_cmp items
      → ((handle : ℕ) → is_that found handle ≡ option_map_or (λ (kept : Kept P). nat_eq kept.item.view.number number) (tree.get nat_cmp items handle) false)
      → found ≡ handle_at number (members_of items)
  found_by_number items number found s is =
      first_where found (handles_where (has_number number) (members_of items)) (λ q. is q ∙ sym (passing_shown (has_number number) items.entries s q))

-- ---- one item changed
abbrev pub in_kept : {P : Type 0} → (Item P → Item P) → Kept P → Kept P
in_kept change kept = record kept { item = change kept.item }

module _ {X : Type 0} where
  unchanged_step : (b : Bool) (handle : ℕ) (change : X → X) (m : ℕ × X) (ms : List (ℕ × X)) → nat_eq handle m.0 ≡ b
      → (lookup (is_at (nat_cmp handle)) ms ≡ None → changed handle change ms ≡ ms)
      → lookup (is_at (nat_cmp handle)) (m ∷ ms) ≡ None → changed handle change (m ∷ ms) ≡ m ∷ ms
  unchanged_step true handle change m ms e rest none = let found = rw (compared_equal handle m.0, e) at none in cc
  unchanged_step false handle change m ms e rest none = let behind = rw (compared_equal handle m.0, e) at none in rw e (ap (λ es. m ∷ es) (rest behind))

  pub unchanged : (handle : ℕ) (change : X → X) (members : List (ℕ × X)) → lookup (is_at (nat_cmp handle)) members ≡ None → changed handle change members ≡ members
  unchanged handle change [] none = refl
  unchanged handle change (m ∷ ms) none = unchanged_step (nat_eq handle m.0) handle change m ms refl (unchanged handle change ms) none

  changed_step : (b : Bool) (handle : ℕ) (change : X → X) (v : X) (m : ℕ × X) (ms : List (ℕ × X)) → nat_eq handle m.0 ≡ b
      → (nat_eq handle m.0 ≡ true → lookup (is_at (nat_cmp handle)) ms ≡ None)
      → (lookup (is_at (nat_cmp handle)) ms ≡ Some v → set_value (is_at (nat_cmp handle)) ms (change v) ≡ changed handle change ms)
      → lookup (is_at (nat_cmp handle)) (m ∷ ms) ≡ Some v → set_value (is_at (nat_cmp handle)) (m ∷ ms) (change v) ≡ changed handle change (m ∷ ms)
  changed_step true handle change v m ms e apart rest found =
      let here : Some m.1 ≡ Some v = rw (compared_equal handle m.0, e) at found in
      let same : m.1 ≡ v = cc in
      rw (compared_equal handle m.0, e, unchanged handle change ms (apart e), same) refl
  changed_step false handle change v m ms e apart rest found =
      let behind = rw (compared_equal handle m.0, e) at found in
      rw (compared_equal handle m.0, e) (ap (λ es. m ∷ es) (rest behind))

  set-changed : (handle : ℕ) (change : X → X) (v : X) (members : List (ℕ × X)) → IsStrictlySortedBy nat_cmp (keys_of members)
      → lookup (is_at (nat_cmp handle)) members ≡ Some v → set_value (is_at (nat_cmp handle)) members (change v) ≡ changed handle change members
  unfolding IsStrictlySortedBy
  set-changed handle change v [] s found = refl
  set-changed handle change v (m ∷ ms) s found =
      let apart : nat_eq handle m.0 ≡ true → lookup (is_at (nat_cmp handle)) ms ≡ None = λ e. get-newest handle ms (subst (λ n. IsNewest n ms) (sym (eqb-true handle m.0 e)) (above m.0 ms s.0)) in
      changed_step (nat_eq handle m.0) handle change v m ms refl apart (set-changed handle change v ms s.1) found where
        above : (a : ℕ) (members : List (ℕ × X)) → AllByRecursion (λ y. nat_cmp a y ≡ Less) (keys_of members) → IsNewest a members
        above a [] h = tt
        above a (m ∷ ms) h = (less_back a m.0 h.0, above a ms h.1)

module _ {P : Type 0} where
  changed_shown_step : (b : Bool) (handle : ℕ) (change : Item P → Item P) (m : ℕ × Kept P) (ms : List (ℕ × Kept P)) → nat_eq handle m.0 ≡ b
      → map member_of (changed handle (in_kept change) ms) ≡ changed handle change (map member_of ms)
      → map member_of (changed handle (in_kept change) (m ∷ ms)) ≡ changed handle change (map member_of (m ∷ ms))
  changed_shown_step true handle change m ms e rest = rw (e, rest) refl
  changed_shown_step false handle change m ms e rest = rw (e, rest) refl

  changed-shown : (handle : ℕ) (change : Item P → Item P) (entries : List (ℕ × Kept P)) → map member_of (changed handle (in_kept change) entries) ≡ changed handle change (map member_of entries)
  changed-shown handle change [] = refl
  changed-shown handle change (m ∷ ms) = changed_shown_step (nat_eq handle m.0) handle change m ms refl (changed-shown handle change ms)

  -- the map has another item at the handle
  pub shown-changed : (handle : ℕ) (change : Item P → Item P) (v : Kept P) (old new : BTreeMap ℕ (Kept P)) → tree.IsOrdered nat_cmp old
      → Some v ≡ tree.get nat_cmp old handle → new.entries ≡ set_value (is_at (nat_cmp handle)) old.entries (in_kept change v)
      → members_of new ≡ changed handle change (members_of old)
  shown-changed handle change v old new s there sets =
      ap (map member_of) (sets ∙ set-changed handle (in_kept change) v old.entries s (sym there)) ∙ changed-shown handle change old.entries

  -- the map has no item there
  pub shown-unchanged : (handle : ℕ) (change : Item P → Item P) (items : BTreeMap ℕ (Kept P)) → tree.get nat_cmp items handle ≡ None
      → members_of items ≡ changed handle change (members_of items)
  shown-unchanged handle change items none =
      sym (unchanged handle change (members_of items) (lookup-map_values (λ (kept : Kept P). kept.item) (is_at (nat_cmp handle)) items.entries ∙ ap (option_map (λ (kept : Kept P). kept.item)) none))

  -- another object of the same key at the handle, under the same number
  pub stands-replaced : (handle : ℕ) (object : Object) (v : Kept P) (old new : BTreeMap ℕ (Kept P)) (places : Places) → tree.IsOrdered nat_cmp new
      → ((other : ℕ) → tree.get nat_cmp new other ≡ cond (is_at (nat_cmp handle) other) (Some (in_kept (with_object object) v)) (tree.get nat_cmp old other))
      → tree.get nat_cmp old handle ≡ Some v → IsNamed v → key_of object ≡ key_of v.item.view.object → Stands old places → Stands new places
  stands-replaced handle object v old new places s puts there named same stands =
      let w = in_kept (with_object object) v in
      record {
        ordered = s;
        named = all_more IsNamed (tree.get nat_cmp old) (tree.get nat_cmp new) handle w puts (subst (IsNameOf v.name) (sym same) named) stands.named;
        heads = index_same (λ (kept : Kept P). same_name kept.name) (tree.get nat_cmp old) (tree.get nat_cmp new) (is_under places.heads) handle v w puts there (λ key. refl) stands.heads;
        numbers = index_same (λ (kept : Kept P). nat_eq kept.item.view.number) (tree.get nat_cmp old) (tree.get nat_cmp new) (is_at_number places.numbers) handle v w puts there (λ key. refl) stands.numbers;
      }

  -- ---- the members from a handle on
  from_step : (p q : ℕ → Bool) (b : Bool) (m : ℕ × Kept P) (ms : List (ℕ × Kept P)) → p m.0 ≡ b → q m.0 ≡ b
      → keys_of (filter (λ e. p e.0) ms) ≡ keys_of (filter (λ e. q e.0) (map member_of ms)) → keys_of (filter (λ e. p e.0) (m ∷ ms)) ≡ keys_of (filter (λ e. q e.0) (map member_of (m ∷ ms)))
  from_step p q true m ms e f rest = rw (e, f) (ap (λ ns. m.0 ∷ ns) rest)
  from_step p q false m ms e f rest = rw (e, f) rest

  shown_from : (p q : ℕ → Bool) → ((n : ℕ) → p n ≡ q n) → (entries : List (ℕ × Kept P)) → keys_of (filter (λ e. p e.0) entries) ≡ keys_of (filter (λ e. q e.0) (map member_of entries))
  shown_from p q same [] = refl
  shown_from p q same (m ∷ ms) = from_step p q (q m.0) m ms (same m.0) refl (shown_from p q same ms)

  -- the first of the entries from a handle on, as a walk over them gives it
  pub first_shown : (handle : ℕ) (entries rest : List (ℕ × Kept P)) → rest ≡ entries_between nat_cmp (Included handle) Unbounded entries
      → slice_get (keys_of rest) 0 ≡ first_from handle (map member_of entries)
  first_shown handle entries rest is =
      ap (λ es. slice_get (keys_of es) 0) is
      ∙ ap (λ ns. slice_get ns 0) (shown_from (range_contains nat_cmp (Included handle) Unbounded) (nat_le handle) (λ n. from_start handle n) entries) where
        from_start : (a b : ℕ) → range_contains nat_cmp (Included a) Unbounded b ≡ nat_le a b
        from_start a b = grind (arith, nat_tests)
