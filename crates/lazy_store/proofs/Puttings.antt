-- The containers stay tied where a member comes first, whose use is later than all others.
use Rattle.std.proofs.Common.{◌≡◌, ◌≤◌, ◌<◌, ◌+◌, ◌^◌, ℕ, ℤ, Bool, true, false, not, cond, List, [], ◌∷◌, ◌++◌, ◌&&◌, None, filter, map, length, nat_eq, refl, arith, sym, ap, ◌∙◌, subst}
use Rattle.std.specs.Prelude.{slice_get, sum_by}
use Rattle.std.specs.List.{list_any, AllByRecursion}
use Rattle.std.specs.Ordering.{int_eq}
use Rattle.std.specs.Map.{keys_of}
use Rattle.std.proofs.lemmas.Bool.Decides.{nat_tests}
use Rattle.std.proofs.lemmas.List.Sums.{sum_by-cons}
use Rattle.cache_law.specs.declared.object.Object.{Object}
use Rattle.cache_law.specs.declared.object.Object.TheVariants.{Ordinary, HitForMiss, HitForPass}
use Rattle.cache_law.specs.declared.ban.Issued.{Issued}
use Rattle.cache_law.specs.Object.{size_of}
use Rattle.cache_law.specs.Purges.{xkeys_of}
use Rattle.cache_law.specs.ShownBans.{those_open}
use Rattle.object_heads.specs.declared.item.Item.{Item}
use Rattle.object_heads.specs.Members as heads
use Rattle.xkey_index.specs.Members as xkeys
use Rattle.room_lru.specs.declared.member.Member.{Member as Weighed}
use Rattle.room_lru.specs.Ends.{has_end}
use Rattle.room_lru.specs.Members as rooms
use Rattle.room_lru.specs.Members.{Used}
use Rattle.ban_list.specs.Bans.{Bans, entered}
use Rattle.ban_list.specs.Kept.{AreFalling}
use Rattle.ban_list.proofs.StandLemmas.{at_entered}
use Rattle.lazy_law.specs.Placed.{Placed, is_unswept}
use Rattle.lazy_law.specs.Insertion.{has_number, sizes_late}
use Rattle.lazy_law.specs.Sweeping.{count_unswept}
use Rattle.lazy_law.proofs.Filters.{any_none, filter_none, sum_of_map}
use Rattle.lazy_store.specs.declared.placement.Placement.{Placement}
use Rattle.lazy_store.specs.Members.{Member, end_of, handle_of, lazy_of, number_of, placed_of, stand_of, tagged_of, use_of, used_of}
use Rattle.lazy_store.specs.Tied.{AreAlike, AreTied, IsAhead, IsWithin}
use Rattle.lazy_store.specs.Uses.{AreUsedBefore}
use Rattle.lazy_store.proofs.Fewer.{none_above}
use Rattle.lazy_store.proofs.Found.{own_eq}
use Rattle.lazy_store.proofs.Splits.{alike_more, all_fail, all_weaken, any_alike, eq_turned, filter_all}

-- ---- numbers that are less

less_other : (own other : ℕ) → own < other → nat_eq own other ≡ false
less_other own other less = grind (arith, nat_tests)

more_other : (own other : ℕ) → own < other → nat_eq other own ≡ false
more_other own other less = grind (arith, nat_tests)

and_false : (b c : Bool) → c ≡ false → (b && c) ≡ false
and_false true c e = e
and_false false c e = refl

-- ---- a handle below all others

below_one : (handle used : ℕ) (m : Member) → handle + used + 1 ≡ 2 ^ 64 → IsAhead m → use_of m < used → handle < handle_of m
below_one handle used m sum ahead less = omega (arith, sum, ahead.low, less)

pub newest_handle : (handle used : ℕ) (members : List Member) → handle + used + 1 ≡ 2 ^ 64 → AllByRecursion IsAhead members → AreUsedBefore used (map placed_of members) → heads.IsNewest handle members
newest_handle handle used [] sum ahead before = tt
newest_handle handle used (m ∷ members) sum ahead before = (below_one handle used m sum ahead.0 before.0, newest_handle handle used members sum ahead.1 before.1)

newest_map : (handle : ℕ) (members : List Member) → heads.IsNewest handle members → xkeys.IsNewest handle (map tagged_of members)
newest_map handle [] all = tt
newest_map handle (m ∷ members) all = (all.0, newest_map handle members all.1)

pub newest_tagged : (handle : ℕ) (members : List Member) (tagged : List (ℕ × List (List ℕ))) → tagged ≡ map tagged_of members → heads.IsNewest handle members → xkeys.IsNewest handle tagged
newest_tagged handle members tagged is all = subst (xkeys.IsNewest handle) (sym is) (newest_map handle members all)

free_among : (end : ℤ) (handle : ℕ) (members : List Member) → heads.IsNewest handle members → AllByRecursion (λ (x : Used). has_end (end, handle) x ≡ false) (map used_of members)
free_among end handle [] all = tt
free_among end handle (m ∷ members) all =
    (and_false (int_eq (end_of m.1.view.object) end) (nat_eq (handle_of m) handle) (more_other handle (handle_of m) all.0), free_among end handle members all.1)

pub free_end : (end : ℤ) (handle : ℕ) (room : List Used) (members : List Member) → AreAlike room (map used_of members) → heads.IsNewest handle members → list_any (has_end (end, handle)) room ≡ false
free_end end handle room members alike all =
    any_alike (has_end (end, handle)) room (map used_of members) alike ∙ any_none (has_end (end, handle)) (map used_of members) (free_among end handle members all)

-- ---- a number that no other has

numbered_none : (number : ℕ) (members : List Member) → AllByRecursion (λ (p : Placed). has_number number p ≡ false) (map placed_of members) → AllByRecursion (λ (m : Member). nat_eq (number_of m) number ≡ false) members
numbered_none number [] all = tt
numbered_none number (m ∷ members) all = (all.0, numbered_none number members all.1)

pub unnumbered : (number : ℕ) (members : List Member) → list_any (has_number number) (map placed_of members) ≡ false → AllByRecursion (λ (m : Member). nat_eq (number_of m) number ≡ false) members
unnumbered number members none_ = numbered_none number members (all_fail (has_number number) (map placed_of members) none_)

pub own_number : (number : ℕ) (members : List Member) → list_any (has_number number) (map placed_of members) ≡ false → heads.handle_at number members ≡ None
own_number number members none_ =
    ap (λ (xs : List Member). slice_get (keys_of xs) 0) (filter_none (λ (m : Member). heads.has_number number m.1) members (unnumbered number members none_))

-- ---- sizes

pub total_is : (room : List Used) (members : List Member) → AreAlike room (map used_of members) → rooms.total_of room ≡ sizes_late (map placed_of members)
total_is room members alike =
    sum_of_map (λ (n : ℕ). n) (λ (w : Weighed). w.size) (map (λ (x : Used). x.1) room) ∙ sum_of_map (λ (w : Weighed). w.size) (λ (x : Used). x.1) room ∙ alike (λ (x : Used). x.1.size)
    ∙ sum_of_map (λ (x : Used). x.1.size) used_of members ∙ sym (sum_of_map (λ (p : Placed). size_of p.view.object) placed_of members)

pub size_some : (object : Object) → 1 ≤ size_of object
size_some (Ordinary response) = omega arith
size_some (HitForMiss marker) = omega arith
size_some (HitForPass marker) = omega arith

-- each object takes a byte at least
pub few_objects : (members : List Member) → length members ≤ sizes_late (map placed_of members)
few_objects [] = omega arith
few_objects (m ∷ members) =
    let here = sum_by-cons (λ (p : Placed). size_of p.view.object) (placed_of m) (map placed_of members) in
    let rest = few_objects members in
    let some = size_some m.1.view.object in
    omega (arith, here, rest, some)

-- ---- by use

abbrev pub weighed : ℕ → ℕ → ℤ → Weighed
weighed handle size end = record { handle = handle; size = size; end = end }

pub put_room : (handle size : ℕ) (end : ℤ) (item : Item Placement) (room later : List Used) → later ≡ room ++ (item.payload.used, weighed handle size end) ∷ [] → size ≡ size_of item.view.object → end ≡ end_of item.view.object
    → later ≡ room ++ used_of (handle, item) ∷ []
put_room handle size end item room later is size_is end_is =
    is ∙ ap (λ (n : ℕ). room ++ (item.payload.used, weighed handle n end) ∷ []) size_is ∙ ap (λ (e : ℤ). room ++ (item.payload.used, weighed handle (size_of item.view.object) e) ∷ []) end_is

-- ---- what was put is taken again

pub room_back : (used : ℕ) (weighed : Weighed) (room : List Used) → rooms.IsLatest used room → rooms.without used (room ++ (used, weighed) ∷ []) ≡ room
room_back used weighed [] latest = rw (own_eq used) refl
room_back used weighed (x ∷ room) latest = rw (more_other x.0 used latest.0, room_back used weighed room latest.1) refl

pub keys_back : (handle : ℕ) (keys : List (List ℕ)) (tagged : List (ℕ × List (List ℕ))) → xkeys.IsNewest handle tagged → xkeys.without handle ((handle, keys) ∷ tagged) ≡ tagged
keys_back handle keys tagged newest =
    rw (own_eq handle)
    (filter_all (λ (x : ℕ × List (List ℕ)). not (nat_eq handle x.0)) tagged
    (all_weaken (λ (x : ℕ × List (List ℕ)). handle < x.0) (λ (x : ℕ × List (List ℕ)). not (nat_eq handle x.0) ≡ true) (λ x less. ap not (less_other handle x.0 less)) tagged newest))

-- ---- one more member

not_counted : {X : Type 0} (test : X → Bool) (x : X) (xs : List X) → test x ≡ false → length (filter test (x ∷ xs)) ≡ length (filter test xs)
not_counted test x xs e = ap (λ (b : Bool). length (cond b (x ∷ filter test xs) (filter test xs))) e

uses_before : (used : ℕ) (members : List Member) → AreUsedBefore used (map placed_of members) → AllByRecursion (λ (m : Member). nat_eq used (use_of m) ≡ false) members
uses_before used [] before = tt
uses_before used (m ∷ members) before = (more_other (use_of m) used before.0, uses_before used members before.1)

pub tied_first : (item : Item Placement) (handle : ℕ) (members : List Member) (tagged : List (ℕ × List (List ℕ))) (room : List Used) (bans : Bans) (newest unswept : ℕ)
    → AreTied members tagged room bans newest unswept → handle + item.payload.used + 1 ≡ 2 ^ 64 → AreUsedBefore item.payload.used (map placed_of members)
    → list_any (has_number item.view.number) (map placed_of members) ≡ false → item.payload.stand.place ≤ bans.issued → item.payload.stand.mark ≡ bans.issued → AreFalling (bans.issued + 1) bans.lines
    → AreTied ((handle, item) ∷ members) ((handle, xkeys_of item.view.object) ∷ tagged) (room ++ used_of (handle, item) ∷ []) (entered item.payload.stand.place item.payload.stand.mark bans) newest unswept
tied_first item handle members tagged room bans newest unswept tied sum before own place mark falling =
    let kept : List Issued = those_open bans.lines in
    let first : heads.IsNewest handle members = newest_handle handle item.payload.used members sum tied.ahead before in
    let waits : is_unswept kept (placed_of (handle, item)) ≡ false = none_above (bans.issued + 1) item.payload.stand.mark bans.lines falling (omega (arith, mark)) in
    record {
      handles = (all_weaken (λ (m : Member). handle < handle_of m) (λ (m : Member). nat_eq handle (handle_of m) ≡ false) (λ m less. less_other handle (handle_of m) less) members first, tied.handles);
      numbers = (
        all_weaken (λ (m : Member). nat_eq (number_of m) item.view.number ≡ false) (λ (m : Member). nat_eq item.view.number (number_of m) ≡ false)
            (λ m e. eq_turned item.view.number (number_of m) ∙ e) members (unnumbered item.view.number members own),
        tied.numbers,
      );
      uses = (uses_before item.payload.used members before, tied.uses);
      ahead = (record { fits = omega (arith, sum); low = omega (arith, sum) }, tied.ahead);
      within = (record { place = place; mark = omega (arith, mark) }, tied.within);
      tagged_ = ap (λ (xs : List (ℕ × List (List ℕ))). (handle, xkeys_of item.view.object) ∷ xs) tied.tagged_;
      room_ = alike_more room [] (used_of (handle, item)) (map used_of members) tied.room_;
      stands = at_entered item.payload.stand bans (map stand_of members) tied.stands;
      waiting = tied.waiting ∙ sym (not_counted (is_unswept kept) (placed_of (handle, item)) (map placed_of members) waits);
      alone = tied.alone;
    }
