-- The containers stay tied where a member changes and stands as before among the bans and among those by xkey.
use Rattle.std.proofs.Common.{◌≡◌, ◌≤◌, ◌<◌, ◌+◌, ℕ, Bool, true, false, cond, List, [], ◌∷◌, ◌++◌, Some, None, map, nat_eq, refl, arith, sym, ap, ◌∙◌, subst}
use Rattle.std.specs.Prelude.{nat_le, option_map, sum_by, if◌then◌else◌}
use Rattle.std.specs.List.{list_any, AllByRecursion}
use Rattle.std.specs.Map.{lookup}
use Rattle.std.proofs.lemmas.Bool.{leb-false}
use Rattle.std.proofs.lemmas.Bool.Decides.{nat_tests}
use Rattle.std.proofs.lemmas.List.{map-append}
use Rattle.std.proofs.lemmas.List.Sums.{sum_by-append, sum_by-cons}
use Rattle.cache_law.specs.declared.ban.Issued.{Issued}
use Rattle.cache_law.specs.Lookup.{raised}
use Rattle.cache_law.specs.ShownBans.{those_open}
use Rattle.ban_lurker.specs.Looks.{is_above}
use Rattle.object_heads.specs.declared.item.Item.{Item}
use Rattle.object_heads.specs.Members as heads
use Rattle.room_lru.specs.Members as rooms
use Rattle.room_lru.specs.Members.{Used}
use Rattle.ban_list.specs.declared.list.Stand.{Stand}
use Rattle.ban_list.specs.Bans.{Bans}
use Rattle.ban_list.specs.Stands.{AreAt}
use Rattle.lazy_law.specs.Placed.{Placed, is_unswept}
use Rattle.lazy_law.specs.Scan.{touched_late}
use Rattle.lazy_law.specs.Sweeping.{count_unswept}
use Rattle.lazy_law.proofs.Filters.{any_none, sum_of_map}
use Rattle.lazy_store.specs.declared.placement.Placement.{Placement}
use Rattle.lazy_store.specs.declared.finding.Found.{Found}
use Rattle.lazy_store.specs.Found.{found_in}
use Rattle.lazy_store.specs.Members.{Member, at_number, handle_of, lazy_of, number_of, placed_of, stand_of, tagged_of, use_of, used_of}
use Rattle.lazy_store.specs.Tied.{AreAlike, AreApart, AreTied, IsAhead, IsWithin}
use Rattle.lazy_store.specs.Uses.{AreUsedBefore, hitting, used_at, with_hit}
use Rattle.lazy_store.proofs.Changes.{IsOf, at_changed, none_numbered, one_of, others_numbered, unchanged}
use Rattle.lazy_store.proofs.Found.{own_eq}
use Rattle.lazy_store.proofs.Splits.{IsFound, all_fail, all_here, all_less, all_more, all_weaken, any_alike, apart_less, apart_more, apart_others, found, map_one, one_if, sum_among}
use Rattle.lazy_store.proofs.Ties.{re_payed, room_less, waiting_among}

-- ---- a member changes

within_again : (issued : ℕ) (m new : Member) → stand_of new ≡ stand_of m → IsWithin issued m → IsWithin issued new
within_again issued m new same within =
    let place : (stand_of new).place ≡ (stand_of m).place = ap (λ (s : Stand). s.place) same in
    let mark : (stand_of new).mark ≡ (stand_of m).mark = ap (λ (s : Stand). s.mark) same in
    record { place = omega (arith, place, within.place); mark = omega (arith, mark, within.mark) }

record IsAgain (m new : Member) : Type 0 where
  handle : handle_of new ≡ handle_of m
  number : number_of new ≡ number_of m
  tagged : tagged_of new ≡ tagged_of m
  stand : stand_of new ≡ stand_of m
  ahead : IsAhead m → IsAhead new

by_own : {X : Type 0} (own : X → ℕ) (n k : ℕ) (xs : List X) → n ≡ k → AllByRecursion (λ (x : X). nat_eq n (own x) ≡ false) xs → AllByRecursion (λ (x : X). nat_eq k (own x) ≡ false) xs
by_own {X = X} own n k xs same all = subst (λ (i : ℕ). AllByRecursion (λ (x : X). nat_eq i (own x) ≡ false) xs) same all

map_again : {Y : Type 0} (f : Member → Y) (before : List Member) (m new : Member) (behind : List Member) → f new ≡ f m → map f (before ++ new ∷ behind) ≡ map f (before ++ m ∷ behind)
map_again f before m new behind same =
    map-append f before (new ∷ behind) ∙ ap (λ y. map f before ++ y ∷ map f behind) same ∙ sym (map-append f before (m ∷ behind))

tied_again : (before : List Member) (m new : Member) (behind : List Member) (tagged : List (ℕ × List (List ℕ))) (room later : List Used) (bans : Bans) (newest unswept : ℕ)
    → AreTied (before ++ m ∷ behind) tagged room bans newest unswept → IsAgain m new → AllByRecursion (λ (y : Member). nat_eq (use_of new) (use_of y) ≡ false) (before ++ behind)
    → AreAlike later (map used_of (before ++ new ∷ behind)) → AreTied (before ++ new ∷ behind) tagged later bans newest unswept
tied_again before m new behind tagged room later bans newest unswept tied again others alike =
    let kept : List Issued = those_open bans.lines in
    let waits : is_unswept kept (placed_of m) ≡ is_unswept kept (placed_of new) = ap (λ (s : Stand). list_any (is_above s.mark) kept) (sym again.stand) in
    record {
      handles =
          apart_more handle_of before new behind (by_own handle_of (handle_of m) (handle_of new) (before ++ behind) (sym again.handle) (apart_others handle_of before m behind tied.handles))
          (apart_less handle_of before m behind tied.handles);
      numbers =
          apart_more number_of before new behind (by_own number_of (number_of m) (number_of new) (before ++ behind) (sym again.number) (apart_others number_of before m behind tied.numbers))
          (apart_less number_of before m behind tied.numbers);
      uses = apart_more use_of before new behind others (apart_less use_of before m behind tied.uses);
      ahead = all_more IsAhead before new behind (again.ahead (all_here IsAhead before m behind tied.ahead)) (all_less IsAhead before m behind tied.ahead);
      within =
          all_more (IsWithin bans.issued) before new behind (within_again bans.issued m new again.stand (all_here (IsWithin bans.issued) before m behind tied.within))
          (all_less (IsWithin bans.issued) before m behind tied.within);
      tagged_ = tied.tagged_ ∙ sym (map_again tagged_of before m new behind again.tagged);
      room_ = alike;
      stands = subst (AreAt bans) (sym (map_again stand_of before m new behind again.stand)) tied.stands;
      waiting =
          tied.waiting ∙ waiting_among before m behind bans ∙ ap (λ (b : Bool). one_if b + count_unswept (lazy_of (before ++ behind) bans)) waits
          ∙ sym (waiting_among before new behind bans);
      alone = tied.alone;
    }

-- ---- among those by use

abbrev at_only : ℕ → (Used → ℕ) → Used → ℕ
at_only at weight x = if nat_eq at x.0 then weight x else 0

sum_zero : {X : Type 0} (weight : X → ℕ) (xs : List X) → AllByRecursion (λ (x : X). weight x ≡ 0) xs → sum_by weight xs ≡ 0
sum_zero weight [] all = refl
sum_zero weight (x ∷ xs) all =
    let here = sum_by-cons weight x xs in
    let rest = sum_zero weight xs all.1 in
    let none = all.0 in
    omega (arith, here, rest, none)

-- what has the use weighs as the one of it does
one_weight : (weight : Used → ℕ) (before : List Member) (m : Member) (behind : List Member) → AllByRecursion (λ (y : Member). nat_eq (use_of m) (use_of y) ≡ false) (before ++ behind)
    → sum_by (at_only (use_of m) weight) (map used_of (before ++ m ∷ behind)) ≡ weight (used_of m)
one_weight weight before m behind others =
    let own : Member → ℕ = λ (y : Member). at_only (use_of m) weight (used_of y) in
    let all = sum_of_map (at_only (use_of m) weight) used_of (before ++ m ∷ behind) in
    let among = sum_among own before m behind in
    let here : own m ≡ weight (used_of m) = rw (own_eq (use_of m)) refl in
    let rest : sum_by own (before ++ behind) ≡ 0 =
    sum_zero own (before ++ behind) (all_weaken (λ (y : Member). nat_eq (use_of m) (use_of y) ≡ false) (λ (y : Member). own y ≡ 0) (λ y e. rw e refl) (before ++ behind) others) in
    omega (arith, all, among, here, rest)

none_case : (at : ℕ) (weight : Used → ℕ) (x : Used) (xs : List Used) (b : Bool) → nat_eq at x.0 ≡ b → cond b 1 0 + sum_by (at_only at (λ y. 1)) xs ≡ 0
    → (sum_by (at_only at (λ y. 1)) xs ≡ 0 → sum_by (at_only at weight) xs ≡ 0) → sum_by (at_only at weight) (x ∷ xs) ≡ 0
none_case at weight x xs true e count rest = absurd (omega (arith, count))
none_case at weight x xs false e count rest =
    let here = sum_by-cons (at_only at weight) x xs in
    let zero_ : at_only at weight x ≡ 0 = rw e refl in
    let none = rest (omega (arith, count)) in
    omega (arith, here, zero_, none)

-- where none has the use, nothing weighs
none_weight : (at : ℕ) (weight : Used → ℕ) (xs : List Used) → sum_by (at_only at (λ y. 1)) xs ≡ 0 → sum_by (at_only at weight) xs ≡ 0
none_weight at weight [] count = refl
none_weight at weight (x ∷ xs) count = none_case at weight x xs (nat_eq at x.0) refl (sym (sum_by-cons (at_only at (λ y. 1)) x xs) ∙ count) (none_weight at weight xs)

looked_case : (at later : ℕ) (weight : Used → ℕ) (x : Used) (xs : List Used) (b : Bool) → nat_eq at x.0 ≡ b → cond b 1 0 + sum_by (at_only at (λ y. 1)) xs ≤ 1
    → (sum_by (at_only at (λ y. 1)) xs ≤ 1 → sum_by weight (rooms.at_use later (lookup (nat_eq at) xs)) ≡ sum_by (at_only at (λ y. weight (later, y.1))) xs)
    → sum_by weight (rooms.at_use later (cond b (Some x.1) (lookup (nat_eq at) xs))) ≡ sum_by (at_only at (λ y. weight (later, y.1))) (x ∷ xs)
looked_case at later weight x xs true e few rest =
    let single = sum_by-cons weight (later, x.1) [] in
    let here = sum_by-cons (at_only at (λ y. weight (later, y.1))) x xs in
    let one : at_only at (λ y. weight (later, y.1)) x ≡ weight (later, x.1) = rw e refl in
    let none = none_weight at (λ y. weight (later, y.1)) xs (omega (arith, few)) in
    omega (arith, single, here, one, none)
looked_case at later weight x xs false e few rest =
    let here = sum_by-cons (at_only at (λ y. weight (later, y.1))) x xs in
    let zero_ : at_only at (λ y. weight (later, y.1)) x ≡ 0 = rw e refl in
    let same = rest (omega (arith, few)) in
    omega (arith, here, zero_, same)

-- the one that is looked up weighs as what has the use
looked_weight : (at later : ℕ) (weight : Used → ℕ) (room : List Used) → sum_by (at_only at (λ y. 1)) room ≤ 1
    → sum_by weight (rooms.at_use later (lookup (nat_eq at) room)) ≡ sum_by (at_only at (λ y. weight (later, y.1))) room
looked_weight at later weight [] few = refl
looked_weight at later weight (x ∷ xs) few =
    looked_case at later weight x xs (nat_eq at x.0) refl (subst (λ (n : ℕ). n ≤ 1) (sum_by-cons (at_only at (λ y. 1)) x xs) few) (looked_weight at later weight xs)

room_again : (before : List Member) (m new : Member) (behind : List Member) (later : ℕ) (room : List Used) → AreApart use_of (before ++ m ∷ behind)
    → AreAlike room (map used_of (before ++ m ∷ behind)) → used_of new ≡ (later, (used_of m).1) → AreAlike (rooms.used_again (use_of m) later room) (map used_of (before ++ new ∷ behind))
room_again before m new behind later room apart alike same =
    λ weight.
    let at : ℕ = use_of m in
    let others = apart_others use_of before m behind apart in
    let few : sum_by (at_only at (λ y. 1)) room ≡ 1 = alike (at_only at (λ y. 1)) ∙ one_weight (λ y. 1) before m behind others in
    let looked = looked_weight at later weight room (omega (arith, few)) in
    let one : sum_by (at_only at (λ y. weight (later, y.1))) room ≡ weight (later, (used_of m).1) =
    alike (at_only at (λ y. weight (later, y.1))) ∙ one_weight (λ y. weight (later, y.1)) before m behind others in
    let less = room_less before m behind room apart alike weight in
    let long = sum_by-append weight (rooms.without at room) (rooms.at_use later (lookup (nat_eq at) room)) in
    let all = sum_of_map weight used_of (before ++ new ∷ behind) in
    let among = sum_among (λ (y : Member). weight (used_of y)) before new behind in
    let rest = sum_of_map weight used_of (before ++ behind) in
    let is : weight (used_of new) ≡ weight (later, (used_of m).1) = ap weight same in
    omega (arith, looked, one, less, long, all, among, rest, is)

-- ---- a later use than all others

not_later : (own used : ℕ) → own < used → nat_le used own ≡ false
not_later own used less = grind (arith, nat_tests)

none_later : (used : ℕ) (members : List Member) → AreUsedBefore used (map placed_of members) → list_any (λ (x : Used). nat_le used x.0) (map used_of members) ≡ false
none_later used [] before = refl
none_later used (m ∷ members) before = rw (not_later (use_of m) used before.0) (none_later used members before.1)

pub latest_there : (used : ℕ) (room : List Used) (members : List Member) → AreAlike room (map used_of members) → AreUsedBefore used (map placed_of members) → rooms.IsLatest used room
latest_there used room members alike before =
    all_weaken (λ (x : Used). nat_le used x.0 ≡ false) (λ (x : Used). x.0 < used) (λ x e. leb-false used x.0 e) room
    (all_fail (λ (x : Used). nat_le used x.0) room (any_alike (λ (x : Used). nat_le used x.0) room (map used_of members) alike ∙ none_later used members before))

before_all : (used : ℕ) (members : List Member) → AllByRecursion (λ (x : Used). nat_le used x.0 ≡ false) (map used_of members) → AreUsedBefore used (map placed_of members)
before_all used [] all = tt
before_all used (m ∷ members) all = (leb-false used (use_of m) all.0, before_all used members all.1)

pub latest_so : (used : ℕ) (room : List Used) (members : List Member) → AreAlike room (map used_of members) → rooms.IsLatest used room → AreUsedBefore used (map placed_of members)
latest_so used room members alike latest =
    before_all used members
    (all_fail (λ (x : Used). nat_le used x.0) (map used_of members)
    (sym (any_alike (λ (x : Used). nat_le used x.0) room (map used_of members) alike)
    ∙ any_none (λ (x : Used). nat_le used x.0) room (all_weaken (λ (x : Used). x.0 < used) (λ (x : Used). nat_le used x.0 ≡ false) (λ x less. not_later x.0 used less) room latest)))

-- ---- the one of a number

-- an item is changed
one_changed : (change : Item Placement → Item Placement) (before : List Member) (m : Member) (behind : List Member) → AreApart handle_of (before ++ m ∷ behind)
    → heads.changed (handle_of m) change (before ++ m ∷ behind) ≡ before ++ (m.0, change m.1) ∷ behind
one_changed change before m behind apart =
    let put : Member → Member = λ (x : Member). cond (nat_eq (handle_of m) x.0) (x.0, change x.1) x in
    let stays : AllByRecursion (λ (y : Member). put y ≡ y) (before ++ behind) =
    all_weaken (λ (y : Member). nat_eq (handle_of m) (handle_of y) ≡ false) (λ (y : Member). put y ≡ y) (λ y e. rw e refl) (before ++ behind) (apart_others handle_of before m behind apart) in
    let here : put m ≡ (m.0, change m.1) = rw (own_eq (handle_of m)) refl in
    map_one put before m behind stays ∙ ap (λ (x : Member). before ++ x ∷ behind) here

other_use : (own later : ℕ) → own < later → nat_eq later own ≡ false
other_use own later less = grind (arith, nat_tests)

uses_below : (later : ℕ) (members : List Member) → AreUsedBefore later (map placed_of members) → AllByRecursion (λ (y : Member). use_of y < later) members
uses_below later [] before = tt
uses_below later (m ∷ members) before = (before.0, uses_below later members before.1)

module _ (number : ℕ) (members : List Member) (tagged : List (ℕ × List (List ℕ))) (room : List Used) (bans : Bans) (newest unswept : ℕ) where
  -- the one that is found by the number, among the others
  record IsOne (it : Found) : Type 0 where
    m : Member
    split : IsFound (λ (x : Member). heads.has_number number x.1) members m
    gives : found_in m ≡ it
    tied : AreTied (split.split.before ++ m ∷ split.split.behind) tagged room bans newest unswept
    others : AllByRecursion (λ (y : Member). nat_eq (number_of y) number ≡ false) (split.split.before ++ split.split.behind)

  one_at : (it : Found) → AreTied members tagged room bans newest unswept → Some it ≡ option_map found_in (at_number number members) → IsOne it
  one_at it tied is =
      let one : IsOf found_in (at_number number members) it = one_of found_in (at_number number members) it is in
      let f : IsFound (λ (x : Member). heads.has_number number x.1) members one.one = found (λ (x : Member). heads.has_number number x.1) members one.one one.is in
      let split : AreTied (f.split.before ++ one.one ∷ f.split.behind) tagged room bans newest unswept = subst (λ (xs : List Member). AreTied xs tagged room bans newest unswept) f.split.is tied in
      record {
        m = one.one;
        split = f;
        gives = one.gives;
        tied = split;
        others = others_numbered number one.one (f.split.before ++ f.split.behind) f.passes (apart_others number_of f.split.before one.one f.split.behind split.numbers);
      }

  -- ---- it is used at a later place

  pub tied_used : (it : Found) (later : ℕ) → AreTied members tagged room bans newest unswept → Some it ≡ option_map found_in (at_number number members)
      → AreUsedBefore later (map placed_of members)
      → AreTied (heads.changed it.handle (heads.with_payload (record { used = later; stand = it.placement.stand })) members) tagged (rooms.used_again it.placement.used later room) bans newest unswept
  tied_used it later tied is before =
      let o : IsOne it = one_at it tied is in
      let left : List Member = o.split.split.before in
      let right : List Member = o.split.split.behind in
      let new : Member = re_payed (record { used = later; stand = stand_of o.m }) o.m in
      let below = subst (AllByRecursion (λ (y : Member). use_of y < later)) o.split.split.is (uses_below later members before) in
      let others : AllByRecursion (λ (y : Member). nat_eq later (use_of y) ≡ false) (left ++ right) =
      all_weaken (λ (y : Member). use_of y < later) (λ (y : Member). nat_eq later (use_of y) ≡ false) (λ y less. other_use (use_of y) later less) (left ++ right)
      (all_less (λ (y : Member). use_of y < later) left o.m right below) in
      let own : use_of o.m < later = all_here (λ (y : Member). use_of y < later) left o.m right below in
      let again : IsAgain o.m new =
      record { handle = refl; number = refl; tagged = refl; stand = refl; ahead = λ ahead. record { fits = ahead.fits; low = omega (arith, ahead.low, own) } } in
      let whole : AreTied (left ++ new ∷ right) tagged (rooms.used_again (use_of o.m) later room) bans newest unswept =
      tied_again left o.m new right tagged room (rooms.used_again (use_of o.m) later room) bans newest unswept o.tied again others
      (room_again left o.m new right later room o.tied.uses o.tied.room_ refl) in
      let is_ : heads.changed (handle_of o.m) (heads.with_payload (record { used = later; stand = stand_of o.m })) members ≡ left ++ new ∷ right =
      ap (heads.changed (handle_of o.m) (heads.with_payload (record { used = later; stand = stand_of o.m }))) o.split.split.is
      ∙ one_changed (heads.with_payload (record { used = later; stand = stand_of o.m })) left o.m right o.tied.handles in
      subst (λ (f : Found). AreTied (heads.changed f.handle (heads.with_payload (record { used = later; stand = f.placement.stand })) members) tagged (rooms.used_again f.placement.used later room) bans newest unswept)
      o.gives (subst (λ (xs : List Member). AreTied xs tagged (rooms.used_again (use_of o.m) later room) bans newest unswept) (sym is_) whole)

  pub lazy_used : (it : Found) (later : ℕ) → AreTied members tagged room bans newest unswept → Some it ≡ option_map found_in (at_number number members)
      → lazy_of (heads.changed it.handle (heads.with_payload (record { used = later; stand = it.placement.stand })) members) bans ≡ used_at later number (lazy_of members bans)
  lazy_used it later tied is =
      let o : IsOne it = one_at it tied is in
      let left : List Member = o.split.split.before in
      let right : List Member = o.split.split.behind in
      let payload : Placement = record { used = later; stand = stand_of o.m } in
      subst (λ (f : Found). lazy_of (heads.changed f.handle (heads.with_payload (record { used = later; stand = f.placement.stand })) members) bans ≡ used_at later number (lazy_of members bans)) o.gives
      (ap (λ (objects : List Placed). record (lazy_of members bans) { objects = objects })
      (ap (map placed_of) (ap (heads.changed (handle_of o.m) (heads.with_payload payload)) o.split.split.is ∙ one_changed (heads.with_payload payload) left o.m right o.tied.handles)
      ∙ at_changed number (λ p. record p { used = later }) left o.m (re_payed payload o.m) right o.split.passes o.others refl
      ∙ ap (λ (xs : List Member). touched_late later number (map placed_of xs)) (sym o.split.split.is)))

  -- ---- it has one more hit

  pub tied_hit : (it : Found) → AreTied members tagged room bans newest unswept → Some it ≡ option_map found_in (at_number number members)
      → AreTied (heads.changed it.handle heads.with_hit members) tagged room bans newest unswept
  tied_hit it tied is =
      let o : IsOne it = one_at it tied is in
      let left : List Member = o.split.split.before in
      let right : List Member = o.split.split.behind in
      let new : Member = (o.m.0, heads.with_hit o.m.1) in
      let again : IsAgain o.m new = record { handle = refl; number = refl; tagged = refl; stand = refl; ahead = λ ahead. record { fits = ahead.fits; low = ahead.low } } in
      let whole : AreTied (left ++ new ∷ right) tagged room bans newest unswept =
      tied_again left o.m new right tagged room room bans newest unswept o.tied again (apart_others use_of left o.m right o.tied.uses)
      (subst (AreAlike room) (sym (map_again used_of left o.m new right refl)) o.tied.room_) in
      let is_ : heads.changed (handle_of o.m) heads.with_hit members ≡ left ++ new ∷ right =
      ap (heads.changed (handle_of o.m) heads.with_hit) o.split.split.is ∙ one_changed heads.with_hit left o.m right o.tied.handles in
      subst (λ (f : Found). AreTied (heads.changed f.handle heads.with_hit members) tagged room bans newest unswept)
      o.gives (subst (λ (xs : List Member). AreTied xs tagged room bans newest unswept) (sym is_) whole)

  pub lazy_hit : (it : Found) → AreTied members tagged room bans newest unswept → Some it ≡ option_map found_in (at_number number members)
      → lazy_of (heads.changed it.handle heads.with_hit members) bans ≡ with_hit number (lazy_of members bans)
  lazy_hit it tied is =
      let o : IsOne it = one_at it tied is in
      let left : List Member = o.split.split.before in
      let right : List Member = o.split.split.behind in
      subst (λ (f : Found). lazy_of (heads.changed f.handle heads.with_hit members) bans ≡ with_hit number (lazy_of members bans)) o.gives
      (ap (λ (objects : List Placed). record (lazy_of members bans) { objects = objects })
      (ap (map placed_of) (ap (heads.changed (handle_of o.m) heads.with_hit) o.split.split.is ∙ one_changed heads.with_hit left o.m right o.tied.handles)
      ∙ at_changed number (λ p. record p { view = raised p.view }) left o.m (o.m.0, heads.with_hit o.m.1) right o.split.passes o.others refl
      ∙ ap (λ (xs : List Member). map (hitting number) (map placed_of xs)) (sym o.split.split.is)))

-- ---- none has the number

pub none_used : (number later : ℕ) (members : List Member) (bans : Bans) → at_number number members ≡ None → lazy_of members bans ≡ used_at later number (lazy_of members bans)
none_used number later members bans is =
    ap (λ (objects : List Placed). record (lazy_of members bans) { objects = objects }) (unchanged number (λ p. record p { used = later }) members (none_numbered number members is))

pub none_hit : (number : ℕ) (members : List Member) (bans : Bans) → at_number number members ≡ None → lazy_of members bans ≡ with_hit number (lazy_of members bans)
none_hit number members bans is =
    ap (λ (objects : List Placed). record (lazy_of members bans) { objects = objects }) (unchanged number (λ p. record p { view = raised p.view }) members (none_numbered number members is))
