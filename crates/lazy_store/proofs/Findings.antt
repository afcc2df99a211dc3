-- What is found by a number, and what becomes of it.
use Rattle.std.proofs.Common.{◌≡◌, ◌≤◌, ◌<◌, ℕ, true, false, List, [], ◌∷◌, ◌++◌, Option, Some, None, find, map, refl, sym, ap, ◌∙◌, subst}
use Rattle.std.specs.Prelude.{nat_eq, option_map, option_and_then}
use Rattle.std.specs.List.{AllByRecursion}
use Rattle.std.specs.Map.{lookup}
use Rattle.object_heads.specs.declared.item.Item.{Item}
use Rattle.object_heads.specs.Members as heads
use Rattle.xkey_index.specs.Members as xkeys
use Rattle.room_lru.specs.Members as rooms
use Rattle.room_lru.specs.Members.{Used}
use Rattle.ban_list.specs.declared.list.Stand.{Stand}
use Rattle.ban_list.specs.Bans.{Bans, departed, entered, standing}
use Rattle.lazy_law.specs.Placed.{Placed}
use Rattle.lazy_law.specs.Insertion.{has_number}
use Rattle.lazy_law.specs.Stands.{IsWithin as TestedUpTo}
use Rattle.lazy_law.proofs.Filters.{find_of_map}
use Rattle.lazy_store.specs.declared.placement.Placement.{Placement}
use Rattle.lazy_store.specs.declared.finding.Found.{Found}
use Rattle.lazy_store.specs.Found.{found_in}
use Rattle.lazy_store.specs.Members.{Member, at_number, handle_of, lazy_of, number_in, number_of, placed_in, placed_of, stand_of}
use Rattle.lazy_store.specs.Tied.{AreApart, AreTied, IsWithin}
use Rattle.lazy_store.specs.Changes.{fewer, moved, with_mark, without}
use Rattle.lazy_store.proofs.Found.{by_handle, looked_up}
use Rattle.lazy_store.proofs.Splits.{IsFound, found}
use Rattle.lazy_store.proofs.Changes.{IsOf, goes_well, lazy_restood, lazy_without, one_of, tied_restood, tied_without}

-- ---- by the number

pub find_some : (number handle : ℕ) (item : Item Placement) (members : List Member) → AreApart handle_of members → Some handle ≡ heads.handle_at number members
    → Some item ≡ lookup (nat_eq handle) members → at_number number members ≡ Some (handle, item)
find_some number handle item members apart at is =
    sym (by_handle (heads.has_number number) members apart) ∙ ap (option_and_then (looked_up members)) (sym at)
    ∙ ap (option_map (λ (it : Item Placement). (handle, it))) (sym is)

pub find_lost : (number handle : ℕ) (members : List Member) → AreApart handle_of members → Some handle ≡ heads.handle_at number members
    → None ≡ lookup (nat_eq handle) members → at_number number members ≡ None
find_lost number handle members apart at is =
    sym (by_handle (heads.has_number number) members apart) ∙ ap (option_and_then (looked_up members)) (sym at)
    ∙ ap (option_map (λ (it : Item Placement). (handle, it))) (sym is)

pub find_none : (number : ℕ) (members : List Member) → AreApart handle_of members → None ≡ heads.handle_at number members → at_number number members ≡ None
find_none number members apart at =
    sym (by_handle (heads.has_number number) members apart) ∙ ap (option_and_then (looked_up members)) (sym at)

placed_case : (handle : ℕ) (o : Option (Item Placement)) → option_map placed_of (option_map (λ (it : Item Placement). (handle, it)) o) ≡ option_map placed_in o
placed_case handle None = refl
placed_case handle (Some item) = refl

by_number : (number : ℕ) (members : List Member) → find (has_number number) (map placed_of members) ≡ option_map placed_of (at_number number members)
by_number number members = find_of_map (has_number number) placed_of members

pub item_there : (number handle : ℕ) (members : List Member) → AreApart handle_of members → Some handle ≡ heads.handle_at number members
    → option_map placed_in (lookup (nat_eq handle) members) ≡ find (has_number number) (map placed_of members)
item_there number handle members apart at =
    sym (by_number number members
    ∙ ap (option_map placed_of) (sym (by_handle (heads.has_number number) members apart) ∙ ap (option_and_then (looked_up members)) (sym at))
    ∙ placed_case handle (lookup (nat_eq handle) members))

pub item_none : (number : ℕ) (members : List Member) → AreApart handle_of members → None ≡ heads.handle_at number members
    → None ≡ find (has_number number) (map placed_of members)
item_none number members apart at = sym (by_number number members ∙ ap (option_map placed_of) (find_none number members apart at))

apart_from : (n : ℕ) (members : List Member) → AllByRecursion (λ (m : Member). nat_eq n (number_of m) ≡ false) members → AllByRecursion (λ (p : Placed). nat_eq n (number_in p) ≡ false) (map placed_of members)
apart_from n [] all = tt
apart_from n (m ∷ members) all = (all.0, apart_from n members all.1)

pub apart_placed : (members : List Member) → AreApart number_of members → AreApart number_in (map placed_of members)
apart_placed [] apart = tt
apart_placed (m ∷ members) apart = (apart_from (number_of m) members apart.0, apart_placed members apart.1)

pub within_placed : (issued : ℕ) (members : List Member) → AllByRecursion (IsWithin issued) members → AllByRecursion (TestedUpTo issued) (map placed_of members)
within_placed issued [] within = tt
within_placed issued (m ∷ members) within = (record { place = within.0.place; mark = within.0.mark }, within_placed issued members within.1)

-- ---- what becomes of it

past_here : (number : ℕ) (stand : Stand) (before : List Member) (x : Member) (behind : List Member) → AllByRecursion (λ (p : Placed). has_number number p ≡ true → p.mark ≤ stand.mark) (map placed_of (before ++ x ∷ behind))
    → has_number number (placed_of x) ≡ true → (stand_of x).mark ≤ stand.mark
past_here number stand [] x behind all e = all.0 e
past_here number stand (y ∷ before) x behind all e = past_here number stand before x behind all.1 e

module _ (number : ℕ) (it : Found) (members : List Member) (tagged : List (ℕ × List (List ℕ))) (room : List Used) (bans : Bans) (newest unswept : ℕ) where
  pub may_go : AreTied members tagged room bans newest unswept → Some it ≡ option_map found_in (at_number number members)
      → (0 < standing it.placement.stand.place bans.lines bans.placed) × (0 < standing it.placement.stand.mark bans.lines bans.marked)
  may_go tied is =
      let one : IsOf found_in (at_number number members) it = one_of found_in (at_number number members) it is in
      subst (λ (f : Found). (0 < standing f.placement.stand.place bans.lines bans.placed) × (0 < standing f.placement.stand.mark bans.lines bans.marked)) one.gives
      (goes_well number one.one members tagged room bans newest unswept tied one.is)

  pub tied_gone : AreTied members tagged room bans newest unswept → Some it ≡ option_map found_in (at_number number members)
      → AreTied (heads.without it.handle members) (xkeys.without it.handle tagged) (rooms.without it.placement.used room)
      (departed it.placement.stand.place it.placement.stand.mark bans) newest (fewer unswept newest it.placement.stand.mark)
  tied_gone tied is =
      let one : IsOf found_in (at_number number members) it = one_of found_in (at_number number members) it is in
      subst (λ (f : Found). AreTied (heads.without f.handle members) (xkeys.without f.handle tagged) (rooms.without f.placement.used room)
      (departed f.placement.stand.place f.placement.stand.mark bans) newest (fewer unswept newest f.placement.stand.mark)) one.gives
      (tied_without number one.one members tagged room bans newest unswept tied one.is)

  pub lazy_gone : AreTied members tagged room bans newest unswept → Some it ≡ option_map found_in (at_number number members)
      → lazy_of (heads.without it.handle members) (departed it.placement.stand.place it.placement.stand.mark bans) ≡ without number (lazy_of members bans)
  lazy_gone tied is =
      let one : IsOf found_in (at_number number members) it = one_of found_in (at_number number members) it is in
      subst (λ (f : Found). lazy_of (heads.without f.handle members) (departed f.placement.stand.place f.placement.stand.mark bans) ≡ without number (lazy_of members bans)) one.gives
      (lazy_without number one.one members tagged room bans newest unswept tied one.is)

  -- the mark of the one that is found
  not_past : (stand : Stand) → AllByRecursion (λ (p : Placed). has_number number p ≡ true → p.mark ≤ stand.mark) (map placed_of members) → (m : Member) → at_number number members ≡ Some m
      → (stand_of m).mark ≤ stand.mark
  not_past stand later m is =
      let f : IsFound (λ (x : Member). heads.has_number number x.1) members m = found (λ (x : Member). heads.has_number number x.1) members m is in
      past_here number stand f.split.before m f.split.behind (subst (λ (xs : List Member). AllByRecursion (λ (p : Placed). has_number number p ≡ true → p.mark ≤ stand.mark) (map placed_of xs)) f.split.is later) f.passes

  pub tied_tested : (stand : Stand) → AreTied members tagged room bans newest unswept → Some it ≡ option_map found_in (at_number number members)
      → stand.place ≤ bans.issued → stand.mark ≤ bans.issued → AllByRecursion (λ (p : Placed). has_number number p ≡ true → p.mark ≤ stand.mark) (map placed_of members)
      → AreTied (heads.changed it.handle (heads.with_payload (record { used = it.placement.used; stand = stand })) members) tagged room
      (entered stand.place stand.mark (departed it.placement.stand.place it.placement.stand.mark bans)) newest (with_mark unswept newest it.placement.stand.mark stand.mark)
  tied_tested stand tied is place mark later =
      let one : IsOf found_in (at_number number members) it = one_of found_in (at_number number members) it is in
      subst (λ (f : Found). AreTied (heads.changed f.handle (heads.with_payload (record { used = f.placement.used; stand = stand })) members) tagged room
      (entered stand.place stand.mark (departed f.placement.stand.place f.placement.stand.mark bans)) newest (with_mark unswept newest f.placement.stand.mark stand.mark)) one.gives
      (tied_restood number one.one members tagged room bans newest unswept stand tied one.is place mark (not_past stand later one.one one.is))

  pub lazy_tested : (stand : Stand) → AreTied members tagged room bans newest unswept → Some it ≡ option_map found_in (at_number number members)
      → lazy_of (heads.changed it.handle (heads.with_payload (record { used = it.placement.used; stand = stand })) members)
      (entered stand.place stand.mark (departed it.placement.stand.place it.placement.stand.mark bans)) ≡ moved number stand (lazy_of members bans)
  lazy_tested stand tied is =
      let one : IsOf found_in (at_number number members) it = one_of found_in (at_number number members) it is in
      subst (λ (f : Found). lazy_of (heads.changed f.handle (heads.with_payload (record { used = f.placement.used; stand = stand })) members)
      (entered stand.place stand.mark (departed f.placement.stand.place f.placement.stand.mark bans)) ≡ moved number stand (lazy_of members bans)) one.gives
      (lazy_restood number one.one members tagged room bans newest unswept stand tied one.is)
