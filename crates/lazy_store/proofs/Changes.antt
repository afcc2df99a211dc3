-- What is kept, where one of the members goes, or is tested.
use Rattle.std.proofs.Common.{◌≡◌, ◌≤◌, ◌<◌, ℕ, true, false, not, cond, List, [], ◌∷◌, ◌++◌, Option, Some, None, filter, map, nat_eq, refl, arith, sym, ap, ◌∙◌, subst}
use Rattle.std.specs.Prelude.{option_map}
use Rattle.std.specs.List.{AllByRecursion}
use Rattle.std.proofs.lemmas.Bool.Decides.{nat_tests}
use Rattle.object_heads.specs.Members as heads
use Rattle.xkey_index.specs.Members as xkeys
use Rattle.room_lru.specs.Members as rooms
use Rattle.room_lru.specs.Members.{Used}
use Rattle.ban_list.specs.declared.list.Stand.{Stand}
use Rattle.ban_list.specs.Bans.{Bans, departed, entered, standing}
use Rattle.lazy_law.specs.Placed.{Placed}
use Rattle.lazy_law.specs.Insertion.{has_number}
use Rattle.lazy_law.proofs.Filters.{filter_of_map}
use Rattle.lazy_store.specs.declared.placement.Placement.{Placement}
use Rattle.lazy_store.specs.Members.{Member, at_number, handle_of, lazy_of, number_of, placed_of, stand_of, use_of}
use Rattle.lazy_store.specs.Tied.{AreTied}
use Rattle.lazy_store.specs.Changes.{fewer, moved, moving, with_mark, without}
use Rattle.lazy_store.proofs.Found.{own_eq}
use Rattle.lazy_store.proofs.Splits.{IsFound, all_weaken, apart_others, filter_all, filter_less, found, map_one, none_found}
use Rattle.lazy_store.proofs.Ties.{may_go, others_left, re_payed, tied_less, tied_moved}

-- ---- what a map of an option found

pub record IsOf {A B : Type 0} (f : A → B) (found_ : Option A) (given : B) : Type 0 where
  pub one : A
  pub is : found_ ≡ Some one
  pub gives : f one ≡ given

pub one_of : {A B : Type 0} (f : A → B) (found_ : Option A) (given : B) → Some given ≡ option_map f found_ → IsOf f found_ given
one_of f None given e = absurd cc
one_of f (Some one) given e = record { one = one; is = refl; gives = cc }

pub none_of : {A B : Type 0} (f : A → B) (found_ : Option A) → None ≡ option_map f found_ → found_ ≡ None
none_of f None e = refl
none_of f (Some one) e = absurd cc

-- ---- by number

other_number : (own number other : ℕ) → nat_eq own number ≡ true → nat_eq own other ≡ false → nat_eq other number ≡ false
other_number own number other same apart = grind (arith, nat_tests)

pub others_numbered : (number : ℕ) (m : Member) (xs : List Member) → nat_eq (number_of m) number ≡ true → AllByRecursion (λ y. nat_eq (number_of m) (number_of y) ≡ false) xs
    → AllByRecursion (λ y. nat_eq (number_of y) number ≡ false) xs
others_numbered number m xs same others =
    all_weaken (λ (y : Member). nat_eq (number_of m) (number_of y) ≡ false) (λ (y : Member). nat_eq (number_of y) number ≡ false)
    (λ y apart. other_number (number_of m) number (number_of y) same apart) xs others

pub unchanged : (number : ℕ) (f : Placed → Placed) (xs : List Member) → AllByRecursion (λ y. nat_eq (number_of y) number ≡ false) xs
    → map placed_of xs ≡ map (λ p. cond (has_number number p) (f p) p) (map placed_of xs)
unchanged number f [] others = refl
unchanged number f (y ∷ xs) others = rw (others.0, ← unchanged number f xs others.1) refl

-- the one of the number changes
pub at_changed : (number : ℕ) (f : Placed → Placed) (before : List Member) (m new : Member) (behind : List Member) → nat_eq (number_of m) number ≡ true
    → AllByRecursion (λ y. nat_eq (number_of y) number ≡ false) (before ++ behind) → placed_of new ≡ f (placed_of m)
    → map placed_of (before ++ new ∷ behind) ≡ map (λ p. cond (has_number number p) (f p) p) (map placed_of (before ++ m ∷ behind))
at_changed number f [] m new behind same others is = rw (same, is, ← unchanged number f behind others) refl
at_changed number f (y ∷ before) m new behind same others is = rw (others.0, ← at_changed number f before m new behind same others.1 is) refl

-- the one of the number goes
at_without : (number : ℕ) (before : List Member) (m : Member) (behind : List Member) → nat_eq (number_of m) number ≡ true
    → AllByRecursion (λ y. nat_eq (number_of y) number ≡ false) (before ++ behind)
    → map placed_of (before ++ behind) ≡ filter (λ p. not (has_number number p)) (map placed_of (before ++ m ∷ behind))
at_without number before m behind same others =
    sym (filter_of_map (λ p. not (has_number number p)) placed_of (before ++ m ∷ behind)
    ∙ ap (map placed_of) (filter_less (λ (x : Member). not (nat_eq (number_of x) number)) before m behind (ap not same)
    (all_weaken (λ (y : Member). nat_eq (number_of y) number ≡ false) (λ (y : Member). not (nat_eq (number_of y) number) ≡ true) (λ y e. ap not e) (before ++ behind) others)))

-- ---- a member goes

module _ (number : ℕ) (m : Member) (members : List Member) (tagged : List (ℕ × List (List ℕ))) (room : List Used) (bans : Bans) (newest unswept : ℕ) where
  pub tied_without : AreTied members tagged room bans newest unswept → at_number number members ≡ Some m
      → AreTied (heads.without (handle_of m) members) (xkeys.without (handle_of m) tagged) (rooms.without (use_of m) room)
      (departed (stand_of m).place (stand_of m).mark bans) newest (fewer unswept newest (stand_of m).mark)
  tied_without tied is =
      let f : IsFound (λ (x : Member). heads.has_number number x.1) members m = found (λ (x : Member). heads.has_number number x.1) members m is in
      let split : AreTied (f.split.before ++ m ∷ f.split.behind) tagged room bans newest unswept = subst (λ (xs : List Member). AreTied xs tagged room bans newest unswept) f.split.is tied in
      let rest : heads.without (handle_of m) members ≡ f.split.before ++ f.split.behind =
      ap (heads.without (handle_of m)) f.split.is ∙ others_left handle_of f.split.before m f.split.behind split.handles in
      subst (λ (xs : List Member). AreTied xs (xkeys.without (handle_of m) tagged) (rooms.without (use_of m) room) (departed (stand_of m).place (stand_of m).mark bans) newest (fewer unswept newest (stand_of m).mark))
      (sym rest) (tied_less f.split.before m f.split.behind tagged room bans newest unswept split)

  pub lazy_without : AreTied members tagged room bans newest unswept → at_number number members ≡ Some m
      → lazy_of (heads.without (handle_of m) members) (departed (stand_of m).place (stand_of m).mark bans) ≡ without number (lazy_of members bans)
  lazy_without tied is =
      let f : IsFound (λ (x : Member). heads.has_number number x.1) members m = found (λ (x : Member). heads.has_number number x.1) members m is in
      let split : AreTied (f.split.before ++ m ∷ f.split.behind) tagged room bans newest unswept = subst (λ (xs : List Member). AreTied xs tagged room bans newest unswept) f.split.is tied in
      let rest : heads.without (handle_of m) members ≡ f.split.before ++ f.split.behind =
      ap (heads.without (handle_of m)) f.split.is ∙ others_left handle_of f.split.before m f.split.behind split.handles in
      ap (λ (objects : List Placed). record (lazy_of members bans) { objects = objects })
      (ap (map placed_of) rest
      ∙ at_without number f.split.before m f.split.behind f.passes
      (others_numbered number m (f.split.before ++ f.split.behind) f.passes (apart_others number_of f.split.before m f.split.behind split.numbers))
      ∙ ap (λ (xs : List Member). filter (λ p. not (has_number number p)) (map placed_of xs)) (sym f.split.is))

  pub goes_well : AreTied members tagged room bans newest unswept → at_number number members ≡ Some m
      → (0 < standing (stand_of m).place bans.lines bans.placed) × (0 < standing (stand_of m).mark bans.lines bans.marked)
  goes_well tied is =
      let f : IsFound (λ (x : Member). heads.has_number number x.1) members m = found (λ (x : Member). heads.has_number number x.1) members m is in
      let split : AreTied (f.split.before ++ m ∷ f.split.behind) tagged room bans newest unswept = subst (λ (xs : List Member). AreTied xs tagged room bans newest unswept) f.split.is tied in
      may_go f.split.before m f.split.behind bans split.stands

  -- ---- a member is tested

  restood : (f : IsFound (λ (x : Member). heads.has_number number x.1) members m) (payload : Placement) → AreTied (f.split.before ++ m ∷ f.split.behind) tagged room bans newest unswept
      → heads.changed (handle_of m) (heads.with_payload payload) members ≡ f.split.before ++ re_payed payload m ∷ f.split.behind
  restood f payload split =
      let change : Member → Member = λ (x : Member). cond (nat_eq (handle_of m) x.0) (x.0, heads.with_payload payload x.1) x in
      let stays : AllByRecursion (λ (y : Member). change y ≡ y) (f.split.before ++ f.split.behind) =
      all_weaken (λ (y : Member). nat_eq (handle_of m) (handle_of y) ≡ false) (λ (y : Member). change y ≡ y) (λ y e. rw e refl)
      (f.split.before ++ f.split.behind) (apart_others handle_of f.split.before m f.split.behind split.handles) in
      let here : change m ≡ re_payed payload m = rw (own_eq (handle_of m)) refl in
      ap (map change) f.split.is ∙ map_one change f.split.before m f.split.behind stays ∙ ap (λ (x : Member). f.split.before ++ x ∷ f.split.behind) here

  pub tied_restood : (stand : Stand) → AreTied members tagged room bans newest unswept → at_number number members ≡ Some m
      → stand.place ≤ bans.issued → stand.mark ≤ bans.issued → (stand_of m).mark ≤ stand.mark
      → AreTied (heads.changed (handle_of m) (heads.with_payload (record { used = use_of m; stand = stand })) members) tagged room
      (entered stand.place stand.mark (departed (stand_of m).place (stand_of m).mark bans)) newest (with_mark unswept newest (stand_of m).mark stand.mark)
  tied_restood stand tied is place mark later =
      let payload : Placement = record { used = use_of m; stand = stand } in
      let f : IsFound (λ (x : Member). heads.has_number number x.1) members m = found (λ (x : Member). heads.has_number number x.1) members m is in
      let split : AreTied (f.split.before ++ m ∷ f.split.behind) tagged room bans newest unswept = subst (λ (xs : List Member). AreTied xs tagged room bans newest unswept) f.split.is tied in
      subst (λ (xs : List Member). AreTied xs tagged room (entered stand.place stand.mark (departed (stand_of m).place (stand_of m).mark bans)) newest (with_mark unswept newest (stand_of m).mark stand.mark))
      (sym (restood f payload split)) (tied_moved f.split.before m f.split.behind tagged room bans newest unswept stand split place mark later)

  pub lazy_restood : (stand : Stand) → AreTied members tagged room bans newest unswept → at_number number members ≡ Some m
      → lazy_of (heads.changed (handle_of m) (heads.with_payload (record { used = use_of m; stand = stand })) members) (entered stand.place stand.mark (departed (stand_of m).place (stand_of m).mark bans))
      ≡ moved number stand (lazy_of members bans)
  lazy_restood stand tied is =
      let payload : Placement = record { used = use_of m; stand = stand } in
      let f : IsFound (λ (x : Member). heads.has_number number x.1) members m = found (λ (x : Member). heads.has_number number x.1) members m is in
      let split : AreTied (f.split.before ++ m ∷ f.split.behind) tagged room bans newest unswept = subst (λ (xs : List Member). AreTied xs tagged room bans newest unswept) f.split.is tied in
      ap (λ (objects : List Placed). record (lazy_of members bans) { objects = objects })
      (ap (map placed_of) (restood f payload split)
      ∙ at_changed number (λ p. record p { place = stand.place; mark = stand.mark }) f.split.before m (re_payed payload m) f.split.behind f.passes
      (others_numbered number m (f.split.before ++ f.split.behind) f.passes (apart_others number_of f.split.before m f.split.behind split.numbers)) refl
      ∙ ap (λ (xs : List Member). map (moving number stand) (map placed_of xs)) (sym f.split.is))

-- ---- no member has the number

pub none_numbered : (number : ℕ) (members : List Member) → at_number number members ≡ None → AllByRecursion (λ (y : Member). nat_eq (number_of y) number ≡ false) members
none_numbered number members is = none_found (λ (x : Member). heads.has_number number x.1) members is

pub none_without : (number : ℕ) (members : List Member) (bans : Bans) → at_number number members ≡ None → lazy_of members bans ≡ without number (lazy_of members bans)
none_without number members bans is =
    ap (λ (objects : List Placed). record (lazy_of members bans) { objects = objects })
    (sym (filter_of_map (λ p. not (has_number number p)) placed_of members
    ∙ ap (map placed_of) (filter_all (λ (x : Member). not (nat_eq (number_of x) number)) members
    (all_weaken (λ (y : Member). nat_eq (number_of y) number ≡ false) (λ (y : Member). not (nat_eq (number_of y) number) ≡ true) (λ y e. ap not e) members (none_numbered number members is)))))

pub none_moved : (number : ℕ) (stand : Stand) (members : List Member) (bans : Bans) → at_number number members ≡ None → lazy_of members bans ≡ moved number stand (lazy_of members bans)
none_moved number stand members bans is =
    ap (λ (objects : List Placed). record (lazy_of members bans) { objects = objects })
    (unchanged number (λ p. record p { place = stand.place; mark = stand.mark }) members (none_numbered number members is))
