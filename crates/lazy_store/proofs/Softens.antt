-- The containers stay tied where the lifetime of several objects ends.
use Rattle.std.proofs.Common.{◌≡◌, ◌⊎◌, inl, inr, ℕ, Bool, true, false, cond, ℤ, List, [], ◌∷◌, ◌++◌, ◌&&◌, ◌||◌, Option, Some, None, filter, length, map, nat_eq, refl, arith, sym, ap, ◌∙◌, subst}
use Rattle.std.specs.Map.{lookup}
use Rattle.std.specs.Ordering.{int_eq}
use Rattle.std.specs.Prelude.{IfSome}
use Rattle.std.specs.List.{list_any, AllByRecursion}
use Rattle.std.specs.Cmp.{int_eq_equiv}
use Rattle.std.proofs.lemmas.Bool.{and_left, eqb-true, false≢true, or_right}
use Rattle.std.proofs.lemmas.Bool.Decides.{Decides-int_eq}
use Rattle.cache_law.specs.declared.object.Object.{Object}
use Rattle.cache_law.specs.declared.object.Object.TheVariants.{Ordinary, HitForMiss, HitForPass}
use Rattle.cache_law.specs.declared.ban.Issued.{Issued}
use Rattle.cache_law.specs.Object.{key_of, size_of}
use Rattle.cache_law.specs.Purges.{softened, xkeys_of}
use Rattle.cache_law.specs.ShownBans.{those_open}
use Rattle.ban_lurker.specs.Looks.{is_above}
use Rattle.object_heads.specs.declared.item.Item.{Item}
use Rattle.object_heads.specs.Members as heads
use Rattle.room_lru.specs.declared.ending.Ending.{Ending}
use Rattle.room_lru.specs.Members.{Used, ending, with_end}
use Rattle.room_lru.specs.Ends.{has_end}
use Rattle.room_lru.specs.Endings.{AreEndings, AreTwo, IsEnding, is_of, with_ends}
use Rattle.ban_list.specs.declared.list.Stand.{Stand}
use Rattle.ban_list.specs.Bans.{Bans}
use Rattle.ban_list.specs.Stands.{AreAt}
use Rattle.lazy_law.specs.Placed.{Placed, is_unswept}
use Rattle.lazy_law.specs.Sweeping.{count_unswept}
use Rattle.lazy_law.proofs.Filters.{any_none, any_of_map, each, filter_of_map, filter_on, length_of_map, map_of_map, sum_of_map}
use Rattle.lazy_store.specs.declared.placement.Placement.{Placement}
use Rattle.lazy_store.specs.Members.{Member, at_number, end_of, handle_of, lazy_of, number_of, placed_of, stand_of, tagged_of, use_of, used_of}
use Rattle.lazy_store.specs.Numbered.{is_one_of}
use Rattle.lazy_store.specs.Softening.{FitIn, FitsIn, endings_at, objects_at, soft_object, softened_all, softened_in, softening_all, with_objects}
use Rattle.lazy_store.specs.Tied.{AreAlike, AreApart, AreTied, IsAhead, IsWithin}
use Rattle.lazy_store.proofs.Changes.{none_numbered, others_numbered}
use Rattle.lazy_store.proofs.Found.{own_eq}
use Rattle.lazy_store.proofs.Numbers.{all_two}
use Rattle.lazy_store.proofs.Splits.{IsFound, all_here, all_more, all_weaken, any_alike, apart_others, eq_turned, found}

-- ---- an object whose lifetime ends

pub softened_size : (moment : ℕ) (object : Object) → size_of (softened moment object) ≡ size_of object
softened_size moment (Ordinary response) = refl
softened_size moment (HitForMiss marker) = refl
softened_size moment (HitForPass marker) = refl

pub softened_key : (moment : ℕ) (object : Object) → key_of (softened moment object) ≡ key_of object
softened_key moment (Ordinary response) = refl
softened_key moment (HitForMiss marker) = refl
softened_key moment (HitForPass marker) = refl

pub softened_xkeys : (moment : ℕ) (object : Object) → xkeys_of (softened moment object) ≡ xkeys_of object
softened_xkeys moment (Ordinary response) = refl
softened_xkeys moment (HitForMiss marker) = refl
softened_xkeys moment (HitForPass marker) = refl

abbrev pub soft : ℕ → Member → Member
soft moment m = (m.0, heads.with_object (soft_object moment m) m.1)

abbrev pub softens : ℕ → List ℕ → Member → Member
softens moment numbers m = cond (is_one_of numbers (placed_of m)) (soft moment m) m

-- ---- what a change of all leaves as it was

module _ {X Y : Type 0} where
  pub all_onto : (P : X → Type 0) (Q : Y → Type 0) (f : X → Y) → ((x : X) → P x → Q (f x)) → (xs : List X) → AllByRecursion P xs → AllByRecursion Q (map f xs)
  all_onto P Q f on [] all = tt
  all_onto P Q f on (x ∷ xs) all = (on x all.0, all_onto P Q f on xs all.1)

  pub map_alike : (f g : X → Y) (xs : List X) → AllByRecursion (λ (x : X). f x ≡ g x) xs → map f xs ≡ map g xs
  map_alike f g [] all = refl
  map_alike f g (x ∷ xs) all = rw (all.0) (ap (λ (ys : List Y). g x ∷ ys) (map_alike f g xs all.1))

  -- alike lists stay alike
  pub alike_map : (f : X → Y) (one other : List X) → AreAlike one other → AreAlike (map f one) (map f other)
  alike_map f one other alike = λ weight. sum_of_map weight f one ∙ alike (λ (x : X). weight (f x)) ∙ sym (sum_of_map weight f other)

apart_onto : {X : Type 0} (number : X → ℕ) (f : X → X) → ((x : X) → number (f x) ≡ number x) → (xs : List X) → AreApart number xs → AreApart number (map f xs)
apart_onto number f same [] apart = tt
apart_onto {X} number f same (x ∷ xs) apart = (
  all_onto (λ (y : X). nat_eq (number x) (number y) ≡ false) (λ (y : X). nat_eq (number (f x)) (number y) ≡ false) f (λ y e. rw (same x, same y) e) xs apart.0,
  apart_onto number f same xs apart.1,
)

module _ (f : Member → Member) (handles : (m : Member) → handle_of (f m) ≡ handle_of m) (numbers : (m : Member) → number_of (f m) ≡ number_of m) (uses : (m : Member) → use_of (f m) ≡ use_of m) (stands : (m : Member) → stand_of (f m) ≡ stand_of m) (tags : (m : Member) → tagged_of (f m) ≡ tagged_of m) where
  ahead_so : (m : Member) → IsAhead m → IsAhead (f m)
  ahead_so m ahead = record { fits = omega (arith, handles m, ahead.fits); low = omega (arith, handles m, uses m, ahead.low) }

  within_so : (issued : ℕ) (m : Member) → IsWithin issued m → IsWithin issued (f m)
  within_so issued m within =
      let place : (stand_of (f m)).place ≡ (stand_of m).place = ap (λ (s : Stand). s.place) (stands m) in
      let mark : (stand_of (f m)).mark ≡ (stand_of m).mark = ap (λ (s : Stand). s.mark) (stands m) in
      record { place = omega (arith, place, within.place); mark = omega (arith, mark, within.mark) }

  unswept_so : (members : List Member) (bans : Bans) → count_unswept (lazy_of (map f members) bans) ≡ count_unswept (lazy_of members bans)
  unswept_so members bans =
      let kept : List Issued = those_open bans.lines in
      ap length (filter_of_map (is_unswept kept) placed_of (map f members) ∙ ap (map placed_of) (filter_of_map (λ (m : Member). is_unswept kept (placed_of m)) f members))
      ∙ length_of_map placed_of (map f (filter (λ (m : Member). is_unswept kept (placed_of (f m))) members))
      ∙ length_of_map f (filter (λ (m : Member). is_unswept kept (placed_of (f m))) members)
      ∙ ap length
      (filter_on (λ (m : Member). is_unswept kept (placed_of (f m))) (λ (m : Member). is_unswept kept (placed_of m)) members
      (each (λ (m : Member). is_unswept kept (placed_of (f m)) ≡ is_unswept kept (placed_of m)) (λ m. ap (λ (s : Stand). list_any (is_above s.mark) kept) (stands m)) members))
      ∙ sym (length_of_map placed_of (filter (λ (m : Member). is_unswept kept (placed_of m)) members))
      ∙ ap length (sym (filter_of_map (is_unswept kept) placed_of members))

  -- the members stay tied, where the list by use follows
  tied_onto : (members : List Member) (tagged : List (ℕ × List (List ℕ))) (room later : List Used) (bans : Bans) (newest unswept : ℕ) → AreTied members tagged room bans newest unswept
      → AreAlike later (map used_of (map f members)) → AreTied (map f members) tagged later bans newest unswept
  tied_onto members tagged room later bans newest unswept tied alike =
      record {
        handles = apart_onto handle_of f handles members tied.handles;
        numbers = apart_onto number_of f numbers members tied.numbers;
        uses = apart_onto use_of f uses members tied.uses;
        ahead = all_onto IsAhead IsAhead f ahead_so members tied.ahead;
        within = all_onto (IsWithin bans.issued) (IsWithin bans.issued) f (within_so bans.issued) members tied.within;
        tagged_ = tied.tagged_ ∙ sym (map_of_map tagged_of f members ∙ map_alike (λ (m : Member). tagged_of (f m)) tagged_of members (each (λ (m : Member). tagged_of (f m) ≡ tagged_of m) tags members));
        room_ = alike;
        stands = subst (AreAt bans) (sym (map_of_map stand_of f members ∙ map_alike (λ (m : Member). stand_of (f m)) stand_of members (each (λ (m : Member). stand_of (f m) ≡ stand_of m) stands members))) tied.stands;
        waiting = tied.waiting ∙ sym (unswept_so members bans);
        alone = tied.alone;
      }

by_case : {Y : Type 0} (f : Member → Y) (b : Bool) (one other : Member) → f one ≡ f other → f (cond b one other) ≡ f other
by_case f true one other e = e
by_case f false one other e = refl

-- ---- lists and tests

any_here : {X : Type 0} (test : X → Bool) (before : List X) (x : X) (behind : List X) → test x ≡ true → list_any test (before ++ x ∷ behind) ≡ true
any_here test [] x behind e = rw e refl
any_here test (y ∷ before) x behind e = or_right (test y) (list_any test (before ++ x ∷ behind)) (any_here test before x behind e)

none_both : (a b : Bool) → b ≡ false → (a && b) ≡ false
none_both true b e = e
none_both false b e = refl

map_self : {X : Type 0} (xs : List X) → map (λ (x : X). x) xs ≡ xs
map_self [] = refl
map_self {X} (x ∷ xs) = ap (λ (ys : List X). x ∷ ys) (map_self xs)

-- the one by use, with the ends that it is to have
abbrev ended : List Ending → Used → Used
ended [] used = used
ended (e ∷ es) used = ended es (ending e.used e.new_end used)

with_ends_is : (endings : List Ending) (room : List Used) → with_ends endings room ≡ map (ended endings) room
with_ends_is [] room = sym (map_self room)
with_ends_is (e ∷ es) room = with_ends_is es (with_end e.used e.new_end room) ∙ map_of_map (ended es) (ending e.used e.new_end) room

ended_other : (endings : List Ending) (used : Used) → AllByRecursion (λ (e : Ending). nat_eq e.used used.0 ≡ false) endings → ended endings used ≡ used
ended_other [] used all = refl
ended_other (e ∷ es) used all = rw (all.0) (ended_other es used all.1)

-- ---- the member of a number, and the others

-- it is this one, or has another number, handle and use
abbrev IsBeside : ℕ → Member → Member → Type 0
IsBeside number it m = ((m ≡ it) × (nat_eq (number_of m) number ≡ true)) ⊎ ((nat_eq (number_of m) number ≡ false) × (nat_eq it.0 m.0 ≡ false) × (nat_eq (use_of it) (use_of m) ≡ false))

all_three : {X : Type 0} (P Q R S : X → Type 0) → ((x : X) → P x → Q x → R x → S x) → (xs : List X) → AllByRecursion P xs → AllByRecursion Q xs → AllByRecursion R xs → AllByRecursion S xs
all_three P Q R S on [] p q r = tt
all_three P Q R S on (x ∷ xs) p q r = (on x p.0 q.0 r.0, all_three P Q R S on xs p.1 q.1 r.1)

module _ (members : List Member) (handles : AreApart handle_of members) (numbers : AreApart number_of members) (uses : AreApart use_of members) where
  beside : (number : ℕ) (it : Member) → at_number number members ≡ Some it → AllByRecursion (IsBeside number it) members
  beside number it is =
      let f : IsFound (λ (x : Member). heads.has_number number x.1) members it = found (λ (x : Member). heads.has_number number x.1) members it is in
      let left : List Member = f.split.before in
      let right : List Member = f.split.behind in
      subst (AllByRecursion (IsBeside number it)) (sym f.split.is)
      (all_more (IsBeside number it) left it right (inl (refl, f.passes))
      (all_three (λ (m : Member). nat_eq (number_of m) number ≡ false) (λ (m : Member). nat_eq (handle_of it) (handle_of m) ≡ false) (λ (m : Member). nat_eq (use_of it) (use_of m) ≡ false) (IsBeside number it)
      (λ m n h u. inr (n, h, u)) (left ++ right)
      (others_numbered number it (left ++ right) f.passes (apart_others number_of left it right (subst (AreApart number_of) f.split.is numbers)))
      (apart_others handle_of left it right (subst (AreApart handle_of) f.split.is handles))
      (apart_others use_of left it right (subst (AreApart use_of) f.split.is uses))))

  own_number : (number : ℕ) (it : Member) → at_number number members ≡ Some it → nat_eq (number_of it) number ≡ true
  own_number number it is = let f : IsFound (λ (x : Member). heads.has_number number x.1) members it = found (λ (x : Member). heads.has_number number x.1) members it is in f.passes

  among : (P : Member → Type 0) (number : ℕ) (it : Member) → at_number number members ≡ Some it → AllByRecursion P members → P it
  among P number it is all =
      let f : IsFound (λ (x : Member). heads.has_number number x.1) members it = found (λ (x : Member). heads.has_number number x.1) members it is in
      all_here P f.split.before it f.split.behind (subst (AllByRecursion P) f.split.is all)

  not_both : (own one other : ℕ) → nat_eq own one ≡ true → nat_eq own other ≡ true → nat_eq one other ≡ false → ⊥
  not_both own one other e f g = absurd (false≢true (sym g ∙ ap (λ (n : ℕ). nat_eq n other) (sym (eqb-true own one e)) ∙ f))

  -- the members of two numbers have two handles and two uses
  two_apart : (one other : ℕ) (it that : Member) → at_number one members ≡ Some it → at_number other members ≡ Some that → nat_eq one other ≡ false
      → (nat_eq it.0 that.0 ≡ false) × (nat_eq (use_of it) (use_of that) ≡ false)
  two_apart one other it that is was apart = by_side (among (IsBeside one it) other that was (beside one it is)) where
    by_side : IsBeside one it that → (nat_eq it.0 that.0 ≡ false) × (nat_eq (use_of it) (use_of that) ≡ false)
    by_side (inl same) = absurd (not_both (number_of that) one other same.1 (own_number other that was) apart)
    by_side (inr sides) = (sides.1, sides.2)

  module _ (moment : ℕ) where
    -- ---- the objects by handle

    abbrev putting : Member → Member → Member
    putting it x = cond (nat_eq it.0 x.0) (x.0, heads.with_object (soft_object moment it) x.1) x

    own_put : (m : Member) (b : Bool) → putting m (cond b (soft moment m) m) ≡ soft moment m
    own_put m true = rw (own_eq m.0) refl
    own_put m false = rw (own_eq m.0) refl

    put_step : (number : ℕ) (numbers : List ℕ) (it m : Member) (b : Bool) → is_one_of numbers (placed_of m) ≡ b → IsBeside number it m
        → putting it (cond b (soft moment m) m) ≡ cond (nat_eq (number_of m) number || b) (soft moment m) m
    put_step number numbers it m b e (inl same) = ap (λ (x : Member). putting x (cond b (soft moment m) m)) (sym same.0) ∙ own_put m b ∙ ap (λ (c : Bool). cond (c || b) (soft moment m) m) (sym same.1)
    put_step number numbers it m true e (inr sides) = rw (sides.1, sides.0) refl
    put_step number numbers it m false e (inr sides) = rw (sides.1, sides.0) refl

    skip_step : (number : ℕ) (numbers : List ℕ) (m : Member) → nat_eq (number_of m) number ≡ false → softens moment numbers m ≡ softens moment (number ∷ numbers) m
    skip_step number numbers m e = ap (λ (c : Bool). cond (c || is_one_of numbers (placed_of m)) (soft moment m) m) (sym e)

    objects_step : (number : ℕ) (numbers : List ℕ) (found_ : Option Member) → at_number number members ≡ found_
        → with_objects (objects_at moment members numbers) members ≡ map (softens moment numbers) members
        → with_objects (objects_at moment members (number ∷ numbers)) members ≡ map (softens moment (number ∷ numbers)) members
    objects_step number numbers None e rest =
        rw e
        (rest
        ∙ map_alike (softens moment numbers) (softens moment (number ∷ numbers)) members
        (all_weaken (λ (m : Member). nat_eq (number_of m) number ≡ false) (λ (m : Member). softens moment numbers m ≡ softens moment (number ∷ numbers) m) (λ m x. skip_step number numbers m x) members (none_numbered number members e)))
    objects_step number numbers (Some it) e rest =
        rw e
        (ap (heads.changed it.0 (heads.with_object (soft_object moment it))) rest
        ∙ map_of_map (putting it) (softens moment numbers) members
        ∙ map_alike (λ (m : Member). putting it (softens moment numbers m)) (softens moment (number ∷ numbers)) members
        (all_weaken (IsBeside number it) (λ (m : Member). putting it (softens moment numbers m) ≡ softens moment (number ∷ numbers) m) (λ m side. put_step number numbers it m (is_one_of numbers (placed_of m)) refl side) members
        (beside number it e)))

    pub objects_softened : (numbers_ : List ℕ) → with_objects (objects_at moment members numbers_) members ≡ map (softens moment numbers_) members
    objects_softened [] = sym (map_alike (softens moment []) (λ (m : Member). m) members (each (λ (m : Member). softens moment [] m ≡ m) (λ m. refl) members) ∙ map_self members)
    objects_softened (n ∷ ns) = objects_step n ns (at_number n members) refl (objects_softened ns)

    fits_one : (number : ℕ) (it m : Member) → IsBeside number it m → nat_eq it.0 m.0 ≡ true → key_of (soft_object moment it) ≡ key_of m.1.view.object
    fits_one number it m (inl same) own = softened_key moment it.1.view.object ∙ ap (λ (x : Member). key_of x.1.view.object) (sym same.0)
    fits_one number it m (inr sides) own = absurd (false≢true (sym sides.1 ∙ own))

    fit_step : (number : ℕ) (numbers : List ℕ) (found_ : Option Member) → at_number number members ≡ found_ → FitIn members (objects_at moment members numbers) → FitIn members (objects_at moment members (number ∷ numbers))
    fit_step number numbers None e rest = rw e rest
    fit_step number numbers (Some it) e rest =
        rw e
        (all_weaken (IsBeside number it) (λ (m : Member). nat_eq it.0 m.0 ≡ true → key_of (soft_object moment it) ≡ key_of m.1.view.object) (λ m side. fits_one number it m side) members (beside number it e), rest)

    -- they have the keys of those in whose places they come
    pub objects_fit : (numbers_ : List ℕ) → FitIn members (objects_at moment members numbers_)
    objects_fit [] = tt
    objects_fit (n ∷ ns) = fit_step n ns (at_number n members) refl (objects_fit ns)

    -- ---- the ends

    abbrev new_end : Member → ℤ
    new_end it = end_of (soft_object moment it)

    abbrev ending_so : Member → Ending
    ending_so it = record { used = use_of it; handle = it.0; end = end_of it.1.view.object; new_end = new_end it }

    abbrev IsOther : Member → Ending → Type 0
    IsOther it e = (nat_eq e.used (use_of it) ≡ false) × (nat_eq it.0 e.handle ≡ false) × (nat_eq (use_of it) e.used ≡ false)

    others_some : (own number : ℕ) (numbers_ : List ℕ) (it that : Member) (b : Bool) → at_number own members ≡ Some it → nat_eq own number ≡ false → at_number number members ≡ Some that
        → int_eq (end_of that.1.view.object) (new_end that) ≡ b
        → AllByRecursion (IsOther it) (endings_at moment members numbers_) → AllByRecursion (IsOther it) (endings_at moment members (number ∷ numbers_))
    others_some own number numbers_ it that true is apart e f rest = rw (e, f) rest
    others_some own number numbers_ it that false is apart e f rest =
        let two = two_apart own number it that is e apart in
        rw (e, f) ((eq_turned (use_of that) (use_of it) ∙ two.1, two.0, two.1), rest)

    others_step : (own number : ℕ) (numbers_ : List ℕ) (it : Member) (found_ : Option Member) → at_number own members ≡ Some it → nat_eq own number ≡ false → at_number number members ≡ found_
        → AllByRecursion (IsOther it) (endings_at moment members numbers_) → AllByRecursion (IsOther it) (endings_at moment members (number ∷ numbers_))
    others_step own number numbers_ it None is apart e rest = rw e rest
    others_step own number numbers_ it (Some that) is apart e rest = others_some own number numbers_ it that (int_eq (end_of that.1.view.object) (new_end that)) is apart e refl rest

    -- those of other numbers are of other members
    others_of : (own : ℕ) (it : Member) (numbers_ : List ℕ) → at_number own members ≡ Some it → AllByRecursion (λ (n : ℕ). nat_eq own n ≡ false) numbers_ → AllByRecursion (IsOther it) (endings_at moment members numbers_)
    others_of own it [] is apart = tt
    others_of own it (n ∷ ns) is apart = others_step own n ns it (at_number n members) is apart.0 refl (others_of own it ns is apart.1)

    module _ (room : List Used) (alike : AreAlike room (map used_of members)) where
      there_so : (number : ℕ) (it : Member) → at_number number members ≡ Some it → list_any (is_of (ending_so it)) room ≡ true
      there_so number it is =
          let f : IsFound (λ (x : Member). heads.has_number number x.1) members it = found (λ (x : Member). heads.has_number number x.1) members it is in
          let own : is_of (ending_so it) (used_of it) ≡ true = rw (own_eq (use_of it), int_eq_equiv.refl (end_of it.1.view.object), own_eq it.0) refl in
          any_alike (is_of (ending_so it)) room (map used_of members) alike ∙ any_of_map (is_of (ending_so it)) used_of members
          ∙ ap (list_any (λ (m : Member). is_of (ending_so it) (used_of m))) f.split.is
          ∙ any_here (λ (m : Member). is_of (ending_so it) (used_of m)) f.split.before it f.split.behind own

      free_one : (number : ℕ) (it m : Member) → int_eq (end_of it.1.view.object) (new_end it) ≡ false → IsBeside number it m → has_end (new_end it, it.0) (used_of m) ≡ false
      free_one number it m f (inl same) =
          ap (λ (x : Member). int_eq (end_of x.1.view.object) (new_end it) && nat_eq x.0 it.0) same.0 ∙ and_left (int_eq (end_of it.1.view.object) (new_end it)) (nat_eq it.0 it.0) f
      free_one number it m f (inr sides) = none_both (int_eq (end_of m.1.view.object) (new_end it)) (nat_eq m.0 it.0) (eq_turned m.0 it.0 ∙ sides.1)

      is_ending : (number : ℕ) (it : Member) → at_number number members ≡ Some it → int_eq (end_of it.1.view.object) (new_end it) ≡ false → IsEnding room (ending_so it)
      is_ending number it is f =
          record {
            there = there_so number it is;
            free = any_alike (has_end (new_end it, it.0)) room (map used_of members) alike ∙ any_of_map (has_end (new_end it, it.0)) used_of members
                ∙ any_none (λ (m : Member). has_end (new_end it, it.0) (used_of m)) members
                (all_weaken (IsBeside number it) (λ (m : Member). has_end (new_end it, it.0) (used_of m) ≡ false) (λ m side. free_one number it m f side) members (beside number it is));
          }

      endings_some : (number : ℕ) (numbers_ : List ℕ) (it : Member) (b : Bool) → at_number number members ≡ Some it → int_eq (end_of it.1.view.object) (new_end it) ≡ b
          → AllByRecursion (λ (n : ℕ). nat_eq number n ≡ false) numbers_ → AreEndings room (endings_at moment members numbers_) → AreEndings room (endings_at moment members (number ∷ numbers_))
      endings_some number numbers_ it true e f apart rest = rw (e, f) rest
      endings_some number numbers_ it false e f apart rest =
          rw (e, f) (
            is_ending number it e f,
            all_weaken (IsOther it) (AreTwo (ending_so it)) (λ x other. record { uses = other.2; handles = other.1 }) (endings_at moment members numbers_) (others_of number it numbers_ e apart),
            rest,
          )

      endings_step : (number : ℕ) (numbers_ : List ℕ) (found_ : Option Member) → at_number number members ≡ found_
          → AllByRecursion (λ (n : ℕ). nat_eq number n ≡ false) numbers_ → AreEndings room (endings_at moment members numbers_) → AreEndings room (endings_at moment members (number ∷ numbers_))
      endings_step number numbers_ None e apart rest = rw e rest
      endings_step number numbers_ (Some it) e apart rest = endings_some number numbers_ it (int_eq (end_of it.1.view.object) (new_end it)) e refl apart rest

      -- each is of a member of its own
      pub are_endings : (numbers_ : List ℕ) → AreApart (λ (n : ℕ). n) numbers_ → AreEndings room (endings_at moment members numbers_)
      are_endings [] apart = tt
      are_endings (n ∷ ns) apart = endings_step n ns (at_number n members) refl apart.0 (are_endings ns apart.1)

    -- ---- the list by use

    abbrev used_with : Member → ℕ → ℤ → Used
    used_with it size end = (use_of it, record { handle = it.0; size = size; end = end })

    used_soft : (it : Member) (end : ℤ) → end ≡ new_end it → used_with it (size_of it.1.view.object) end ≡ used_of (soft moment it)
    used_soft it end same =
        ap (used_with it (size_of it.1.view.object)) same ∙ ap (λ (n : ℕ). used_with it n (new_end it)) (sym (softened_size moment it.1.view.object))

    own_ended : (number : ℕ) (numbers_ : List ℕ) (it : Member) (b : Bool) → at_number number members ≡ Some it → int_eq (end_of it.1.view.object) (new_end it) ≡ b
        → AllByRecursion (IsOther it) (endings_at moment members numbers_)
        → ended (endings_at moment members (number ∷ numbers_)) (used_of it) ≡ used_of (softens moment (number ∷ numbers_) it)
    own_ended number numbers_ it true e f others =
        rw (e, f, own_number number it e)
        (ended_other (endings_at moment members numbers_) (used_of it) (all_weaken (IsOther it) (λ (x : Ending). nat_eq x.used (use_of it) ≡ false) (λ x other. other.0) (endings_at moment members numbers_) others)
        ∙ used_soft it (end_of it.1.view.object) ((Decides-int_eq (end_of it.1.view.object) (new_end it)).0 f))
    own_ended number numbers_ it false e f others =
        rw (e, f, own_number number it e, own_eq (use_of it))
        (ended_other (endings_at moment members numbers_) (used_with it (size_of it.1.view.object) (new_end it))
        (all_weaken (IsOther it) (λ (x : Ending). nat_eq x.used (use_of it) ≡ false) (λ x other. other.0) (endings_at moment members numbers_) others)
        ∙ used_soft it (new_end it) refl)

    side_ended : (number : ℕ) (numbers_ : List ℕ) (it m : Member) (b : Bool) → at_number number members ≡ Some it → int_eq (end_of it.1.view.object) (new_end it) ≡ b
        → nat_eq (number_of m) number ≡ false → nat_eq (use_of it) (use_of m) ≡ false
        → ended (endings_at moment members numbers_) (used_of m) ≡ used_of (softens moment numbers_ m)
        → ended (endings_at moment members (number ∷ numbers_)) (used_of m) ≡ used_of (softens moment (number ∷ numbers_) m)
    side_ended number numbers_ it m true e f n u rest = rw (e, f) (rest ∙ ap used_of (skip_step number numbers_ m n))
    side_ended number numbers_ it m false e f n u rest = rw (e, f, u) (rest ∙ ap used_of (skip_step number numbers_ m n))

    one_ended : (number : ℕ) (numbers_ : List ℕ) (it m : Member) → at_number number members ≡ Some it → AllByRecursion (IsOther it) (endings_at moment members numbers_) → IsBeside number it m
        → ended (endings_at moment members numbers_) (used_of m) ≡ used_of (softens moment numbers_ m)
        → ended (endings_at moment members (number ∷ numbers_)) (used_of m) ≡ used_of (softens moment (number ∷ numbers_) m)
    one_ended number numbers_ it m e others (inl same) rest =
        subst (λ (x : Member). ended (endings_at moment members (number ∷ numbers_)) (used_of x) ≡ used_of (softens moment (number ∷ numbers_) x)) (sym same.0)
        (own_ended number numbers_ it (int_eq (end_of it.1.view.object) (new_end it)) e refl others)
    one_ended number numbers_ it m e others (inr sides) rest = side_ended number numbers_ it m (int_eq (end_of it.1.view.object) (new_end it)) e refl sides.0 sides.2 rest

    abbrev IsEnded : List ℕ → Member → Type 0
    IsEnded numbers_ m = ended (endings_at moment members numbers_) (used_of m) ≡ used_of (softens moment numbers_ m)

    ended_step : (number : ℕ) (numbers_ : List ℕ) (found_ : Option Member) → at_number number members ≡ found_ → AllByRecursion (λ (n : ℕ). nat_eq number n ≡ false) numbers_
        → AllByRecursion (IsEnded numbers_) members → AllByRecursion (IsEnded (number ∷ numbers_)) members
    ended_step number numbers_ None e apart rest =
        all_two (λ (m : Member). nat_eq (number_of m) number ≡ false) (IsEnded numbers_) (IsEnded (number ∷ numbers_)) (λ m n is. rw e (is ∙ ap used_of (skip_step number numbers_ m n))) members (none_numbered number members e) rest
    ended_step number numbers_ (Some it) e apart rest =
        all_two (IsBeside number it) (IsEnded numbers_) (IsEnded (number ∷ numbers_)) (λ m side is. one_ended number numbers_ it m e (others_of number it numbers_ e apart) side is) members (beside number it e) rest

    all_ended : (numbers_ : List ℕ) → AreApart (λ (n : ℕ). n) numbers_ → AllByRecursion (IsEnded numbers_) members
    all_ended [] apart = each (IsEnded []) (λ m. refl) members
    all_ended (n ∷ ns) apart = ended_step n ns (at_number n members) refl apart.0 (all_ended ns apart.1)

    alike_softened : (room : List Used) (numbers_ : List ℕ) → AreAlike room (map used_of members) → AreApart (λ (n : ℕ). n) numbers_
        → AreAlike (with_ends (endings_at moment members numbers_) room) (map used_of (map (softens moment numbers_) members))
    alike_softened room numbers_ alike apart =
        let es : List Ending = endings_at moment members numbers_ in
        let left : map (ended es) room ≡ with_ends es room = sym (with_ends_is es room) in
        let right : map (ended es) (map used_of members) ≡ map used_of (map (softens moment numbers_) members) =
        map_of_map (ended es) used_of members ∙ map_alike (λ (m : Member). ended es (used_of m)) (λ (m : Member). used_of (softens moment numbers_ m)) members (all_ended numbers_ apart)
        ∙ sym (map_of_map used_of (softens moment numbers_) members) in
        subst (λ (xs : List Used). AreAlike xs (map used_of (map (softens moment numbers_) members))) left
        (subst (AreAlike (map (ended es) room)) right (alike_map (ended es) room (map used_of members) alike))

-- ---- the store

module _ (moment : ℕ) (numbers : List ℕ) (members : List Member) (tagged : List (ℕ × List (List ℕ))) (room : List Used) (bans : Bans) (newest unswept : ℕ) where
  pub soft_endings : AreTied members tagged room bans newest unswept → AreApart (λ (n : ℕ). n) numbers → AreEndings room (endings_at moment members numbers)
  soft_endings tied apart = are_endings members tied.handles tied.numbers tied.uses moment room tied.room_ numbers apart

  pub soft_fits : AreTied members tagged room bans newest unswept → FitIn members (objects_at moment members numbers)
  soft_fits tied = objects_fit members tied.handles tied.numbers tied.uses moment numbers

  pub tied_soft : AreTied members tagged room bans newest unswept → AreApart (λ (n : ℕ). n) numbers
      → AreTied (with_objects (objects_at moment members numbers) members) tagged (with_ends (endings_at moment members numbers) room) bans newest unswept
  tied_soft tied apart =
      let one : Member → Bool = λ (m : Member). is_one_of numbers (placed_of m) in
      subst (λ (xs : List Member). AreTied xs tagged (with_ends (endings_at moment members numbers) room) bans newest unswept) (sym (objects_softened members tied.handles tied.numbers tied.uses moment numbers))
      (tied_onto (softens moment numbers) (λ m. by_case handle_of (one m) (soft moment m) m refl) (λ m. by_case number_of (one m) (soft moment m) m refl) (λ m. by_case use_of (one m) (soft moment m) m refl)
      (λ m. by_case stand_of (one m) (soft moment m) m refl) (λ m. by_case tagged_of (one m) (soft moment m) m (ap (λ (keys : List (List ℕ)). (m.0, keys)) (softened_xkeys moment m.1.view.object)))
      members tagged room (with_ends (endings_at moment members numbers) room) bans newest unswept tied (alike_softened members tied.handles tied.numbers tied.uses moment room numbers tied.room_ apart))

  placed_soft : (m : Member) (b : Bool) → placed_of (cond b (soft moment m) m) ≡ cond b (softened_in moment (placed_of m)) (placed_of m)
  placed_soft m true = refl
  placed_soft m false = refl

  pub lazy_soft : AreTied members tagged room bans newest unswept → lazy_of (with_objects (objects_at moment members numbers) members) bans ≡ softened_all moment numbers (lazy_of members bans)
  lazy_soft tied =
      ap (λ (objects : List Placed). record (lazy_of members bans) { objects = objects })
      (ap (map placed_of) (objects_softened members tied.handles tied.numbers tied.uses moment numbers)
      ∙ map_of_map placed_of (softens moment numbers) members
      ∙ map_alike (λ (m : Member). placed_of (softens moment numbers m)) (λ (m : Member). softening_all moment numbers (placed_of m)) members
      (each (λ (m : Member). placed_of (softens moment numbers m) ≡ softening_all moment numbers (placed_of m)) (λ m. placed_soft m (is_one_of numbers (placed_of m))) members)
      ∙ sym (map_of_map (softening_all moment numbers) placed_of members))

-- ---- one object after another, from the last on

pub with_objects_push : (objects : List (ℕ × Object)) (last : ℕ × Object) (members : List Member) → with_objects (objects ++ last ∷ []) members ≡ with_objects objects (heads.changed last.0 (heads.with_object last.1) members)
with_objects_push [] last members = refl
with_objects_push (one ∷ others) last members = ap (heads.changed one.0 (heads.with_object one.1)) (with_objects_push others last members)

pub all_push : {X : Type 0} (P : X → Type 0) (xs : List X) (last : X) → AllByRecursion P (xs ++ last ∷ []) → AllByRecursion P xs × P last
all_push P [] last all = (tt, all.0)
all_push P (x ∷ xs) last all = let rest = all_push P xs last all.1 in ((all.0, rest.0), rest.1)

fits_case : (one last : ℕ × Object) (m : Member) (b : Bool) → nat_eq last.0 m.0 ≡ b → (nat_eq one.0 m.0 ≡ true → key_of one.1 ≡ key_of m.1.view.object) → (nat_eq last.0 m.0 ≡ true → key_of last.1 ≡ key_of m.1.view.object)
    → nat_eq one.0 (cond b (m.0, heads.with_object last.1 m.1) m).0 ≡ true → key_of one.1 ≡ key_of (cond b (m.0, heads.with_object last.1 m.1) m).1.view.object
fits_case one last m true e fits also has = fits has ∙ sym (also e)
fits_case one last m false e fits also has = fits has

fits_changed : (one last : ℕ × Object) (members : List Member) → FitsIn members one → FitsIn members last → FitsIn (heads.changed last.0 (heads.with_object last.1) members) one
fits_changed one last [] fits also = tt
fits_changed one last (m ∷ ms) fits also = (fits_case one last m (nat_eq last.0 m.0) refl fits.0 also.0, fits_changed one last ms fits.1 also.1)

pub fit_changed : (objects : List (ℕ × Object)) (last : ℕ × Object) (members : List Member) → FitIn members objects → FitsIn members last → FitIn (heads.changed last.0 (heads.with_object last.1) members) objects
fit_changed [] last members fit also = tt
fit_changed (one ∷ others) last members fit also = (fits_changed one last members fit.0 also, fit_changed others last members fit.1 also)

looked_case : (one : ℕ × Object) (m : Member) (rest : Option (Item Placement)) (b : Bool) → nat_eq one.0 m.0 ≡ b → (nat_eq one.0 m.0 ≡ true → key_of one.1 ≡ key_of m.1.view.object)
    → IfSome rest (λ item. key_of one.1 ≡ key_of item.view.object) → IfSome (cond b (Some m.1) rest) (λ item. key_of one.1 ≡ key_of item.view.object)
looked_case one m rest true e fits later = fits e
looked_case one m rest false e fits later = later

pub looked_fits : (one : ℕ × Object) (members : List Member) → FitsIn members one → IfSome (lookup (nat_eq one.0) members) (λ item. key_of one.1 ≡ key_of item.view.object)
looked_fits one [] fits = tt
looked_fits one (m ∷ ms) fits = looked_case one m (lookup (nat_eq one.0) ms) (nat_eq one.0 m.0) refl fits.0 (looked_fits one ms fits.1)
