-- Those that have to go by the order of their use are those that outweigh the room.
use Rattle.std.proofs.Common.{◌≡◌, ◌≤◌, ◌<◌, ◌+◌, ℕ, zero, suc, Bool, true, false, not, cond, List, [], ◌∷◌, ◌++◌, ◌&&◌, ◌||◌, Option, Some, None, Less, filter, find, map, length, take, drop, nat_eq, refl, arith, sym, ap, ◌∙◌, subst, ⊎_elim}
use Rattle.std.specs.Prelude.{⊤, nat_le, nat_lt, option_map, filter_map, sum, sum_by}
use Rattle.std.specs.List.{list_any, AllByRecursion, cons_option}
use Rattle.std.specs.List.Sorted.{IsStrictlySortedBy}
use Rattle.std.specs.Map.{keys_of, lookup}
use Rattle.std.specs.Option.{option_map_or}
use Rattle.std.specs.Ordering.{nat_cmp}
use Rattle.std.proofs.lemmas.Bool.{cases_lt, eqb-true, le-ltb, lt-ltb}
use Rattle.std.proofs.lemmas.Bool.Decides.{nat_tests}
use Rattle.std.proofs.lemmas.List.{length-map, length-take-le}
use Rattle.std.proofs.lemmas.List.Sums.{sum_by-cons}
use Rattle.cache_law.specs.Object.{size_of}
use Rattle.cache_law.specs.Room.{most_displaced}
use Rattle.object_heads.specs.declared.item.Item.{Item}
use Rattle.object_heads.specs.Members as heads
use Rattle.room_lru.specs.declared.member.Member.{Member as Weighed}
use Rattle.room_lru.specs.Members as rooms
use Rattle.room_lru.specs.Members.{Used}
use Rattle.room_lru.specs.Room.{AreOut, LackRoom, MakesRoom, others}
use Rattle.room_lru.proofs.RoomLemmas.{some_count}
use Rattle.lazy_law.specs.Placed.{Placed}
use Rattle.lazy_law.specs.Insertion.{displaced_late, has_number, is_used_from_late, lacks_room, others_late, outweighs_late, sizes_late}
use Rattle.lazy_law.proofs.Filters.{any_of_filter, any_of_map, each, filter_all, filter_of_map, filter_on, length_of_map, sum_of_map}
use Rattle.lazy_store.specs.declared.placement.Placement.{Placement}
use Rattle.lazy_store.specs.Displaced.{AreDisplaced}
use Rattle.lazy_store.specs.Found.{last_use}
use Rattle.lazy_store.specs.Members.{Member, at_number, handle_of, number_of, placed_of, use_of, used_of}
use Rattle.lazy_store.specs.Numbered.{is_one_of, number_at, numbers_at}
use Rattle.lazy_store.specs.Tied.{AreAlike, AreApart}
use Rattle.lazy_store.proofs.Changes.{none_numbered, others_numbered}
use Rattle.lazy_store.proofs.Found.{own_eq}
use Rattle.lazy_store.proofs.Lurks.{all_by}
use Rattle.lazy_store.proofs.Numbers.{all_left, all_two, passes_itself}
use Rattle.lazy_store.proofs.Puttings.{unnumbered}
use Rattle.lazy_store.proofs.Splits.{IsFound, alike_filter, all_weaken, any_alike, apart_others, eq_turned, filter_less, found}
use Rattle.lazy_store.proofs.Ties.{room_less}

-- ---- in the order of use

abbrev AreRising : List Used → Type 0
AreRising [] = ⊤
AreRising (x ∷ xs) = AllByRecursion (λ (y : Used). x.0 < y.0) xs × AreRising xs

less_of : (a b : ℕ) → nat_cmp a b ≡ Less → a < b
less_of a b e = grind (arith, nat_tests)

above_all : (low : ℕ) (xs : List Used) → AllByRecursion (λ (n : ℕ). nat_cmp low n ≡ Less) (keys_of xs) → AllByRecursion (λ (y : Used). low < y.0) xs
above_all low [] all = tt
above_all low (x ∷ xs) all = (less_of low x.0 all.0, above_all low xs all.1)

rising : (xs : List Used) → rooms.AreInOrder xs → AreRising xs
unfolding IsStrictlySortedBy
rising [] order = tt
rising (x ∷ xs) order = (above_all x.0 xs order.0, rising xs order.1)

rising_case : (b : Bool) (x : Used) (xs : List Used) → AllByRecursion (λ (y : Used). x.0 < y.0) xs → AreRising xs → AreRising (cond b (x ∷ xs) xs)
rising_case true x xs above rest = (above, rest)
rising_case false x xs above rest = rest

rising_filter : (test : Used → Bool) (xs : List Used) → AreRising xs → AreRising (filter test xs)
rising_filter test [] rise = tt
rising_filter test (x ∷ xs) rise = rising_case (test x) x (filter test xs) (all_left (λ (y : Used). x.0 < y.0) test xs rise.0) (rising_filter test xs rise.1)

rising_others : (but : Option ℕ) (xs : List Used) → AreRising xs → AreRising (others but xs)
rising_others None xs rise = rise
rising_others (Some used) xs rise = rising_filter (λ (x : Used). not (nat_eq used x.0)) xs rise

-- ---- what was used from a use on

abbrev weight : Used → ℕ
weight x = x.1.size

abbrev from : ℕ → List Used → ℕ
from used xs = sum_by weight (filter (λ (x : Used). nat_le used x.0) xs)

abbrev goes : ℕ → ℕ → List Used → Used → Bool
goes room size all x = nat_lt room (from x.0 all + size)

total_by : (xs : List Used) → sum (rooms.sizes_of xs) ≡ sum_by weight xs
total_by xs = sum_of_map (λ (n : ℕ). n) (λ (w : Weighed). w.size) (map (λ (x : Used). x.1) xs) ∙ sum_of_map (λ (w : Weighed). w.size) (λ (x : Used). x.1) xs

le_test : (a b : ℕ) → a ≤ b → nat_le a b ≡ true
le_test a b less = grind (arith, nat_tests)

lt_test : (a b : ℕ) → b < a → nat_le a b ≡ false
lt_test a b less = grind (arith, nat_tests)

from_first : (x : Used) (xs : List Used) → AllByRecursion (λ (y : Used). x.0 < y.0) xs → from x.0 (x ∷ xs) ≡ sum_by weight (x ∷ xs)
from_first x xs above =
    ap (sum_by weight)
    (filter_all (λ (y : Used). nat_le x.0 y.0) (x ∷ xs)
    (le_test x.0 x.0 (omega arith), all_weaken (λ (y : Used). x.0 < y.0) (λ (y : Used). nat_le x.0 y.0 ≡ true) (λ y less. le_test x.0 y.0 (omega (arith, less))) xs above))

from_later : (x y : Used) (xs : List Used) → x.0 < y.0 → from y.0 (x ∷ xs) ≡ from y.0 xs
from_later x y xs less =
    ap (λ (b : Bool). sum_by weight (cond b (x ∷ filter (λ (z : Used). nat_le y.0 z.0) xs) (filter (λ (z : Used). nat_le y.0 z.0) xs))) (lt_test y.0 x.0 less)

goes_later : (room size : ℕ) (x : Used) (xs : List Used) → AllByRecursion (λ (y : Used). x.0 < y.0) xs → filter (goes room size (x ∷ xs)) xs ≡ filter (goes room size xs) xs
goes_later room size x xs above =
    filter_on (goes room size (x ∷ xs)) (goes room size xs) xs
    (all_weaken (λ (y : Used). x.0 < y.0) (λ (y : Used). goes room size (x ∷ xs) y ≡ goes room size xs y) (λ y less. ap (λ (n : ℕ). nat_lt room (n + size)) (from_later x y xs less)) xs above)

rest_made : (room size count : ℕ) (x : Used) (xs : List Used) → MakesRoom room size (rooms.sizes_of (x ∷ xs)) (suc count) → MakesRoom room size (rooms.sizes_of xs) count
rest_made room size count x xs made = record { within = omega (arith, made.within); fits = made.fits; least = λ fewer less. made.least (suc fewer) (omega (arith, less)) }

none_made : (room size : ℕ) (x : Used) (xs : List Used) → MakesRoom room size (rooms.sizes_of (x ∷ xs)) zero → MakesRoom room size (rooms.sizes_of xs) zero
none_made room size x xs made =
    let all = sum_by-cons (λ (n : ℕ). n) x.1.size (rooms.sizes_of xs) in
    let fits : sum (rooms.sizes_of (x ∷ xs)) + size ≤ room = made.fits in
    let less : sum (rooms.sizes_of xs) + size ≤ room = omega (arith, all, fits) in
    record { within = omega arith; fits = less; least = λ fewer none_. absurd (omega (arith, none_)) }

-- of those in order the first go, as many as make room
filter_goes : (room size : ℕ) (xs : List Used) (count : ℕ) → AreRising xs → MakesRoom room size (rooms.sizes_of xs) count → filter (goes room size xs) xs ≡ take count xs
filter_goes room size [] zero rise made = refl
filter_goes room size [] (suc count) rise made = refl
filter_goes room size (x ∷ xs) zero rise made =
    let all = total_by (x ∷ xs) in
    let first = from_first x xs rise.0 in
    let fits : sum (rooms.sizes_of (x ∷ xs)) + size ≤ room = made.fits in
    let stays : goes room size (x ∷ xs) x ≡ false = le-ltb room (from x.0 (x ∷ xs) + size) (omega (arith, all, first, fits)) in
    ap (λ (b : Bool). cond b (x ∷ filter (goes room size (x ∷ xs)) xs) (filter (goes room size (x ∷ xs)) xs)) stays
    ∙ goes_later room size x xs rise.0 ∙ filter_goes room size xs zero rise.1 (none_made room size x xs made)
filter_goes room size (x ∷ xs) (suc count) rise made =
    let all = total_by (x ∷ xs) in
    let first = from_first x xs rise.0 in
    let over : room < sum (rooms.sizes_of (x ∷ xs)) + size = made.least zero (omega arith) in
    let leaves : goes room size (x ∷ xs) x ≡ true = lt-ltb room (from x.0 (x ∷ xs) + size) (omega (arith, all, first, over)) in
    ap (λ (b : Bool). cond b (x ∷ filter (goes room size (x ∷ xs)) xs) (filter (goes room size (x ∷ xs)) xs)) leaves
    ∙ ap (λ (ys : List Used). x ∷ ys) (goes_later room size x xs rise.0 ∙ filter_goes room size xs count rise.1 (rest_made room size count x xs made))

-- ---- numbers of handles

other_case : (n : ℕ) (x : Member) (found_ : Option (Item Placement)) (b : Bool) → nat_eq n (number_of x) ≡ false → option_map_or (λ (item : Item Placement). nat_eq n item.view.number) found_ false ≡ false
    → option_map_or (λ (item : Item Placement). nat_eq n item.view.number) (cond b (Some x.1) found_) false ≡ false
other_case n x found_ true other rest = other
other_case n x found_ false other rest = rest

other_item : (n : ℕ) (members : List Member) (handle : ℕ) → AllByRecursion (λ (m : Member). nat_eq n (number_of m) ≡ false) members
    → option_map_or (λ (item : Item Placement). nat_eq n item.view.number) (lookup (nat_eq handle) members) false ≡ false
other_item n [] handle all = refl
other_item n (m ∷ members) handle all = other_case n m (lookup (nat_eq handle) members) (nat_eq handle (handle_of m)) all.0 (other_item n members handle all.1)

-- the item of a handle has the object's number where the handle is the object's
abbrev IsOwn : List Member → Member → Type 0
IsOwn members m = (handle : ℕ) → option_map_or (λ (item : Item Placement). nat_eq (number_of m) item.view.number) (lookup (nat_eq handle) members) false ≡ nat_eq (handle_of m) handle

here_case : (m : Member) (members : List Member) (handle : ℕ) (b : Bool) → nat_eq handle (handle_of m) ≡ b → AllByRecursion (λ (y : Member). nat_eq (number_of m) (number_of y) ≡ false) members
    → option_map_or (λ (item : Item Placement). nat_eq (number_of m) item.view.number) (cond b (Some m.1) (lookup (nat_eq handle) members)) false ≡ nat_eq (handle_of m) handle
here_case m members handle true e others_ = own_eq (number_of m) ∙ sym (eq_turned (handle_of m) handle ∙ e)
here_case m members handle false e others_ = other_item (number_of m) members handle others_ ∙ sym (eq_turned (handle_of m) handle ∙ e)

there_case : (x m : Member) (members : List Member) (handle : ℕ) (b : Bool) → nat_eq handle (handle_of x) ≡ b → nat_eq (number_of x) (number_of m) ≡ false → nat_eq (handle_of x) (handle_of m) ≡ false
    → option_map_or (λ (item : Item Placement). nat_eq (number_of m) item.view.number) (lookup (nat_eq handle) members) false ≡ nat_eq (handle_of m) handle
    → option_map_or (λ (item : Item Placement). nat_eq (number_of m) item.view.number) (cond b (Some x.1) (lookup (nat_eq handle) members)) false ≡ nat_eq (handle_of m) handle
there_case x m members handle true e number other rest =
    let same : handle ≡ handle_of x = eqb-true handle (handle_of x) e in
    eq_turned (number_of m) (number_of x) ∙ number ∙ sym (ap (nat_eq (handle_of m)) same ∙ eq_turned (handle_of m) (handle_of x) ∙ other)
there_case x m members handle false e number other rest = rest

each_own : (members : List Member) → AreApart handle_of members → AreApart number_of members → AllByRecursion (IsOwn members) members
each_own [] handles numbers = tt
each_own (x ∷ members) handles numbers = (
  (λ handle. here_case x members handle (nat_eq handle (handle_of x)) refl numbers.0),
  all_by (λ (m : Member). nat_eq (number_of x) (number_of m) ≡ false) (λ (m : Member). nat_eq (handle_of x) (handle_of m) ≡ false) (IsOwn members) (IsOwn (x ∷ members))
      (λ m number other own. λ handle. there_case x m members handle (nat_eq handle (handle_of x)) refl number other (own handle)) members numbers.0 handles.0 (each_own members handles.1 numbers.1),
)

any_case : (n : ℕ) (found_ : Option (Item Placement)) (numbers : List ℕ) (b rest : Bool) → option_map_or (λ (item : Item Placement). nat_eq n item.view.number) found_ false ≡ b → list_any (nat_eq n) numbers ≡ rest
    → list_any (nat_eq n) (cons_option (option_map (λ (item : Item Placement). item.view.number) found_) numbers) ≡ (b || rest)
any_case n None numbers b rest own same = same ∙ ap (λ (x : Bool). x || rest) own
any_case n (Some item) numbers b rest own same = ap (λ (x : Bool). nat_eq n item.view.number || x) same ∙ ap (λ (x : Bool). x || rest) own

any_number : (members : List Member) (m : Member) (handles : List ℕ) → IsOwn members m → list_any (nat_eq (number_of m)) (numbers_at members handles) ≡ list_any (nat_eq (handle_of m)) handles
any_number members m [] own = refl
any_number members m (handle ∷ handles) own =
    any_case (number_of m) (lookup (nat_eq handle) members) (numbers_at members handles) (nat_eq (handle_of m) handle) (list_any (nat_eq (handle_of m)) handles) (own handle) (any_number members m handles own)

no_number : (members : List Member) (n : ℕ) (handles : List ℕ) → AllByRecursion (λ (m : Member). nat_eq n (number_of m) ≡ false) members → list_any (nat_eq n) (numbers_at members handles) ≡ false
no_number members n [] all = refl
no_number members n (handle ∷ handles) all =
    any_case n (lookup (nat_eq handle) members) (numbers_at members handles) false false (other_item n members handle all) (no_number members n handles all)

-- ---- beside the stale one

abbrev beside : Option ℕ → List Member → List Member
beside None members = members
beside (Some number) members = filter (λ (m : Member). not (nat_eq (number_of m) number)) members

others_beside : (stale : Option ℕ) (members : List Member) → others_late stale (map placed_of members) ≡ map placed_of (beside stale members)
others_beside None members = refl
others_beside (Some number) members = filter_of_map (λ (p : Placed). not (has_number number p)) placed_of members

alike_case : (number : ℕ) (used : List Used) (members : List Member) (one : Option Member) → at_number number members ≡ one → AreApart number_of members → AreApart use_of members → AreAlike used (map used_of members)
    → AreAlike (others (option_map use_of one) used) (map used_of (beside (Some number) members))
alike_case number used members None is numbers uses alike =
    subst (λ (xs : List Member). AreAlike used (map used_of xs))
    (sym (filter_all (λ (m : Member). not (nat_eq (number_of m) number)) members
    (all_weaken (λ (m : Member). nat_eq (number_of m) number ≡ false) (λ (m : Member). not (nat_eq (number_of m) number) ≡ true) (λ m e. ap not e) members (none_numbered number members is)))) alike
alike_case number used members (Some m) is numbers uses alike =
    let f : IsFound (λ (x : Member). heads.has_number number x.1) members m = found (λ (x : Member). heads.has_number number x.1) members m is in
    let left : List Member = f.split.before in
    let right : List Member = f.split.behind in
    let less : AreAlike (rooms.without (use_of m) used) (map used_of (left ++ right)) =
    room_less left m right used (subst (AreApart use_of) f.split.is uses) (subst (λ (xs : List Member). AreAlike used (map used_of xs)) f.split.is alike) in
    let rest : beside (Some number) members ≡ left ++ right =
    ap (beside (Some number)) f.split.is
    ∙ filter_less (λ (y : Member). not (nat_eq (number_of y) number)) left m right (ap not f.passes)
    (all_weaken (λ (y : Member). nat_eq (number_of y) number ≡ false) (λ (y : Member). not (nat_eq (number_of y) number) ≡ true) (λ y e. ap not e) (left ++ right)
    (others_numbered number m (left ++ right) f.passes (apart_others number_of left m right (subst (AreApart number_of) f.split.is numbers)))) in
    subst (λ (xs : List Member). AreAlike (rooms.without (use_of m) used) (map used_of xs)) (sym rest) less

alike_beside : (stale : Option ℕ) (used : List Used) (members : List Member) → AreApart number_of members → AreApart use_of members → AreAlike used (map used_of members)
    → AreAlike (others (last_use stale members) used) (map used_of (beside stale members))
alike_beside None used members numbers uses alike = alike
alike_beside (Some number) used members numbers uses alike = alike_case number used members (at_number number members) refl numbers uses alike

apart_case : (own : Member → ℕ) (b : Bool) (m : Member) (members : List Member) → AllByRecursion (λ (y : Member). nat_eq (own m) (own y) ≡ false) members → AreApart own members → AreApart own (cond b (m ∷ members) members)
apart_case own true m members others_ rest = (others_, rest)
apart_case own false m members others_ rest = rest

apart_left : (own : Member → ℕ) (test : Member → Bool) (members : List Member) → AreApart own members → AreApart own (filter test members)
apart_left own test [] apart = tt
apart_left own test (m ∷ members) apart =
    apart_case own (test m) m (filter test members) (all_left (λ (y : Member). nat_eq (own m) (own y) ≡ false) test members apart.0) (apart_left own test members apart.1)

all_beside : (P : Member → Type 0) (stale : Option ℕ) (members : List Member) → AllByRecursion P members → AllByRecursion P (beside stale members)
all_beside P None members all = all
all_beside P (Some number) members all = all_left P (λ (m : Member). not (nat_eq (number_of m) number)) members all

apart_beside : (own : Member → ℕ) (stale : Option ℕ) (members : List Member) → AreApart own members → AreApart own (beside stale members)
apart_beside own None members apart = apart
apart_beside own (Some number) members apart = apart_left own (λ (m : Member). not (nat_eq (number_of m) number)) members apart

-- ---- who goes

ones : {X : Type 0} (xs : List X) → sum_by (λ x. 1) xs ≡ length xs
ones [] = refl
ones (x ∷ xs) = let all = sum_by-cons (λ y. 1) x xs in let rest = ones xs in omega (arith, all, rest)

module _ (room size : ℕ) (used : List Used) (those : List Member) (alike : AreAlike used (map used_of those)) where
  from_same : (own : ℕ) → sizes_late (filter (is_used_from_late own) (map placed_of those)) ≡ from own used
  from_same own =
      ap sizes_late (filter_of_map (is_used_from_late own) placed_of those) ∙ sum_of_map (λ (p : Placed). size_of p.view.object) placed_of (filter (λ (m : Member). nat_le own (use_of m)) those)
      ∙ sym (alike_filter (λ (x : Used). nat_le own x.0) used (map used_of those) alike weight
      ∙ ap (sum_by weight) (filter_of_map (λ (x : Used). nat_le own x.0) used_of those) ∙ sum_of_map weight used_of (filter (λ (m : Member). nat_le own (use_of m)) those))

  outweighs_so : (m : Member) → outweighs_late room size (map placed_of those) (placed_of m) ≡ goes room size used (used_of m)
  outweighs_so m = ap (λ (n : ℕ). nat_lt room (n + size)) (from_same (use_of m))

  count_displaced : length (displaced_late room size (map placed_of those)) ≡ length (filter (goes room size used) used)
  count_displaced =
      ap length (filter_of_map (outweighs_late room size (map placed_of those)) placed_of those) ∙ length_of_map placed_of (filter (λ (m : Member). outweighs_late room size (map placed_of those) (placed_of m)) those)
      ∙ ap length (filter_on (λ (m : Member). outweighs_late room size (map placed_of those) (placed_of m)) (λ (m : Member). goes room size used (used_of m)) those (each _ outweighs_so those))
      ∙ sym (length_of_map used_of (filter (λ (m : Member). goes room size used (used_of m)) those)) ∙ ap length (sym (filter_of_map (goes room size used) used_of those))
      ∙ sym (ones (filter (goes room size used) (map used_of those))) ∙ sym (alike_filter (goes room size used) used (map used_of those) alike (λ x. 1)) ∙ ones (filter (goes room size used) used)

  -- the handle of one is among those of the first where it goes
  handle_goes : (handles : List ℕ) → handles ≡ rooms.handles_of (filter (goes room size used) used) → AreApart handle_of those
      → AllByRecursion (λ (m : Member). list_any (nat_eq (handle_of m)) handles ≡ goes room size used (used_of m)) those
  handle_goes handles are apart =
      all_weaken (λ (m : Member). list_any (λ (y : Member). goes room size used (used_of y) && nat_eq (handle_of m) (handle_of y)) those ≡ goes room size used (used_of m))
      (λ (m : Member). list_any (nat_eq (handle_of m)) handles ≡ goes room size used (used_of m))
      (λ m is.
      ap (list_any (nat_eq (handle_of m))) are
      ∙ any_of_map (nat_eq (handle_of m)) (λ (w : Weighed). w.handle) (map (λ (x : Used). x.1) (filter (goes room size used) used))
      ∙ any_of_map (λ (w : Weighed). nat_eq (handle_of m) w.handle) (λ (x : Used). x.1) (filter (goes room size used) used)
      ∙ any_of_filter (λ (x : Used). nat_eq (handle_of m) x.1.handle) (goes room size used) used
      ∙ any_alike (λ (x : Used). goes room size used x && nat_eq (handle_of m) x.1.handle) used (map used_of those) alike
      ∙ any_of_map (λ (x : Used). goes room size used x && nat_eq (handle_of m) x.1.handle) used_of those ∙ is) those
      (passes_itself handle_of (λ (m : Member). goes room size used (used_of m)) those apart)

all_placed : (P : Placed → Type 0) (members : List Member) → AllByRecursion (λ (m : Member). P (placed_of m)) members → AllByRecursion P (map placed_of members)
all_placed P [] all = tt
all_placed P (m ∷ members) all = (all.0, all_placed P members all.1)

lacks_case : (room size count : ℕ) → size ≤ room → count ≤ most_displaced → (nat_lt room size || nat_lt most_displaced count) ≡ false
lacks_case room size count holds few = rw (le-ltb room size holds, le-ltb most_displaced count few) refl

or_true : (b : Bool) → (b || true) ≡ true
or_true true = refl
or_true false = refl

length_sizes : (xs : List Used) → length (rooms.sizes_of xs) ≡ length xs
length_sizes xs = length_of_map (λ (w : Weighed). w.size) (map (λ (x : Used). x.1) xs) ∙ length_of_map (λ (x : Used). x.1) xs

module _ (room size : ℕ) (stale : Option ℕ) (members : List Member) (used : List Used) (numbers : AreApart number_of members) (uses : AreApart use_of members) (alike : AreAlike used (map used_of members)) (order : rooms.AreInOrder used) where
  abbrev all : List Used
  all = others (last_use stale members) used

  abbrev those : List Member
  those = beside stale members

  both : AreAlike all (map used_of those)
  both = alike_beside stale used members numbers uses alike

  rises : AreRising all
  rises = rising_others (last_use stale members) used (rising used order)

  count_made : (count : ℕ) → MakesRoom room size (rooms.sizes_of all) count → length (displaced_late room size (map placed_of those)) ≡ count
  count_made count made =
      let long = length_sizes all in
      count_displaced room size all those both ∙ ap length (filter_goes room size all count rises made) ∙ length-take-le count all (omega (arith, made.within, long))

  pub out_displaced : (handles : List ℕ) → AreApart handle_of members → AreOut room size all handles → AreDisplaced room size stale (map placed_of members) (numbers_at members handles)
  out_displaced handles apart out =
      let beside_ : others_late stale (map placed_of members) ≡ map placed_of those = others_beside stale members in
      let are : handles ≡ rooms.handles_of (filter (goes room size all) all) = out.first ∙ ap rooms.handles_of (sym (filter_goes room size all (length handles) rises out.least)) in
      let count : length (displaced_late room size (map placed_of those)) ≡ length handles = count_made (length handles) out.least in
      let few : length (displaced_late room size (map placed_of those)) ≤ most_displaced = omega (arith, count, out.few) in
      let own : AllByRecursion (λ (m : Member). list_any (nat_eq (number_of m)) (numbers_at members handles) ≡ list_any (nat_eq (handle_of m)) handles) those =
      all_beside (λ (m : Member). list_any (nat_eq (number_of m)) (numbers_at members handles) ≡ list_any (nat_eq (handle_of m)) handles) stale members
      (all_weaken (IsOwn members) (λ (m : Member). list_any (nat_eq (number_of m)) (numbers_at members handles) ≡ list_any (nat_eq (handle_of m)) handles) (λ m is. any_number members m handles is) members
      (each_own members apart numbers)) in
      record {
        made = ap (lacks_room room size) beside_ ∙ lacks_case room size (length (displaced_late room size (map placed_of those))) (omega (arith, out.least.fits)) few;
        those =
            subst (λ (xs : List Placed). AllByRecursion (λ (p : Placed). is_one_of (numbers_at members handles) p ≡ outweighs_late room size xs p) xs) (sym beside_)
            (all_placed (λ (p : Placed). is_one_of (numbers_at members handles) p ≡ outweighs_late room size (map placed_of those) p) those
            (all_two (λ (m : Member). list_any (nat_eq (number_of m)) (numbers_at members handles) ≡ list_any (nat_eq (handle_of m)) handles)
            (λ (m : Member). list_any (nat_eq (handle_of m)) handles ≡ goes room size all (used_of m))
            (λ (m : Member). is_one_of (numbers_at members handles) (placed_of m) ≡ outweighs_late room size (map placed_of those) (placed_of m))
            (λ m one two. one ∙ two ∙ sym (outweighs_so room size all those both m)) those own
            (handle_goes room size all those both handles are (apart_beside handle_of stale members apart))));
        stored = λ number none_.
            no_number members number handles
            (all_weaken (λ (m : Member). nat_eq (number_of m) number ≡ false) (λ (m : Member). nat_eq number (number_of m) ≡ false) (λ m e. eq_turned number (number_of m) ∙ e) members
            (unnumbered number members none_));
      }

  lack_many : (holds : size ≤ room) → LackRoom room size all → lacks_room room size (map placed_of those) ≡ true
  lack_many holds lack =
      let some = some_count room size (rooms.sizes_of all) holds in
      let many = lack some.0 some.1 in
      let count = count_made some.0 some.1 in
      ap (λ (b : Bool). nat_lt room size || b) (lt-ltb most_displaced (length (displaced_late room size (map placed_of those))) (omega (arith, count, many))) ∙ or_true (nat_lt room size)

  lack_small : room < size → lacks_room room size (map placed_of those) ≡ true
  lack_small small = ap (λ (b : Bool). b || nat_lt most_displaced (length (displaced_late room size (map placed_of those)))) (lt-ltb room size small)

  pub lack_displaced : LackRoom room size all → lacks_room room size (others_late stale (map placed_of members)) ≡ true
  lack_displaced lack =
      ap (lacks_room room size) (others_beside stale members) ∙ ⊎_elim (λ small. lack_small small) (λ holds. lack_many holds lack) (cases_lt room size)
