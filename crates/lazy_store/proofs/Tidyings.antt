-- Objects that aren't in time go one after another, and so do sweeps of those that wait.
use Rattle.std.proofs.Common.{◌≡◌, ◌≤◌, ◌<◌, ◌+◌, ◌≤ℤ◌, ◌<ℤ◌, ℕ, ℤ, pos, Bool, true, false, not, cond, List, [], ◌∷◌, ◌++◌, ◌&&◌, ◌||◌, Option, Some, filter, map, length, nat_eq, refl, arith, sym, ap, ◌∙◌, subst}
use Rattle.std.specs.Prelude.{option_map}
use Rattle.std.specs.List.{list_any, AllByRecursion}
use Rattle.std.specs.Int.Signed.{lt_z}
use Rattle.std.specs.Map.{lookup}
use Rattle.std.specs.Ordering.{int_eq}
use Rattle.std.proofs.lemmas.Bool.{and_from, and_parts, eqb-true, false≢true}
use Rattle.std.proofs.lemmas.Bool.Decides.{Decides-int_eq}
use Rattle.std.proofs.lemmas.Int.{ints}
use Rattle.object_heads.specs.declared.item.Item.{Item}
use Rattle.room_lru.specs.Ends.{EndsFirst, has_end}
use Rattle.room_lru.specs.Members.{Used}
use Rattle.lazy_law.specs.Placed.{Lazy, Placed, is_dead, is_unswept, kept_bans, marked_at}
use Rattle.lazy_law.specs.Insertion.{has_number, others_late}
use Rattle.lazy_law.specs.Sweeping.{count_unswept, swept_lazy}
use Rattle.lazy_law.proofs.Filters.{any_none, any_of_map, each, filter_both, filter_on}
use Rattle.lazy_store.specs.declared.placement.Placement.{Placement}
use Rattle.lazy_store.specs.Lurking.{is_waiting_as}
use Rattle.lazy_store.specs.Members.{Member, end_of, handle_of, number_in, number_of, placed_of, used_of}
use Rattle.lazy_store.specs.Numbered.{number_at}
use Rattle.lazy_store.specs.Tidying.{is_ended_as, is_timely, swept_whole, with_timely}
use Rattle.lazy_store.specs.Tied.{AreAlike, AreApart}
use Rattle.lazy_store.proofs.Found.{own_eq}
use Rattle.lazy_store.proofs.Numbers.{looked_own}
use Rattle.lazy_store.proofs.Splits.{IsThere, all_fail, all_here, all_more, all_weaken, any_alike, count_among, filter_all, map_all, one_if, there}
use Rattle.lazy_store.proofs.Sweeps.{others_of}

-- ---- which aren't in time

before_end : (moment end : ℤ) → moment <ℤ end → lt_z moment end ≡ true
before_end moment end less = grind (arith, ints)

behind_end : (moment end : ℤ) → end ≤ℤ moment → lt_z moment end ≡ false
behind_end moment end less = grind (arith, ints)

not_false : (b : Bool) → not b ≡ false → b ≡ true
not_false true e = refl
not_false false e = absurd (false≢true (sym e))

timely_members : (moment : ℕ) (members : List Member) → AllByRecursion (λ (x : Used). not (lt_z (pos moment) x.1.end) ≡ false) (map used_of members)
    → AllByRecursion (λ (p : Placed). is_timely moment p ≡ true) (map placed_of members)
timely_members moment [] all = tt
timely_members moment (m ∷ members) all = (not_false (lt_z (pos moment) (end_of m.1.view.object)) all.0, timely_members moment members all.1)

pub all_timely : (moment : ℕ) (room : List Used) (members : List Member) → AreAlike room (map used_of members) → AllByRecursion (λ (x : Used). pos moment <ℤ x.1.end) room
    → AllByRecursion (λ (p : Placed). is_timely moment p ≡ true) (map placed_of members)
all_timely moment room members alike all =
    let over : Used → Bool = λ (x : Used). not (lt_z (pos moment) x.1.end) in
    timely_members moment members
    (all_fail over (map used_of members)
    (sym (any_alike over room (map used_of members) alike)
    ∙ any_none over room (all_weaken (λ (x : Used). pos moment <ℤ x.1.end) (λ (x : Used). over x ≡ false) (λ x less. ap not (before_end (pos moment) x.1.end less)) room all)))

any_at : {X : Type 0} (test : X → Bool) (before : List X) (x : X) (behind : List X) → test x ≡ true → list_any test (before ++ x ∷ behind) ≡ true
any_at test [] x behind e = ap (λ (b : Bool). b || list_any test behind) e
any_at test (y ∷ before) x behind e = ap (λ (b : Bool). test y || b) (any_at test before x behind e) ∙ or_true (test y)
  where
    or_true : (b : Bool) → (b || true) ≡ true
    or_true true = refl
    or_true false = refl

-- one of the handle, which isn't in time
pub record IsOver (moment handle : ℕ) (members : List Member) : Type 0 where
  pub number : ℕ
  pub at : number_at members handle ≡ Some number
  pub ended : list_any (is_ended_as moment number) (map placed_of members) ≡ true

pub one_over : (moment handle : ℕ) (end : ℤ) (room : List Used) (members : List Member) → AreApart handle_of members → AreAlike room (map used_of members) → EndsFirst moment room (end, handle)
    → IsOver moment handle members
one_over moment handle end room members apart alike first =
    let has : Member → Bool = λ (m : Member). has_end (end, handle) (used_of m) in
    let t : IsThere has members = there has members (sym (any_of_map (has_end (end, handle)) used_of members) ∙ sym (any_alike (has_end (end, handle)) room (map used_of members) alike) ∙ first.there) in
    let m : Member = t.one in
    let parts = and_parts (int_eq (end_of m.1.view.object) end) (nat_eq (handle_of m) handle) t.found_.passes in
    let same : handle_of m ≡ handle = eqb-true (handle_of m) handle parts.1 in
    let its : end_of m.1.view.object ≡ end = (Decides-int_eq (end_of m.1.view.object) end).0 parts.0 in
    let looked : lookup (nat_eq (handle_of m)) members ≡ Some m.1 =
    all_here (λ (x : Member). lookup (nat_eq (handle_of x)) members ≡ Some x.1) t.found_.split.before m t.found_.split.behind
    (subst (AllByRecursion (λ (x : Member). lookup (nat_eq (handle_of x)) members ≡ Some x.1)) t.found_.split.is (looked_own members apart)) in
    let over : lt_z (pos moment) (end_of m.1.view.object) ≡ false = ap (lt_z (pos moment)) its ∙ behind_end (pos moment) end first.over in
    record {
      number = number_of m;
      at = ap (option_map (λ (item : Item Placement). item.view.number)) (subst (λ (n : ℕ). lookup (nat_eq n) members ≡ Some m.1) same looked);
      ended =
          any_of_map (is_ended_as moment (number_of m)) placed_of members
          ∙ ap (list_any (λ (x : Member). is_ended_as moment (number_of m) (placed_of x))) t.found_.split.is
          ∙ any_at (λ (x : Member). is_ended_as moment (number_of m) (placed_of x)) t.found_.split.before m t.found_.split.behind
          (and_from (nat_eq (number_of m) (number_of m)) (not (lt_z (pos moment) (end_of m.1.view.object))) (own_eq (number_of m)) (ap not over));
    }

-- ---- the one of a number, of which no two have one

only_case : (b c : Bool) → b ≡ false → b ≡ true → c ≡ true
only_case b c e f = absurd (false≢true (sym e ∙ f))

pub only_one : (number : ℕ) (test : Placed → Bool) (objects : List Placed) → AreApart number_in objects → list_any (λ (p : Placed). has_number number p && test p) objects ≡ true
    → AllByRecursion (λ (p : Placed). has_number number p ≡ true → test p ≡ true) objects
only_one number test objects apart is =
    let t : IsThere (λ (p : Placed). has_number number p && test p) objects = there (λ (p : Placed). has_number number p && test p) objects is in
    let parts = and_parts (has_number number t.one) (test t.one) t.found_.passes in
    let others : AllByRecursion (λ (p : Placed). has_number number p ≡ false) (t.found_.split.before ++ t.found_.split.behind) =
    others_of number t.found_.split.before t.one t.found_.split.behind (subst (AreApart number_in) t.found_.split.is apart) parts.0 in
    subst (AllByRecursion (λ (p : Placed). has_number number p ≡ true → test p ≡ true)) (sym t.found_.split.is)
    (all_more (λ (p : Placed). has_number number p ≡ true → test p ≡ true) t.found_.split.before t.one t.found_.split.behind (λ e. parts.1)
    (all_weaken (λ (p : Placed). has_number number p ≡ false) (λ (p : Placed). has_number number p ≡ true → test p ≡ true) (λ p e. only_case (has_number number p) (test p) e)
    (t.found_.split.before ++ t.found_.split.behind) others))

-- ---- it goes

gone_case : (b timely : Bool) → (b ≡ true → not timely ≡ true) → (not b && timely) ≡ timely
gone_case true true over = absurd (false≢true (over refl))
gone_case true false over = refl
gone_case false timely over = refl

pub timely_still : (moment number : ℕ) (lazy : Lazy) → AreApart number_in lazy.objects → list_any (is_ended_as moment number) lazy.objects ≡ true
    → with_timely moment (record lazy { objects = others_late (Some number) lazy.objects }) ≡ with_timely moment lazy
timely_still moment number lazy apart is =
    ap (λ (objects : List Placed). record lazy { objects = objects })
    (filter_both (is_timely moment) (λ (p : Placed). not (has_number number p)) lazy.objects
    ∙ filter_on (λ (p : Placed). not (has_number number p) && is_timely moment p) (is_timely moment) lazy.objects
    (all_weaken (λ (p : Placed). has_number number p ≡ true → not (is_timely moment p) ≡ true) (λ (p : Placed). (not (has_number number p) && is_timely moment p) ≡ is_timely moment p)
    (λ p over. gone_case (has_number number p) (is_timely moment p) over) lazy.objects (only_one number (λ (p : Placed). not (is_timely moment p)) lazy.objects apart is)))

short_case : (b : Bool) (rest more : ℕ) → rest ≤ more → one_if b + rest ≤ more + 1
short_case true rest more less = omega (arith, less)
short_case false rest more less = omega (arith, less)

short : {X : Type 0} (test : X → Bool) (x : X) (xs : List X) → length (filter test xs) ≤ length xs → one_if (test x) + length (filter test xs) ≤ length (x ∷ xs)
short test x xs less = let all = short_case (test x) (length (filter test xs)) (length xs) less in omega (arith, all)

not_longer : {X : Type 0} (test : X → Bool) (xs : List X) → length (filter test xs) ≤ length xs
not_longer test [] = omega arith
not_longer test (x ∷ xs) = let all = short test x xs (not_longer test xs) in let among = count_among test [] x xs in omega (arith, all, among)

long_among : {X : Type 0} (before : List X) (x : X) (behind : List X) → length (before ++ x ∷ behind) ≡ length (before ++ behind) + 1
long_among [] x behind = omega arith
long_among (y ∷ before) x behind = let rest = long_among before x behind in omega (arith, rest)

pub fewer_objects : (moment number : ℕ) (objects : List Placed) → list_any (is_ended_as moment number) objects ≡ true → length (others_late (Some number) objects) < length objects
fewer_objects moment number objects is =
    let t : IsThere (is_ended_as moment number) objects = there (is_ended_as moment number) objects is in
    let parts = and_parts (has_number number t.one) (not (is_timely moment t.one)) t.found_.passes in
    let other : Placed → Bool = λ (p : Placed). not (has_number number p) in
    let all : length (filter other objects) ≡ length (filter other (t.found_.split.before ++ t.one ∷ t.found_.split.behind)) = ap (λ (xs : List Placed). length (filter other xs)) t.found_.split.is in
    let among = count_among other t.found_.split.before t.one t.found_.split.behind in
    let none_ : one_if (other t.one) ≡ 0 = ap (λ (b : Bool). one_if (not b)) parts.0 in
    let rest = not_longer other (t.found_.split.before ++ t.found_.split.behind) in
    let whole : length objects ≡ length (t.found_.split.before ++ t.one ∷ t.found_.split.behind) = ap length t.found_.split.is in
    let long = long_among t.found_.split.before t.one t.found_.split.behind in
    omega (arith, all, among, none_, rest, whole, long)

pub timely_whole : (moment : ℕ) (lazy : Lazy) → AllByRecursion (λ (p : Placed). is_timely moment p ≡ true) lazy.objects → lazy ≡ with_timely moment lazy
timely_whole moment lazy all = ap (λ (objects : List Placed). record lazy { objects = objects }) (sym (filter_all (is_timely moment) lazy.objects all))

-- ---- a sweep of one, and then of all that wait

module _ (one all dead : Placed → Bool) (mark : Placed → Placed) where
  abbrev sweep : (Placed → Bool) → List Placed → List Placed
  sweep chosen objects = map (λ (p : Placed). cond (chosen p) (mark p) p) (filter (λ (p : Placed). not (chosen p && dead p)) objects)

  spared : (chosen : Placed → Bool) (p : Placed) (objects : List Placed) → chosen p ≡ false → sweep chosen (p ∷ objects) ≡ p ∷ sweep chosen objects
  spared chosen p objects e =
      let rest : List Placed = filter (λ (q : Placed). not (chosen q && dead q)) objects in
      ap (λ (b : Bool). map (λ (q : Placed). cond (chosen q) (mark q) q) (cond (not (b && dead p)) (p ∷ rest) rest)) e
      ∙ ap (λ (b : Bool). cond b (mark p) p ∷ sweep chosen objects) e

  falls : (chosen : Placed → Bool) (p : Placed) (objects : List Placed) → chosen p ≡ true → dead p ≡ true → sweep chosen (p ∷ objects) ≡ sweep chosen objects
  falls chosen p objects e d =
      let rest : List Placed = filter (λ (q : Placed). not (chosen q && dead q)) objects in
      ap (λ (b : Bool). map (λ (q : Placed). cond (chosen q) (mark q) q) (cond (not (b && dead p)) (p ∷ rest) rest)) e
      ∙ ap (λ (b : Bool). map (λ (q : Placed). cond (chosen q) (mark q) q) (cond (not b) (p ∷ rest) rest)) d

  marked : (chosen : Placed → Bool) (p : Placed) (objects : List Placed) → chosen p ≡ true → dead p ≡ false → sweep chosen (p ∷ objects) ≡ mark p ∷ sweep chosen objects
  marked chosen p objects e d =
      let rest : List Placed = filter (λ (q : Placed). not (chosen q && dead q)) objects in
      ap (λ (b : Bool). map (λ (q : Placed). cond (chosen q) (mark q) q) (cond (not (b && dead p)) (p ∷ rest) rest)) e
      ∙ ap (λ (b : Bool). map (λ (q : Placed). cond (chosen q) (mark q) q) (cond (not b) (p ∷ rest) rest)) d
      ∙ ap (λ (b : Bool). cond b (mark p) p ∷ sweep chosen objects) e

  twice_case : (p : Placed) (objects : List Placed) (n u d : Bool) → one p ≡ n → all p ≡ u → dead p ≡ d → (n ≡ true → u ≡ true) → all (mark p) ≡ false
      → sweep all (sweep one objects) ≡ sweep all objects → sweep all (sweep one (p ∷ objects)) ≡ sweep all (p ∷ objects)
  twice_case p objects true true true a b c on done rest = ap (sweep all) (falls one p objects a c) ∙ rest ∙ sym (falls all p objects b c)
  twice_case p objects true true false a b c on done rest =
      ap (sweep all) (marked one p objects a c) ∙ spared all (mark p) (sweep one objects) done ∙ ap (λ (xs : List Placed). mark p ∷ xs) rest ∙ sym (marked all p objects b c)
  twice_case p objects true false d a b c on done rest = absurd (false≢true (on refl))
  twice_case p objects false true true a b c on done rest =
      ap (sweep all) (spared one p objects a) ∙ falls all p (sweep one objects) b c ∙ rest ∙ sym (falls all p objects b c)
  twice_case p objects false true false a b c on done rest =
      ap (sweep all) (spared one p objects a) ∙ marked all p (sweep one objects) b c ∙ ap (λ (xs : List Placed). mark p ∷ xs) rest ∙ sym (marked all p objects b c)
  twice_case p objects false false d a b c on done rest =
      ap (sweep all) (spared one p objects a) ∙ spared all p (sweep one objects) b ∙ ap (λ (xs : List Placed). p ∷ xs) rest ∙ sym (spared all p objects b)

  pub swept_twice : (objects : List Placed) → AllByRecursion (λ (p : Placed). one p ≡ true → all p ≡ true) objects → ((p : Placed) → all (mark p) ≡ false) → sweep all (sweep one objects) ≡ sweep all objects
  swept_twice [] on done = refl
  swept_twice (p ∷ objects) on done = twice_case p objects (one p) (all p) (dead p) refl refl refl on.0 (done p) (swept_twice objects on.1 done)

pub whole_still : (number : ℕ) (lazy : Lazy) → AreApart number_in lazy.objects → ((p : Placed) → is_unswept (kept_bans lazy) (marked_at lazy.issued p) ≡ false)
    → list_any (is_waiting_as number (kept_bans lazy)) lazy.objects ≡ true → swept_whole (swept_lazy (has_number number) lazy) ≡ swept_whole lazy
whole_still number lazy apart done is =
    ap (λ (objects : List Placed). record lazy { objects = objects })
    (swept_twice (has_number number) (is_unswept (kept_bans lazy)) (is_dead (kept_bans lazy)) (marked_at lazy.issued) lazy.objects
    (only_one number (is_unswept (kept_bans lazy)) lazy.objects apart is) done)

none_case : (b : Bool) (rest : ℕ) → one_if b + rest ≡ 0 → b ≡ false
none_case true rest e = absurd (omega (arith, e))
none_case false rest e = refl

none_pass : {X : Type 0} (test : X → Bool) (xs : List X) → length (filter test xs) ≡ 0 → AllByRecursion (λ x. test x ≡ false) xs
none_pass test [] e = tt
none_pass test (x ∷ xs) e =
    let among = count_among test [] x xs in
    (none_case (test x) (length (filter test xs)) (omega (arith, among, e)), none_pass test xs (omega (arith, among, e)))

pub whole_none : (lazy : Lazy) → count_unswept lazy ≡ 0 → lazy ≡ swept_whole lazy
whole_none lazy none_ =
    let unswept : Placed → Bool = is_unswept (kept_bans lazy) in
    let all : AllByRecursion (λ (p : Placed). unswept p ≡ false) lazy.objects = none_pass unswept lazy.objects none_ in
    ap (λ (objects : List Placed). record lazy { objects = objects })
    (sym (ap (map (λ (p : Placed). cond (unswept p) (marked_at lazy.issued p) p))
    (filter_all (λ (p : Placed). not (unswept p && is_dead (kept_bans lazy) p)) lazy.objects
    (all_weaken (λ (p : Placed). unswept p ≡ false) (λ (p : Placed). not (unswept p && is_dead (kept_bans lazy) p) ≡ true) (λ p e. ap (λ (b : Bool). not (b && is_dead (kept_bans lazy) p)) e) lazy.objects all))
    ∙ map_all (λ (p : Placed). cond (unswept p) (marked_at lazy.issued p) p) lazy.objects
    (all_weaken (λ (p : Placed). unswept p ≡ false) (λ (p : Placed). cond (unswept p) (marked_at lazy.issued p) p ≡ p) (λ p e. ap (λ (b : Bool). cond b (marked_at lazy.issued p) p) e) lazy.objects all)))
