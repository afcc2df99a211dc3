-- A cache that is reopened begins with what its shelf has left.
use Rattle.std.proofs.Common.{◌≡◌, ◌≤◌, ◌<◌, ◌+◌, ◌++◌, ◌⊎◌, inl, inr, ℕ, Bool, true, false, not, cond, List, [], ◌∷◌, ◌&&◌, ◌||◌, nat_lt, filter, map, refl, arith, sym, ap, ◌∙◌, subst}
use Rattle.std.specs.List.{list_any, AllByRecursion}
use Rattle.std.proofs.lemmas.Bool.{and_from, false≢true, le-ltb, ltb-false, true≢false}
use Rattle.cache_law.specs.declared.ban.BanLine.{BanLine}
use Rattle.cache_law.specs.declared.ban.Issued.{Issued}
use Rattle.cache_law.specs.declared.call.Entry.{Entry}
use Rattle.cache_law.specs.declared.object.Object.{Object}
use Rattle.cache_law.specs.declared.setting.Params.{Params}
use Rattle.cache_law.specs.Bases.{AreAlike, IsBase, IsClosed, IsSound}
use Rattle.cache_law.specs.Beginning.{Beginning}
use Rattle.cache_law.specs.History.{reached}
use Rattle.cache_law.specs.Segments.{from}
use Rattle.cache_law.specs.ShownBans.{those_open}
use Rattle.cache_law.specs.State.{Held, State, those_in_time}
use Rattle.cache_law.proofs.Held.{all-filter, all-map, all-weaken}
use Rattle.ban_lurker.specs.Looks.{is_above, is_alone, look_of}
use Rattle.cache_desk.specs.Stock.{with_stock}
use Rattle.cache_frame.specs.Shelves.{Reopens}
use Rattle.lazy_law.specs.Banning.{is_awaited_by, is_needed, needed_lines}
use Rattle.lazy_law.specs.Late.{desk_of}
use Rattle.lazy_law.specs.Placed.{Lazy, Placed, held_of, is_alive, is_dead, is_unswept, kept_bans, marked_at, seen, those_alive}
use Rattle.lazy_law.specs.Reopening.{reopened, state_of}
use Rattle.lazy_law.specs.Standing.{IsKnownBy, StandsAt}
use Rattle.lazy_law.specs.Stands.{Agrees, IsKept, IsWithin, Stands}
use Rattle.lazy_law.specs.Sweeping.{sweeping}
use Rattle.lazy_law.proofs.Filters.{all_pass, any_of_map, any_on, filter_all, filter_on, map_of_map}
use Rattle.lazy_law.proofs.Lurking.{none_waits}
use Rattle.lazy_law.proofs.Reopened as law
use Rattle.lazy_store.specs.Cutting.{with_needed}
use Rattle.lazy_store.specs.Lurking.{AreSwept}
use Rattle.lazy_store.specs.Tidying.{is_timely, swept_whole, with_timely}
use Rattle.lazy_store.specs.Uses.{AreUsedBefore}
use Rattle.lazy_store.proofs.Ties.{waits_longer}
use Rattle.lazy_insert.specs.Inserted.{IsTidied}
use Rattle.lazy_insert.proofs.Inserts.{still_before}
use Rattle.lazy_insert.proofs.Roomy.{dead_waits}
use Rattle.lazy_insert.proofs.Unseen.{tidied_at}
use Rattle.lazy_core.specs.Shelf.{StandsBehind, stock_in}
use Rattle.lazy_core.proofs.Lurks.{swept_on}

-- ---- lists

all_both : {X : Type 0} (P Q : X → Type 0) (xs : List X) → AllByRecursion P xs → AllByRecursion Q xs → AllByRecursion (λ x. P x × Q x) xs
all_both P Q [] one other = tt
all_both P Q (x ∷ xs) one other = ((one.0, other.0), all_both P Q xs one.1 other.1)

all_unmapped : (P Q : Placed → Type 0) (f : Placed → Placed) → ((p : Placed) → P (f p) → Q p) → (objects : List Placed) → AllByRecursion P (map f objects) → AllByRecursion Q objects
all_unmapped P Q f on [] all = tt
all_unmapped P Q f on (p ∷ objects) all = (on p all.0, all_unmapped P Q f on objects all.1)

-- what holds of each of these and each of those
all_turned : {X Y : Type 0} (Q : X → Y → Type 0) (xs : List X) (ys : List Y) → AllByRecursion (λ x. AllByRecursion (Q x) ys) xs → AllByRecursion (λ y. AllByRecursion (λ x. Q x y) xs) ys
all_turned Q xs [] all = tt
all_turned Q xs (y ∷ ys) all = (
  all-weaken (λ x. AllByRecursion (Q x) (y ∷ ys)) (λ x. Q x y) (λ x both. both.0) xs all,
  all_turned Q xs ys (all-weaken (λ x. AllByRecursion (Q x) (y ∷ ys)) (λ x. AllByRecursion (Q x) ys) (λ x both. both.1) xs all),
)

-- ---- objects that are in time and don't wait

-- it is in time, it was tested on all of the bans on objects alone, and on no more bans than were issued
record IsTidy (moment issued : ℕ) (bans : List Issued) (p : Placed) : Type 0 where
  timely : is_timely moment p ≡ true
  calm : is_unswept bans p ≡ false
  within : p.mark ≤ issued

turned_none : (a b : Bool) → (b ≡ true → a ≡ true) → a ≡ false → b ≡ false
turned_none a true more e = absurd (false≢true (sym e ∙ more refl))
turned_none a false more e = refl

alive_of : (moment issued : ℕ) (bans : List Issued) (p : Placed) → IsTidy moment issued bans p → is_alive moment bans p ≡ true
alive_of moment issued bans p is =
    and_from (is_timely moment p) (not (is_dead bans p)) is.timely (ap not (turned_none (is_unswept bans p) (is_dead bans p) (dead_waits bans p) is.calm))

-- it is so with a later mark
marked_tidy : (moment issued : ℕ) (bans : List Issued) (p : Placed) → IsTidy moment issued bans p → IsTidy moment issued bans (marked_at issued p)
marked_tidy moment issued bans p is =
    record {
      timely = is.timely;
      calm = turned_none (is_unswept bans p) (is_unswept bans (marked_at issued p)) (λ e. waits_longer p.mark issued bans is.within e) is.calm;
      within = omega arith;
    }

neither : (a b : Bool) → (a || b) ≡ false → (a ≡ false) × (b ≡ false)
neither true b e = absurd (true≢false e)
neither false b e = (refl, e)

open_step : (k c : Bool) (keep : BanLine → Bool) (test : Issued → Bool) (line : BanLine) (lines : List BanLine) → keep line ≡ k → line.completed ≡ c
    → (list_any test (those_open lines) ≡ false → list_any test (those_open (filter keep lines)) ≡ false) → list_any test (those_open (line ∷ lines)) ≡ false
    → list_any test (those_open (cond k (line ∷ filter keep lines) (filter keep lines))) ≡ false
open_step true true keep test line lines e done rest none = rw done (rest (rw done at none))
open_step true false keep test line lines e done rest none =
    let both = neither (test line.issued) (list_any test (those_open lines)) (rw done at none) in rw (done, both.0) (rest both.1)
open_step false true keep test line lines e done rest none = rest (rw done at none)
open_step false false keep test line lines e done rest none = rest (neither (test line.issued) (list_any test (those_open lines)) (rw done at none)).1

-- what no open line passes none of those passes that are left
none_left : (keep : BanLine → Bool) (test : Issued → Bool) (lines : List BanLine) → list_any test (those_open lines) ≡ false → list_any test (those_open (filter keep lines)) ≡ false
none_left keep test [] none = none
none_left keep test (line ∷ lines) none = open_step (keep line) line.completed keep test line lines refl refl (none_left keep test lines) none

fewer_tidy : (moment issued : ℕ) (keep : BanLine → Bool) (lines : List BanLine) (p : Placed) → IsTidy moment issued (those_open lines) p → IsTidy moment issued (those_open (filter keep lines)) p
fewer_tidy moment issued keep lines p is = record { timely = is.timely; calm = none_left keep (is_above p.mark) lines is.calm; within = is.within }

-- it was tested on all of the bans on objects alone
abbrev IsCalm : ℕ → List Issued → Placed → Type 0
IsCalm issued bans p = (is_unswept bans p ≡ false) × (p.mark ≤ issued)

sweeping_calm : (lazy : Lazy) (bans : List Issued) (p : Placed) (b : Bool) → IsKept lazy bans → is_unswept (kept_bans lazy) p ≡ b → p.mark ≤ lazy.issued → IsCalm lazy.issued (kept_bans lazy) (cond b (marked_at lazy.issued p) p)
sweeping_calm lazy bans p true kept e within = (none_waits lazy bans p kept, omega arith)
sweeping_calm lazy bans p false kept e within = (e, within)

all_calm : (lazy : Lazy) (bans : List Issued) → IsKept lazy bans → AllByRecursion (IsCalm lazy.issued (kept_bans lazy)) (swept_whole lazy).objects
all_calm lazy bans kept =
    let own : List Issued = kept_bans lazy in
    let stays : Placed → Bool = λ (p : Placed). not (is_unswept own p && is_dead own p) in
    all-map (IsWithin lazy.issued) (IsCalm lazy.issued own) (sweeping (is_unswept own) lazy.issued) (λ p is. sweeping_calm lazy bans p (is_unswept own p) kept refl is.mark) (filter stays lazy.objects)
    (all-filter (IsWithin lazy.issued) stays lazy.objects kept.within)

-- so all are that are left once those that wait were tested and those out of time are gone
all_tidy : (moment : ℕ) (lazy : Lazy) (bans : List Issued) → IsKept lazy bans → AllByRecursion (IsTidy moment lazy.issued (kept_bans lazy)) (with_timely moment (swept_whole lazy)).objects
all_tidy moment lazy bans kept =
    let own : List Issued = kept_bans lazy in
    let swept : List Placed = (swept_whole lazy).objects in
    let timely : Placed → Bool = is_timely moment in
    all-weaken (λ (p : Placed). (timely p ≡ true) × IsCalm lazy.issued own p) (IsTidy moment lazy.issued own) (λ p is. record { timely = is.0; calm = is.1.0; within = is.1.1 }) (filter timely swept)
    (all_both (λ (p : Placed). timely p ≡ true) (IsCalm lazy.issued own) (filter timely swept) (all_pass timely swept) (all-filter (IsCalm lazy.issued own) timely swept (all_calm lazy bans kept)))

-- ---- the lines that they need

-- an open line is no newer than the object's mark where it is on objects alone
abbrev IsBehind : Placed → BanLine → Type 0
IsBehind p line = line.completed ≡ false → is_above p.mark line.issued ≡ false

behind_step : (c : Bool) (p : Placed) (line : BanLine) (lines : List BanLine) → line.completed ≡ c → (list_any (is_above p.mark) (those_open lines) ≡ false → AllByRecursion (IsBehind p) lines)
    → list_any (is_above p.mark) (those_open (line ∷ lines)) ≡ false → AllByRecursion (IsBehind p) (line ∷ lines)
behind_step true p line lines done rest none = ((λ e. absurd (true≢false (sym done ∙ e))), rest (rw done at none))
behind_step false p line lines done rest none =
    let both = neither (is_above p.mark line.issued) (list_any (is_above p.mark) (those_open lines)) (rw done at none) in
    ((λ e. both.0), rest both.1)

all_behind : (p : Placed) (lines : List BanLine) → is_unswept (those_open lines) p ≡ false → AllByRecursion (IsBehind p) lines
all_behind p [] none = tt
all_behind p (line ∷ lines) none = behind_step line.completed p line lines refl (all_behind p lines) none

first_false : (a b : Bool) → b ≡ true → (a && b) ≡ false → a ≡ false
first_false true b e none = absurd (true≢false (sym e ∙ none))
first_false false b e none = refl

awaited_case : (alone : Bool) (issued : ℕ) (i : Issued) (p : Placed) → is_alone i ≡ alone → p.mark ≤ issued → is_above p.mark i ≡ false → is_awaited_by i (marked_at issued p) ≡ is_awaited_by i p
awaited_case true issued i p e within above =
    let not_newer : nat_lt p.mark i.number ≡ false = first_false (nat_lt p.mark i.number) (is_alone i) e above in
    let order : i.number ≤ p.mark = ltb-false p.mark i.number not_newer in
    ap (λ (b : Bool). cond b (nat_lt issued i.number) (nat_lt p.place i.number)) e
    ∙ le-ltb issued i.number (omega (arith, order, within)) ∙ sym not_newer
    ∙ sym (ap (λ (b : Bool). cond b (nat_lt p.mark i.number) (nat_lt p.place i.number)) e)
awaited_case false issued i p e within above =
    ap (λ (b : Bool). cond b (nat_lt issued i.number) (nat_lt p.place i.number)) e ∙ sym (ap (λ (b : Bool). cond b (nat_lt p.mark i.number) (nat_lt p.place i.number)) e)

needed_case : (c : Bool) (issued : ℕ) (objects : List Placed) (line : BanLine) → line.completed ≡ c → AllByRecursion (λ (p : Placed). (p.mark ≤ issued) × IsBehind p line) objects
    → is_needed (map (marked_at issued) objects) line ≡ is_needed objects line
needed_case true issued objects line done all = rw done refl
needed_case false issued objects line done all =
    ap (λ (b : Bool). not line.completed && b)
    (any_of_map (is_awaited_by line.issued) (marked_at issued) objects
    ∙ any_on (λ (p : Placed). is_awaited_by line.issued (marked_at issued p)) (is_awaited_by line.issued) objects
    (all-weaken (λ (p : Placed). (p.mark ≤ issued) × IsBehind p line) (λ (p : Placed). is_awaited_by line.issued (marked_at issued p) ≡ is_awaited_by line.issued p)
    (λ p is. awaited_case (is_alone line.issued) issued line.issued p refl is.0 (is.1 done)) objects all))

-- a later mark of such objects needs the same lines
needed_same : (moment issued : ℕ) (objects : List Placed) (lines : List BanLine) → AllByRecursion (IsTidy moment issued (those_open lines)) objects → needed_lines (map (marked_at issued) objects) lines ≡ needed_lines objects lines
needed_same moment issued objects lines all =
    filter_on (is_needed (map (marked_at issued) objects)) (is_needed objects) lines
    (all-weaken (λ (line : BanLine). AllByRecursion (λ (p : Placed). (p.mark ≤ issued) × IsBehind p line) objects) (λ (line : BanLine). is_needed (map (marked_at issued) objects) line ≡ is_needed objects line)
    (λ line is. needed_case line.completed issued objects line refl is) lines
    (all_turned (λ (p : Placed) (line : BanLine). (p.mark ≤ issued) × IsBehind p line) objects lines
    (all-weaken (IsTidy moment issued (those_open lines)) (λ (p : Placed). AllByRecursion (λ (line : BanLine). (p.mark ≤ issued) × IsBehind p line) lines)
    (λ p is. all-weaken (IsBehind p) (λ (line : BanLine). (p.mark ≤ issued) × IsBehind p line) (λ line behind. (is.within, behind)) lines (all_behind p lines is.calm)) objects all)))

-- ---- what is left

all_seen : (moment issued : ℕ) (bans : List Issued) (objects : List Placed) → AllByRecursion (IsTidy moment issued bans) objects → seen moment bans objects ≡ map (held_of bans) objects
all_seen moment issued bans objects all =
    ap (map (held_of bans)) (filter_all (is_alive moment bans) objects (all-weaken (IsTidy moment issued bans) (λ (p : Placed). is_alive moment bans p ≡ true) (alive_of moment issued bans) objects all))

all_agree : (own : List Issued) (objects : List Placed) → AllByRecursion (Agrees own own) objects
all_agree own [] = tt
all_agree own (p ∷ objects) = (record { on_objects = λ test alike mark less. refl; on_requests = λ test alike place less. refl }, all_agree own objects)

-- Of a tidy store, the lines are left that its objects need: as the law has it, which also moves the objects' marks.
module _ (params : Params) (state : State) (lazy : Lazy) (sound : IsSound state) (closed : IsClosed state) (stands : Stands lazy state)
    (tidy : AllByRecursion (IsTidy state.moment lazy.issued (kept_bans lazy)) lazy.objects) where
  abbrev next : Lazy
  next = reopened state.moment lazy

  -- with the law's lines, and the marks as they are
  abbrev left : Lazy
  left = record lazy { lines = next.lines }

  abbrev base : State
  base = state_of (desk_of state) next

  objects_are : next.objects ≡ map (marked_at lazy.issued) lazy.objects
  objects_are =
      ap (map (marked_at lazy.issued)) (filter_all (is_alive state.moment (kept_bans lazy)) lazy.objects
      (all-weaken (IsTidy state.moment lazy.issued (kept_bans lazy)) (λ (p : Placed). is_alive state.moment (kept_bans lazy) p ≡ true) (alive_of state.moment lazy.issued (kept_bans lazy)) lazy.objects tidy))

  lines_are : next.lines ≡ needed_lines lazy.objects lazy.lines
  lines_are = ap (λ (objects : List Placed). needed_lines objects lazy.lines) objects_are ∙ needed_same state.moment lazy.issued lazy.objects lazy.lines tidy

  still_tidy : AllByRecursion (IsTidy state.moment lazy.issued (kept_bans next)) lazy.objects
  still_tidy = all-weaken (IsTidy state.moment lazy.issued (kept_bans lazy)) (IsTidy state.moment lazy.issued (kept_bans next)) (λ p is. fewer_tidy state.moment lazy.issued (is_needed next.objects) lazy.lines p is) lazy.objects tidy

  seen_left : seen state.moment (kept_bans next) next.objects ≡ map (held_of (kept_bans next)) lazy.objects
  seen_left =
      let own : List Issued = kept_bans next in
      let marked : List Placed = map (marked_at lazy.issued) lazy.objects in
      ap (seen state.moment own) objects_are
      ∙ all_seen state.moment lazy.issued own marked (all-map (IsTidy state.moment lazy.issued own) (IsTidy state.moment lazy.issued own) (marked_at lazy.issued) (marked_tidy state.moment lazy.issued own) lazy.objects still_tidy)
      ∙ map_of_map (held_of own) (marked_at lazy.issued) lazy.objects

  base_is : with_stock (stock_in left) state ≡ base
  base_is = ap (λ (objects : List Held). record state { issued = lazy.issued; bans = kept_bans next; objects = objects }) (sym seen_left)

  by_law : law.Reopens params state lazy
  by_law = law.reopens params state lazy sound closed stands

  known_left : AllByRecursion (IsKnownBy (look_of (from params base) [])) lazy.objects
  known_left =
      all_unmapped (IsKnownBy (look_of (from params base) [])) (IsKnownBy (look_of (from params base) [])) (marked_at lazy.issued) (λ p is mark less. is lazy.issued (omega arith)) lazy.objects
      (subst (AllByRecursion (IsKnownBy (look_of (from params base) []))) objects_are by_law.stands.looks)

  stands_left : StandsAt left (from params base) []
  stands_left =
      let own : List Issued = kept_bans next in
      record {
        stands = record {
          count = by_law.stands.stands.count;
          kept = record {
            falling = by_law.stands.stands.kept.falling;
            listed = by_law.stands.stands.kept.listed;
            within = stands.kept.within;
            agrees = all_agree own lazy.objects;
          };
          same = by_law.stands.stands.same ∙ seen_left ∙ sym (all_seen state.moment lazy.issued own lazy.objects still_tidy);
        };
        looks = known_left;
        unborn = by_law.stands.unborn;
      }

  left_is : with_needed lazy ≡ left
  left_is = ap (λ (lines : List BanLine). record lazy { lines = lines }) (sym lines_are)

-- what is left begins a history
pub reopens : (old swept tidied new : Lazy) (moment : ℕ) → AreSwept old swept → swept ≡ swept_whole old → tidied ≡ with_timely moment swept → new ≡ with_needed tidied
    → (beginning : Beginning) (entries : List Entry) → IsSound (reached beginning entries) → StandsBehind old beginning entries → (reached beginning entries).moment ≡ moment → IsClosed (reached beginning entries) → Reopens StandsBehind new (stock_in new) beginning entries
reopens old swept tidied new moment only whole is needs beginning entries sound stands at_ closed =
    let state : State = reached beginning entries in
    let timely : tidied ≡ with_timely state.moment swept = subst (λ (m : ℕ). tidied ≡ with_timely m swept) (sym at_) is in
    let between : StandsBehind swept beginning entries = swept_on old swept only beginning entries sound stands in
    let gone : IsTidied state.moment swept tidied = inr (record { numbers = []; is = timely }) in
    let there : StandsAt tidied beginning entries = tidied_at beginning entries swept tidied gone between.stands in
    let tidy : AllByRecursion (IsTidy state.moment tidied.issued (kept_bans tidied)) tidied.objects =
    subst (λ (l : Lazy). AllByRecursion (IsTidy state.moment l.issued (kept_bans l)) l.objects) (sym (timely ∙ ap (with_timely state.moment) whole)) (all_tidy state.moment old state.bans stands.stands.stands.kept) in
    let uses : AreUsedBefore state.entries tidied.objects = still_before state.entries state.moment swept tidied gone between.uses in
    let left_ : Lazy = left beginning.params state tidied sound closed there.stands tidy in
    let base_ : with_stock (stock_in left_) state ≡ base beginning.params state tidied sound closed there.stands tidy = base_is beginning.params state tidied sound closed there.stands tidy in
    let law_ : law.Reopens beginning.params state tidied = by_law beginning.params state tidied sound closed there.stands tidy in
    subst (λ (l : Lazy). Reopens StandsBehind l (stock_in l) beginning entries) (sym (needs ∙ left_is beginning.params state tidied sound closed there.stands tidy))
    (record {
      base = subst IsBase (sym base_) law_.base;
      alike = subst (λ (s : State). AreAlike s state) (sym base_) law_.alike;
      stands = record {
        stands = subst (λ (s : State). StandsAt left_ (from beginning.params s) []) (sym base_) (stands_left beginning.params state tidied sound closed there.stands tidy);
        uses = uses;
      };
    })
