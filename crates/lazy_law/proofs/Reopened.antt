-- What is kept where a history begins again stands for its base, which is alike to the state before.
use Rattle.std.proofs.Common.{◌≡◌, ◌≢◌, ◌≤◌, ◌<◌, ◌+◌, ◌⊎◌, ℕ, Bool, true, false, not, cond, List, [], ◌∷◌, nat_lt, Some, None, map, inl, inr, refl, arith, sym, ap, ◌∙◌, subst}
use Rattle.std.specs.List.{list_any, AllByRecursion}
use Rattle.std.proofs.lemmas.Bool.{false≢true, true≢false, and_from, and_parts, eq-eqb, le-ltb, ne_eqb, not_from_false, or_cases}
use Rattle.cache_law.specs.declared.ban.BanLine.{BanLine}
use Rattle.cache_law.specs.declared.ban.Issued.{Issued}
use Rattle.cache_law.specs.declared.setting.Params.{Params}
use Rattle.cache_law.specs.declared.state.OpenFetch.{OpenFetch}
use Rattle.cache_law.specs.Bases.{AreAlike, AreHeldAlike, AreNumberedApart, IsAwaited, IsBase, IsClosed, IsIn, IsSound}
use Rattle.cache_law.specs.BansAtOnce.{AwaitIssued}
use Rattle.cache_law.specs.Room.{AreUsedApart}
use Rattle.cache_law.specs.Segments.{from}
use Rattle.cache_law.specs.ShownBans.{IsPartOf, has_newer, those_open}
use Rattle.cache_law.specs.State.{Held, State, as_seen, is_closed, is_open, those_in_time}
use Rattle.cache_law.proofs.AlikeHistories.{part_of_part}
use Rattle.cache_law.proofs.Cut.{part_falling}
use Rattle.cache_law.proofs.Held.{all-weaken}
use Rattle.cache_law.proofs.Sound.{sound_at}
use Rattle.ban_lurker.specs.Looks.{held_under, is_alone}
use Rattle.lazy_law.specs.Placed.{Lazy, Placed, above, held_of, is_alive, is_since, kept_bans, seen, since, those_alive, tidied}
use Rattle.lazy_law.specs.Banning.{is_awaited_by, is_needed}
use Rattle.lazy_law.specs.Stands.{Agrees, IsKept, IsWithin, Stands}
use Rattle.lazy_law.specs.Standing.{IsUnborn, StandsAt}
use Rattle.lazy_law.specs.Reopening.{reopened, state_of}
use Rattle.lazy_law.specs.Late.{desk_of}
use Rattle.lazy_law.proofs.Agreeing.{same_alive}
use Rattle.lazy_law.proofs.Cutting.{IsUnneeded, LeavesOut, all_left_agree, filtered_out, part_left}
use Rattle.lazy_law.proofs.Filters.{all_pass, filter_all}
use Rattle.lazy_law.proofs.Keeping.{keep_tidied}
use Rattle.lazy_law.proofs.Lines.{bans_of}
use Rattle.lazy_law.proofs.Making.{all_alive, tidied_seen}
use Rattle.lazy_law.proofs.Numbers.{AreUpTo, up_to}
use Rattle.lazy_law.proofs.Seen.{seen_again}
use Rattle.lazy_law.proofs.Shown.{all_in}
use Rattle.lazy_law.proofs.Staying.{agreeing_stays, nothing_above, standing, stays_within}
use Rattle.lazy_law.proofs.Thinned.{filter_part, held_alike, in_filtered, open_part}

-- ---- lines that are needed are open

needed_open : (objects : List Placed) (line : BanLine) → is_needed objects line ≡ true → line.completed ≡ false
needed_open objects line e = by_done line.completed refl (and_parts (not line.completed) (list_any (is_awaited_by line.issued) objects) e).0
  where
    by_done : (b : Bool) → line.completed ≡ b → not line.completed ≡ true → line.completed ≡ false
    by_done true d n = absurd (false≢true (sym (ap not d) ∙ n))
    by_done false d n = d

all_open : (objects : List Placed) (lines : List BanLine) → AllByRecursion (λ (line : BanLine). is_needed objects line ≡ true) lines → those_open lines ≡ bans_of lines
all_open objects lines all =
    ap bans_of (filter_all (λ (line : BanLine). not line.completed) lines
    (all-weaken (λ (line : BanLine). is_needed objects line ≡ true) (λ line. not line.completed ≡ true) (λ line e. not_from_false line.completed (needed_open objects line e)) lines all))

own_part : (bans : List Issued) → IsPartOf bans bans
own_part [] = tt
own_part (i ∷ bans) = inl (refl, own_part bans)

none_completed : (objects : List Placed) (some lines : List BanLine) → AllByRecursion (λ (line : BanLine). is_needed objects line ≡ true) lines → AllByRecursion (λ (line : BanLine). line.completed ≡ true → has_newer some line ≡ true) lines
none_completed objects some lines all =
    all-weaken (λ (line : BanLine). is_needed objects line ≡ true) (λ line. line.completed ≡ true → has_newer some line ≡ true) (λ line e done. absurd (true≢false (sym done ∙ needed_open objects line e))) lines all

-- ---- what is kept of what was kept

all_needed : (lazy : Lazy) (moment : ℕ) → AllByRecursion (λ (line : BanLine). is_needed (reopened moment lazy).objects line ≡ true) (reopened moment lazy).lines
all_needed lazy moment = all_pass (is_needed (reopened moment lazy).objects) lazy.lines

left_out : (lazy : Lazy) (moment : ℕ) → LeavesOut (IsUnneeded (reopened moment lazy).objects) (reopened moment lazy).lines lazy.lines
left_out lazy moment = filtered_out (IsUnneeded (reopened moment lazy).objects) (is_needed (reopened moment lazy).objects) (λ line e. e) lazy.lines

-- it is right for all bans
reopened_kept : (lazy : Lazy) (moment : ℕ) (bans : List Issued) → IsKept lazy bans → IsKept (reopened moment lazy) bans
reopened_kept lazy moment bans kept =
    let next : Lazy = reopened moment lazy in
    record {
      falling = kept.falling;
      listed = record {
        part = part_of_part (bans_of next.lines) (bans_of lazy.lines) bans (part_left (IsUnneeded next.objects) next.lines lazy.lines (left_out lazy moment)) kept.listed.part;
        completed = none_completed next.objects next.lines next.lines (all_needed lazy moment);
      };
      within = keep_tidied lazy.issued (IsWithin lazy.issued) (stays_within lazy.issued) moment (kept_bans lazy) lazy.objects kept.within;
      agrees = all_left_agree next.lines lazy.lines bans next.objects (left_out lazy moment)
          (keep_tidied lazy.issued (Agrees (kept_bans lazy) bans) (agreeing_stays lazy bans kept) moment (kept_bans lazy) lazy.objects kept.agrees);
    }

-- each object is alive, by all bans and by those that are kept
tidy_alive : (lazy : Lazy) (moment : ℕ) (bans : List Issued) → IsKept lazy bans → those_alive moment bans (reopened moment lazy).objects ≡ (reopened moment lazy).objects
tidy_alive lazy moment bans kept =
    let same : tidied moment (kept_bans lazy) lazy.issued lazy.objects ≡ tidied moment bans lazy.issued lazy.objects = ap (map (λ (p : Placed). record p { mark = lazy.issued })) (same_alive moment (kept_bans lazy) bans lazy.objects kept.agrees) in
    subst (λ (objects : List Placed). those_alive moment bans objects ≡ objects) (sym same)
    (filter_all (is_alive moment bans) (tidied moment bans lazy.issued lazy.objects) (all_alive moment bans lazy.issued lazy.objects (nothing_above lazy bans kept)))

all_seen : (lazy : Lazy) (moment : ℕ) (bans : List Issued) → IsKept lazy bans → seen moment bans lazy.objects ≡ map (held_of bans) (reopened moment lazy).objects
all_seen lazy moment bans kept =
    tidied_seen moment bans lazy.issued lazy.objects ∙ ap (λ (alive : List Placed). map (held_of bans) (map (λ (p : Placed). record p { mark = lazy.issued }) alive)) (sym (same_alive moment (kept_bans lazy) bans lazy.objects kept.agrees))

own_seen : (lazy : Lazy) (moment : ℕ) (bans : List Issued) → IsKept lazy bans → seen moment (kept_bans (reopened moment lazy)) (reopened moment lazy).objects ≡ map (held_of (kept_bans (reopened moment lazy))) (reopened moment lazy).objects
own_seen lazy moment bans kept =
    let next : Lazy = reopened moment lazy in
    ap (map (held_of (kept_bans next))) (same_alive moment (kept_bans next) bans next.objects (reopened_kept lazy moment bans kept).agrees ∙ tidy_alive lazy moment bans kept)

own_bans : (lazy : Lazy) (moment : ℕ) → kept_bans (reopened moment lazy) ≡ bans_of (reopened moment lazy).lines
own_bans lazy moment = all_open (reopened moment lazy).objects (reopened moment lazy).lines (all_needed lazy moment)

kept_part : (lazy : Lazy) (bans : List Issued) → IsKept lazy bans → IsPartOf (kept_bans lazy) bans
kept_part lazy bans kept = part_of_part (kept_bans lazy) (bans_of lazy.lines) bans (open_part lazy.lines) kept.listed.part

-- it is right for its own bans
kept_alone : (lazy : Lazy) (moment : ℕ) (bans : List Issued) → IsKept lazy bans → IsKept (reopened moment lazy) (kept_bans (reopened moment lazy))
kept_alone lazy moment bans kept =
    let next : Lazy = reopened moment lazy in
    let is : IsKept next bans = reopened_kept lazy moment bans kept in
    record {
      falling = part_falling (lazy.issued + 1) (kept_bans next) bans (kept_part next bans is) kept.falling;
      listed = record { part = subst (λ (those : List Issued). IsPartOf (bans_of next.lines) those) (sym (own_bans lazy moment)) (own_part (bans_of next.lines)); completed = is.listed.completed };
      within = is.within;
      agrees = agree_alone (kept_bans next) next.objects;
    }
  where
    agree_alone : (own : List Issued) (objects : List Placed) → AllByRecursion (Agrees own own) objects
    agree_alone own [] = tt
    agree_alone own (p ∷ objects) = (record { on_objects = λ test alike mark less. refl; on_requests = λ test alike place less. refl }, agree_alone own objects)

-- ---- what the law's state says of objects, whichever bans wait

all_held : (P : Held → Type 0) (one other : List Issued) → ((p : Placed) → P (held_of one p) → P (held_of other p)) → (objects : List Placed) → AllByRecursion P (map (held_of one) objects) → AllByRecursion P (map (held_of other) objects)
all_held P one other on [] all = tt
all_held P one other on (p ∷ objects) all = (on p all.0, all_held P one other on objects all.1)

numbered_so : (one other : List Issued) (objects : List Placed) → AreNumberedApart (map (held_of one) objects) → AreNumberedApart (map (held_of other) objects)
numbered_so one other [] apart = tt
numbered_so one other (p ∷ objects) apart =
    (all_held (λ (held : Held). p.view.number ≢ held.view.number) one other (λ q e. e) objects apart.0, numbered_so one other objects apart.1)

used_so : (one other : List Issued) (objects : List Placed) → AreUsedApart (map (held_of one) objects) → AreUsedApart (map (held_of other) objects)
used_so one other [] apart = tt
used_so one other (p ∷ objects) apart = (all_held (λ (held : Held). p.used ≢ held.used) one other (λ q e. e) objects apart.0, used_so one other objects apart.1)

all_await : (own : List Issued) (objects : List Placed) → AwaitIssued own (map (held_of own) objects)
all_await own [] = tt
all_await own (p ∷ objects) = (filter_part (is_since p.place) own, all_await own objects)

all_timely : (moment : ℕ) (own : List Issued) (objects : List Placed) → those_in_time moment (seen moment own objects) ≡ seen moment own objects
all_timely moment own objects = seen_again moment own objects

-- ---- each ban waits for an object

abbrev IsMarked : ℕ → Placed → Type 0
IsMarked issued p = issued ≤ p.mark

all_marked : (issued : ℕ) (objects : List Placed) → AllByRecursion (IsMarked issued) (map (λ (p : Placed). record p { mark = issued }) objects)
all_marked issued [] = tt
all_marked issued (p ∷ objects) = (omega arith, all_marked issued objects)

waits_for : (issued : ℕ) (own : List Issued) (x : Issued) (p : Placed) (alone : Bool) → is_alone x ≡ alone → x.number ≤ issued → issued ≤ p.mark → IsIn x own → cond alone (nat_lt p.mark x.number) (nat_lt p.place x.number) ≡ true → IsIn x (since p.place own)
waits_for issued own x p true e most marked among waits = absurd (false≢true (sym (le-ltb p.mark x.number (omega (arith, most, marked))) ∙ waits))
waits_for issued own x p false e most marked among waits = in_filtered (is_since p.place) x own among (and_from (nat_lt p.place x.number) (not (is_alone x)) waits (ap not e))

one_waits : (issued : ℕ) (own : List Issued) (x : Issued) (objects : List Placed) → x.number ≤ issued → AllByRecursion (IsMarked issued) objects → IsIn x own → list_any (is_awaited_by x) objects ≡ true → IsAwaited x (map (held_of own) objects)
one_waits issued own x [] most marked among e = absurd (false≢true e)
one_waits issued own x (p ∷ objects) most marked among e = by_first (one_waits issued own x objects most marked.1 among) (or_cases (is_awaited_by x p) (list_any (is_awaited_by x) objects) e)
  where
    by_first : (list_any (is_awaited_by x) objects ≡ true → IsAwaited x (map (held_of own) objects)) → (is_awaited_by x p ≡ true) ⊎ (list_any (is_awaited_by x) objects ≡ true) → IsIn x (since p.place own) ⊎ IsAwaited x (map (held_of own) objects)
    by_first behind (inl here) = inl (waits_for issued own x p (is_alone x) refl most marked.0 among here)
    by_first behind (inr there) = inr (behind there)

bans_wait : (issued : ℕ) (own : List Issued) (objects : List Placed) (lines : List BanLine) → AllByRecursion (λ (line : BanLine). is_needed objects line ≡ true) lines → AreUpTo issued (bans_of lines) → AllByRecursion (IsMarked issued) objects
    → AllByRecursion (λ (x : Issued). IsIn x own) (bans_of lines) → AllByRecursion (λ (x : Issued). IsAwaited x (map (held_of own) objects)) (bans_of lines)
bans_wait issued own objects [] needed most marked among = tt
bans_wait issued own objects (line ∷ lines) needed most marked among =
    (one_waits issued own line.issued objects most.0 marked among.0 (and_parts (not line.completed) (list_any (is_awaited_by line.issued) objects) needed.0).1, bans_wait issued own objects lines needed.1 most.1 marked among.1)

-- ---- the base

-- the state but for how many bans were issued, which is the same
abbrev base_by : State → Lazy → ℕ → State
base_by state lazy count =
    record state { issued = count; bans = kept_bans lazy; objects = seen state.moment (kept_bans lazy) lazy.objects }

base_is : (state : State) (lazy : Lazy) → IsSound state → IsClosed state → Stands lazy state → IsBase (base_by state (reopened state.moment lazy) state.issued)
base_is state lazy sound closed stands =
    let moment : ℕ = state.moment in
    let next : Lazy = reopened moment lazy in
    let own : List Issued = kept_bans next in
    let bans : List Issued = state.bans in
    let kept : IsKept lazy bans = stands.kept in
    let is : IsKept next bans = reopened_kept lazy moment bans kept in
    let now : IsSound (as_seen state) = sound_at moment state sound in
    let objects : List Placed = next.objects in
    let law : those_in_time moment state.objects ≡ map (held_of bans) objects = stands.same ∙ all_seen lazy moment bans kept in
    let mine : map (held_of own) objects ≡ seen moment own objects = sym (own_seen lazy moment bans kept) in
    let up : AreUpTo lazy.issued (bans_of next.lines) = up_to (lazy.issued + 1) lazy.issued (bans_of next.lines) (omega arith) (part_falling (lazy.issued + 1) (bans_of next.lines) bans is.listed.part kept.falling) in
    record {
      sound = record {
        drew = sound.drew;
        issued = sound.issued;
        falling = part_falling (state.issued + 1) own bans (kept_part next bans is) sound.falling;
        waiting = subst (AwaitIssued own) mine (all_await own objects);
        apart = subst AreNumberedApart mine (numbered_so bans own objects (subst AreNumberedApart law now.apart));
        drawn = subst (AllByRecursion (λ (held : Held). held.view.number < state.next)) mine (all_held (λ held. held.view.number < state.next) bans own (λ q e. e) objects (subst (AllByRecursion (λ (held : Held). held.view.number < state.next)) law now.drawn));
        stored = subst (AllByRecursion (λ (held : Held). is_closed state.fetches held.view.number ≡ true)) mine
            (all_held (λ held. is_closed state.fetches held.view.number ≡ true) bans own (λ q e. e) objects (subst (AllByRecursion (λ (held : Held). is_closed state.fetches held.view.number ≡ true)) law now.stored));
        uses = subst AreUsedApart mine (used_so bans own objects (subst AreUsedApart law now.uses));
        used = subst (AllByRecursion (λ (held : Held). held.used < state.entries)) mine (all_held (λ held. held.used < state.entries) bans own (λ q e. e) objects (subst (AllByRecursion (λ (held : Held). held.used < state.entries)) law now.used));
        opened = sound.opened;
        rising = sound.rising;
        loaded = sound.loaded;
        active = sound.active;
      };
      closed = record { rounds = closed.rounds; fetches = closed.fetches };
      in_time = all_timely moment own objects;
      needed = subst (λ (those : List Issued). AllByRecursion (λ (x : Issued). IsAwaited x (seen moment own objects)) those) (sym (own_bans lazy moment))
          (subst (λ (helds : List Held). AllByRecursion (λ (x : Issued). IsAwaited x helds) (bans_of next.lines)) mine
          (bans_wait lazy.issued own objects next.lines (all_needed lazy moment) up (all_marked lazy.issued (those_alive moment (kept_bans lazy) lazy.objects))
          (subst (λ (those : List Issued). AllByRecursion (λ (x : Issued). IsIn x those) (bans_of next.lines)) (sym (own_bans lazy moment)) (all_in (λ x. IsIn x (bans_of next.lines)) (bans_of next.lines) (λ x among. among)))));
    }

base_alike : (state : State) (lazy : Lazy) → Stands lazy state → AreAlike (base_by state (reopened state.moment lazy) state.issued) state
base_alike state lazy stands =
    let moment : ℕ = state.moment in
    let next : Lazy = reopened moment lazy in
    let own : List Issued = kept_bans next in
    let bans : List Issued = state.bans in
    let kept : IsKept lazy bans = stands.kept in
    let is : IsKept next bans = reopened_kept lazy moment bans kept in
    let law : those_in_time moment state.objects ≡ map (held_of bans) next.objects = stands.same ∙ all_seen lazy moment bans kept in
    let mine : those_in_time moment (seen moment own next.objects) ≡ map (held_of own) next.objects = seen_again moment own next.objects ∙ own_seen lazy moment bans kept in
    record {
      rest = refl;
      bans = kept_part next bans is;
      objects = subst (λ (less : List Held). AreHeldAlike less (those_in_time moment state.objects)) (sym mine)
          (subst (AreHeldAlike (map (held_of own) next.objects)) (sym law) (held_alike (lazy.issued + 1) own bans next.objects (kept_part next bans is) kept.falling is.agrees));
    }

-- ---- how it looks at the beginning

found_first : (own : List Issued) (p q : Placed) (objects : List Placed) → (q.view.number ≢ p.view.number) → held_under p.view.number (map (held_of own) (q ∷ objects)) ≡ held_under p.view.number (map (held_of own) objects)
found_first own p q objects other = rw (ne_eqb q.view.number p.view.number other) refl

found_here : (own : List Issued) (p : Placed) (objects : List Placed) → held_under p.view.number (map (held_of own) (p ∷ objects)) ≡ Some p.view.object
found_here own p objects = rw (eq-eqb p.view.number p.view.number refl) refl

abbrev IsFound : List Issued → List Placed → Placed → Type 0
IsFound own objects p = held_under p.view.number (map (held_of own) objects) ≡ Some p.view.object

found_behind : (own : List Issued) (q : Placed) (objects some : List Placed) → AllByRecursion (λ (held : Held). q.view.number ≢ held.view.number) (map (held_of own) some) → AllByRecursion (IsFound own objects) some → AllByRecursion (IsFound own (q ∷ objects)) some
found_behind own q objects [] apart all = tt
found_behind own q objects (p ∷ some) apart all = (found_first own p q objects apart.0 ∙ all.0, found_behind own q objects some apart.1 all.1)

all_found : (own : List Issued) (objects : List Placed) → AreNumberedApart (map (held_of own) objects) → AllByRecursion (IsFound own objects) objects
all_found own [] apart = tt
all_found own (p ∷ objects) apart = (found_here own p objects, found_behind own p objects objects apart.0 (all_found own objects apart.1))

none_found : (next number : ℕ) (helds : List Held) → next ≤ number → AllByRecursion (λ (held : Held). held.view.number < next) helds → held_under number helds ≡ None
none_found next number [] above all = refl
none_found next number (held ∷ helds) above all = rw (ne_eqb held.view.number number (λ e. omega (arith, all.0, above, e))) (none_found next number helds above all.1)

unborn_there : (base : State) → IsBase base → (number : ℕ) → IsUnborn base number → held_under number base.objects ≡ None
unborn_there base is number (inl above) = none_found base.next number base.objects above is.sound.drawn
unborn_there base is number (inr opened) = absurd (false≢true (ap (λ (fetches : List OpenFetch). is_open fetches number) (sym is.closed.fetches) ∙ opened))

base_stands : (params : Params) (state : State) (lazy : Lazy) → IsSound state → IsClosed state → Stands lazy state → StandsAt (reopened state.moment lazy) (from params (base_by state (reopened state.moment lazy) state.issued)) []
base_stands params state lazy sound closed stands =
    let moment : ℕ = state.moment in
    let next : Lazy = reopened moment lazy in
    let own : List Issued = kept_bans next in
    let base : State = base_by state next state.issued in
    let is : IsBase base = base_is state lazy sound closed stands in
    let mine : seen moment own next.objects ≡ map (held_of own) next.objects = own_seen lazy moment state.bans stands.kept in
    record {
      stands = standing next moment state.issued own (seen moment own next.objects) stands.count (kept_alone lazy moment state.bans stands.kept) refl;
      looks = subst (λ (helds : List Held). AllByRecursion (λ (p : Placed). (mark : ℕ) → p.mark ≤ mark → held_under p.view.number helds ≡ Some p.view.object) next.objects) (sym mine)
          (all-weaken (IsFound own next.objects) (λ p. (mark : ℕ) → p.mark ≤ mark → held_under p.view.number (map (held_of own) next.objects) ≡ Some p.view.object) (λ p e mark less. e) next.objects
          (all_found own next.objects (subst AreNumberedApart mine is.sound.apart)));
      unborn = λ number unborn mark. unborn_there base is number unborn;
    }

-- ---- all three

pub record Reopens (params : Params) (state : State) (lazy : Lazy) : Type 0 where
  pub base : IsBase (state_of (desk_of state) (reopened state.moment lazy))
  pub alike : AreAlike (state_of (desk_of state) (reopened state.moment lazy)) state
  pub stands : StandsAt (reopened state.moment lazy) (from params (state_of (desk_of state) (reopened state.moment lazy))) []

pub reopens : (params : Params) (state : State) (lazy : Lazy) → IsSound state → IsClosed state → Stands lazy state → Reopens params state lazy
reopens params state lazy sound closed stands =
    let next : Lazy = reopened state.moment lazy in
    record {
      base = subst (λ (count : ℕ). IsBase (base_by state next count)) (sym stands.count) (base_is state lazy sound closed stands);
      alike = subst (λ (count : ℕ). AreAlike (base_by state next count) state) (sym stands.count) (base_alike state lazy stands);
      stands = subst (λ (count : ℕ). StandsAt next (from params (base_by state next count)) []) (sym stands.count) (base_stands params state lazy sound closed stands);
    }
