-- A sound state stays sound, whatever entries come; so the state that a run's entries reach is sound.
use Rattle.std.proofs.Common.{◌≡◌, ◌≢◌, ℕ, Bool, true, false, not, List, [], ◌∷◌, ◌+◌, ◌<◌, ◌≤◌, ◌==◌, ◌⊎◌, inl, inr, refl, arith, sym, ap, ◌∙◌, subst}
use Rattle.std.specs.List.{AllByRecursion}
use Rattle.std.proofs.lemmas.Bool.{true≢false, cases_eq, eq-eqb, ne_eqb, or_left, or_right}
use Rattle.std.proofs.Math.Nat.{lt_of_not-le}
use Rattle.cache_law.specs.declared.setting.Params.{Params}
use Rattle.cache_law.specs.declared.setting.Boot.{Boot}
use Rattle.cache_law.specs.declared.call.Call.{Call}
use Rattle.cache_law.specs.declared.call.Call.TheVariants.{Begin, Draw, Lookup, Pick, Insert, Ban, BanList, Purge, Xkey, SetHealth, Load, Switch, Discard, VclList, Drop, End}
use Rattle.cache_law.specs.declared.call.Entry.{Entry}
use Rattle.cache_law.specs.declared.state.OpenFetch.{OpenFetch}
use Rattle.cache_law.specs.declared.vcl.Vcl.{Vcl}
use Rattle.cache_law.specs.declared.vcl.LoadedVcl.{LoadedVcl}
use Rattle.cache_law.specs.State.{State, Held, at_moment, has_round, has_fetch, is_closed, is_open}
use Rattle.cache_law.specs.Room.{AreUsedApart}
use Rattle.cache_law.specs.Beginning.{Beginning, base_of}
use Rattle.cache_law.specs.Law.{Step, answered, refused}
use Rattle.cache_law.specs.History.{next_state, reached_from, reached}
use Rattle.cache_law.specs.BanHistories.{IsAmong}
use Rattle.cache_law.specs.BansAtOnce.{AwaitIssued, open_lines}
use Rattle.cache_law.specs.ShownBans.{ShowsBans}
use Rattle.cache_law.specs.RoundVcls.{IsOneOf}
use Rattle.cache_law.specs.Bases.{AreFalling, AreNumberedApart, IsBase, IsSound}
use Rattle.cache_law.proofs.Growth.{after_grows, behind_either}
use Rattle.cache_law.proofs.Held.{all-weaken}
use Rattle.cache_law.proofs.Leaves.{either, looked_leaf, inserted_leaf, picked_leaf, health_leaf, loaded_leaf, switched_leaf, discarded_leaf}
use Rattle.cache_law.proofs.Listed.{at_await, await_from}
use Rattle.cache_law.proofs.WaitingBans.{all_bans_shown}
use Rattle.cache_law.proofs.Present.{one_if, count, HeldOnce, once_after, once_at, one_of, same_held}
use Rattle.cache_law.proofs.Uses.{UsedOnce, uses, used_apart, used_at, used_from}
use Rattle.cache_law.proofs.VclsRise.{VclsRise, rise_from}
use Rattle.cache_law.proofs.RoundVcls.{ActiveIsThere, active_from}

-- ---- numbers and last uses

one_if_most : (b : Bool) → one_if b ≤ 1
one_if_most true = omega arith
one_if_most false = omega arith

count_zero : (n : ℕ) (objects : List Held) → AllByRecursion (λ (held : Held). held.view.number ≡ n → ⊥) objects → count n objects ≤ 0
count_zero n [] none_ = omega arith
count_zero n (held ∷ objects) none_ =
    let here : one_if (held.view.number == n) ≡ one_if false = ap one_if (ne_eqb held.view.number n none_.0) in omega (arith, here, count_zero n objects none_.1)

count_apart : (n : ℕ) (objects : List Held) → AreNumberedApart objects → count n objects ≤ 1
count_apart n [] apart = omega arith
count_apart n (held ∷ objects) apart = by_number (cases_eq held.view.number n) (count_apart n objects apart.1)
  where
    by_number : (held.view.number ≡ n) ⊎ (held.view.number ≡ n → ⊥) → count n objects ≤ 1 → count n (held ∷ objects) ≤ 1
    by_number (inl same) rest =
        let none_ = count_zero n objects (all-weaken (λ (other : Held). held.view.number ≢ other.view.number) (λ (other : Held). other.view.number ≡ n → ⊥) (λ other differ e. differ (same ∙ sym e)) objects apart.0) in
        omega (arith, none_, one_if_most (held.view.number == n))
    by_number (inr other) rest =
        let here : one_if (held.view.number == n) ≡ one_if false = ap one_if (ne_eqb held.view.number n other) in omega (arith, here, rest)

uses_zero : (place : ℕ) (objects : List Held) → AllByRecursion (λ (held : Held). held.used ≡ place → ⊥) objects → uses place objects ≤ 0
uses_zero place [] none_ = omega arith
uses_zero place (held ∷ objects) none_ =
    let here : one_if (held.used == place) ≡ one_if false = ap one_if (ne_eqb held.used place none_.0) in omega (arith, here, uses_zero place objects none_.1)

uses_apart : (place : ℕ) (objects : List Held) → AreUsedApart objects → uses place objects ≤ 1
uses_apart place [] apart = omega arith
uses_apart place (held ∷ objects) apart = by_use (cases_eq held.used place) (uses_apart place objects apart.1)
  where
    by_use : (held.used ≡ place) ⊎ (held.used ≡ place → ⊥) → uses place objects ≤ 1 → uses place (held ∷ objects) ≤ 1
    by_use (inl same) rest =
        let none_ = uses_zero place objects (all-weaken (λ (other : Held). held.used ≢ other.used) (λ (other : Held). other.used ≡ place → ⊥) (λ other differ e. differ (same ∙ sym e)) objects apart.0) in
        omega (arith, none_, one_if_most (held.used == place))
    by_use (inr other) rest =
        let here : one_if (held.used == place) ≡ one_if false = ap one_if (ne_eqb held.used place other) in omega (arith, here, rest)

unopened_of : (next n : ℕ) (fetches : List OpenFetch) → AllByRecursion (λ (fetch : OpenFetch). fetch.token < next) fetches → next ≤ n → is_open fetches n ≡ false
unopened_of next n [] all above = refl
unopened_of next n (fetch ∷ fetches) all above =
    let other : fetch.token ≡ n → ⊥ = λ e. omega (arith, all.0, above, e) in
    rw (ne_eqb fetch.token n other, unopened_of next n fetches all.1 above) refl

-- in a sound state a number is held once at most
pub once_of_sound : (n : ℕ) (state : State) → IsSound state → HeldOnce n state
once_of_sound n state sound =
    record {
      once = count_apart n state.objects sound.apart;
      while_open = λ opened. count_zero n state.objects
          (all-weaken (λ (held : Held). is_closed state.fetches held.view.number ≡ true) (λ (held : Held). held.view.number ≡ n → ⊥)
          (λ held closed e. true≢false (sym closed ∙ ap not (ap (is_open state.fetches) e ∙ opened))) state.objects sound.stored);
      undrawn = λ above. count_zero n state.objects
          (all-weaken (λ (held : Held). held.view.number < state.next) (λ (held : Held). held.view.number ≡ n → ⊥) (λ held less e. omega (arith, less, above, e)) state.objects sound.drawn);
      unopened = λ above. unopened_of state.next n state.fetches sound.opened above;
    }

-- and a place was used once at most
used_of_sound : (state : State) → IsSound state → UsedOnce state
used_of_sound state sound =
    record {
      once = λ place. uses_apart place state.objects sound.uses;
      unused = λ place above. uses_zero place state.objects
          (all-weaken (λ (held : Held). held.used < state.entries) (λ (held : Held). held.used ≡ place → ⊥) (λ held less e. omega (arith, less, above, e)) state.objects sound.used);
    }

-- ---- the same, back

all_members : (P : Held → Type 0) (objects : List Held) → ((held : Held) → IsAmong held objects → P held) → AllByRecursion P objects
all_members P [] each = tt
all_members P (held ∷ objects) each = (each held (inl refl), all_members P objects (λ other among. each other (inr among)))

apart_of_counts : (objects : List Held) → ((n : ℕ) → count n objects ≤ 1) → AreNumberedApart objects
apart_of_counts [] once = tt
apart_of_counts (held ∷ objects) once =
    let here : one_if (held.view.number == held.view.number) ≡ one_if true = ap one_if (eq-eqb held.view.number held.view.number refl) in (
      all_members (λ (other : Held). held.view.number ≢ other.view.number) objects (λ other among e. omega (arith, here, one_of held.view.number other objects among (sym e), once held.view.number)),
      apart_of_counts objects (λ n. omega (arith, once n)),
    )

one_use : (place : ℕ) (held : Held) (objects : List Held) → IsAmong held objects → held.used ≡ place → 1 ≤ uses place objects
one_use place held [] among e = absurd among
one_use place held (other ∷ objects) (inl same) e =
    let here : one_if (other.used == place) ≡ one_if true = ap one_if (eq-eqb other.used place (sym (ap (λ (h : Held). h.used) same) ∙ e)) in omega (arith, here)
one_use place held (other ∷ objects) (inr among) e = omega (arith, one_use place held objects among e)

closed_of : (b : Bool) → (b ≡ true → ⊥) → not b ≡ true
closed_of true other = absurd (other refl)
closed_of false other = refl

opened_below : (whole : List OpenFetch) (next : ℕ) → ((n : ℕ) → next ≤ n → is_open whole n ≡ false) → (fetches : List OpenFetch) → ((n : ℕ) → is_open fetches n ≡ true → is_open whole n ≡ true)
    → AllByRecursion (λ (fetch : OpenFetch). fetch.token < next) fetches
opened_below whole next unopened [] within = tt
opened_below whole next unopened (fetch ∷ fetches) within =
    let own : is_open whole fetch.token ≡ true = within fetch.token (or_left (fetch.token == fetch.token) (is_open fetches fetch.token) (eq-eqb fetch.token fetch.token refl)) in (
      lt_of_not-le (λ above. true≢false (sym own ∙ unopened fetch.token above)),
      opened_below whole next unopened fetches (λ n e. within n (or_right (fetch.token == n) (is_open fetches n) e)),
    )

active_of : (vcl : Vcl) (loaded : LoadedVcl) (vcls : List LoadedVcl) → loaded.vcl ≡ vcl → loaded.is_discarded ≡ false → IsOneOf loaded vcls → IsOneOf (record { vcl = vcl; is_discarded = false }) vcls
active_of vcl loaded vcls own kept there =
    let same : loaded ≡ record { vcl = vcl; is_discarded = false } =
    ap (λ (v : Vcl). record { vcl = v; is_discarded = loaded.is_discarded }) own ∙ ap (λ (b : Bool). record { vcl = vcl; is_discarded = b }) kept in
    subst (λ (l : LoadedVcl). IsOneOf l vcls) same there

-- ---- bans

-- the bans fall, and one more is issued at most
abbrev Falls : State → State → Type 0
Falls old new = AreFalling (new.issued + 1) new.bans × (new.issued ≤ old.issued + 1)

abbrev FallsBehind : State → Step → Type 0
FallsBehind old step = Falls old step.state

falls : (room : ℕ) (state : State) (caller : ℕ) (call : Call) → AreFalling (state.issued + 1) state.bans → FallsBehind state (answered room state caller call)
falls room state caller call falling = by_call call
  where
    same : Falls state state
    same = (falling, omega arith)

    by_call : (call : Call) → FallsBehind state (answered room state caller call)
    by_call Begin = either (FallsBehind state) (has_round state.rounds caller) _ _ same same
    by_call Draw = either (FallsBehind state) (has_round state.rounds caller) _ _ same same
    by_call (Lookup query) =
        looked_leaf (FallsBehind state) state caller query same (record {
          misses = λ objects stale. same;
          hits = λ objects view. same;
          hits_miss = λ objects view. same;
          passes = λ objects view. same;
          graces = λ objects view. same;
          graces_alone = λ objects view. same;
          waits = λ objects token. same;
        })
    by_call (Pick vcl target word) = picked_leaf (FallsBehind state) state vcl target word same (λ place. same)
    by_call (Insert token object stale) =
        inserted_leaf (FallsBehind state) room state caller token object stale (record { opens_not = same; gone = same; late = same; full = same; stores = same })
    by_call (Ban ban) = ((omega arith, falling), omega arith)
    by_call BanList = same
    by_call (Purge key) = same
    by_call (Xkey keys soft) = same
    by_call (SetHealth backend given) = health_leaf (FallsBehind state) state backend given same same
    by_call (Load source) = loaded_leaf (FallsBehind state) state source same same
    by_call (Switch name) = switched_leaf (FallsBehind state) state name same (λ vcl. same)
    by_call (Discard name) = discarded_leaf (FallsBehind state) state name same same (λ number. same)
    by_call VclList = same
    by_call (Drop token) = either (FallsBehind state) (has_fetch state.fetches caller token) _ _ same same
    by_call End = either (FallsBehind state) (has_round state.rounds caller) _ _ same same

falls_refused : (state : State) (call : Call) → AreFalling (state.issued + 1) state.bans → Falls state (refused state call)
falls_refused state (Insert token object stale) falling = (falling, omega arith)
falls_refused state call falling = (falling, omega arith)

falls_next : (params : Params) (state : State) (entry : Entry) → AreFalling (state.issued + 1) state.bans → Falls state (next_state params state entry)
falls_next params state entry falling =
    behind_either (Falls state) entry.reply _ _ (falls_refused (at_moment entry.moment state) entry.call falling) (falls params.room (at_moment entry.moment state) entry.caller entry.call falling)

-- ---- entries

sound_by : (state : State) → state.next ≤ state.entries + 1 → state.issued ≤ state.entries → AreFalling (state.issued + 1) state.bans → AwaitIssued state.bans state.objects
    → ((n : ℕ) → HeldOnce n state) → UsedOnce state → VclsRise state → ActiveIsThere state → IsSound state
sound_by state drew issued falling waiting once spent rise is =
    record {
      drew = drew;
      issued = issued;
      falling = falling;
      waiting = waiting;
      apart = apart_of_counts state.objects (λ n. (once n).once);
      drawn = all_members (λ (held : Held). held.view.number < state.next) state.objects
          (λ held among. lt_of_not-le (λ above. omega (arith, (once held.view.number).undrawn above, one_of held.view.number held state.objects among refl)));
      stored = all_members (λ (held : Held). is_closed state.fetches held.view.number ≡ true) state.objects
          (λ held among. closed_of (is_open state.fetches held.view.number) (λ opened. omega (arith, (once held.view.number).while_open opened, one_of held.view.number held state.objects among refl)));
      uses = used_apart state.objects spent.once;
      used = all_members (λ (held : Held). held.used < state.entries) state.objects
          (λ held among. lt_of_not-le (λ above. omega (arith, spent.unused held.used above, one_use held.used held state.objects among refl)));
      opened = opened_below state.fetches state.next (λ n above. (once n).unopened above) state.fetches (λ n e. e);
      rising = rise.rising;
      loaded = rise.below;
      active = active_of state.active is.loaded state.vcls is.active is.kept is.there;
    }

rise_of_sound : (state : State) → IsSound state → VclsRise state
rise_of_sound state sound = record { rising = sound.rising; below = sound.loaded }

active_of_sound : (state : State) → IsSound state → ActiveIsThere state
active_of_sound state sound = record { loaded = record { vcl = state.active; is_discarded = false }; there = sound.active; active = refl; kept = refl }

pub sound_next : (params : Params) (state : State) (entry : Entry) → IsSound state → IsSound (next_state params state entry)
sound_next params state entry sound =
    let bans = falls_next params state entry sound.falling in
    let grows = after_grows params state entry.caller entry.moment entry.call entry.reply in
    sound_by (next_state params state entry) (omega (arith, grows.next, sound.drew)) (omega (arith, bans.1, sound.issued)) bans.0 (await_from params state (entry ∷ []) sound.waiting)
    (λ n. once_after n params state entry.caller entry.moment entry.call entry.reply (once_of_sound n state sound))
    (used_from params state (entry ∷ []) (λ n. once_of_sound n state sound) (used_of_sound state sound))
    (rise_from params state (entry ∷ []) (rise_of_sound state sound))
    (active_from params state (entry ∷ []) (active_of_sound state sound))

-- a sound state is sound as it is at any moment
pub sound_at : (moment : ℕ) (state : State) → IsSound state → IsSound (at_moment moment state)
sound_at moment state sound =
    let rise = rise_of_sound state sound in
    let is = active_of_sound state sound in
    sound_by (at_moment moment state) sound.drew sound.issued sound.falling (at_await state moment sound.waiting)
    (λ n. once_at n moment state (once_of_sound n state sound)) (used_at moment state (used_of_sound state sound))
    (record { rising = rise.rising; below = rise.below }) (record { loaded = is.loaded; there = is.there; active = is.active; kept = is.kept })

pub sound_from : (params : Params) (state : State) (entries : List Entry) → IsSound state → IsSound (reached_from params state entries)
sound_from params state [] sound = sound
sound_from params state (e ∷ es) sound = sound_from params (next_state params state e) es (sound_next params state e sound)

pub sound_boot : (boot : Boot) → IsSound (base_of boot)
sound_boot boot =
    record {
      drew = omega arith;
      issued = omega arith;
      falling = tt;
      waiting = tt;
      apart = tt;
      drawn = tt;
      stored = tt;
      uses = tt;
      used = tt;
      opened = tt;
      rising = (tt, tt);
      loaded = (omega arith, tt);
      active = inl refl;
    }

pub boot_is_base : (boot : Boot) → IsBase (base_of boot)
boot_is_base boot = record { sound = sound_boot boot; closed = record { rounds = refl; fetches = refl }; in_time = refl; needed = tt }

-- ---- what follows

-- each open fetch has a number that was drawn
pub open_is_drawn : (beginning : Beginning) (entries : List Entry) (token : ℕ) → IsSound beginning.base → is_open (reached beginning entries).fetches token ≡ true → token < (reached beginning entries).next
open_is_drawn beginning entries token sound opened =
    let state : State = reached beginning entries in
    lt_of_not-le (λ above. true≢false (sym opened ∙ (once_of_sound token state (sound_from beginning.params beginning.base entries sound)).unopened above))

-- no two objects have one number
pub own_numbers : (beginning : Beginning) (entries : List Entry) (one other : Held) → IsSound beginning.base → IsAmong one (reached beginning entries).objects → IsAmong other (reached beginning entries).objects
    → one.view.number ≡ other.view.number → one ≡ other
own_numbers beginning entries one other sound first second same =
    let state : State = reached beginning entries in
    same_held other.view.number one other state.objects (once_of_sound other.view.number state (sound_from beginning.params beginning.base entries sound)).once first second same refl

-- all bans that were issued show, at any moment, what objects have still to be tested on
pub bans_listed : (beginning : Beginning) (entries : List Entry) (moment : ℕ) → IsSound beginning.base
    → ShowsBans (reached beginning entries).bans (at_moment moment (reached beginning entries)).objects (open_lines (reached beginning entries).bans)
bans_listed beginning entries moment sound =
    let state : State = reached beginning entries in
    all_bans_shown state.bans (at_moment moment state).objects (at_await state moment (sound_from beginning.params beginning.base entries sound).waiting)
