-- No two objects were last used at one place of the history.
use Rattle.std.proofs.Common.{◌≡◌, ◌≢◌, ℕ, Bool, true, false, not, cond, List, [], ◌∷◌, ◌+◌, ◌≤◌, ◌==◌, ◌⊎◌, Option, Some, None, filter, map, inl, inr, refl, arith, sym, ap}
use Rattle.std.specs.List.{AllByRecursion}
use Rattle.std.proofs.lemmas.Bool.{cases_eq, eq-eqb, ne_eqb}
use Rattle.cache_law.specs.declared.setting.Params.{Params}
use Rattle.cache_law.specs.declared.object.Object.{Object}
use Rattle.cache_law.specs.declared.ban.Issued.{Issued}
use Rattle.cache_law.specs.declared.call.Query.{Query}
use Rattle.cache_law.specs.declared.call.Call.{Call}
use Rattle.cache_law.specs.declared.call.Call.TheVariants.{Begin, Draw, Lookup, Pick, Insert, Ban, BanList, Purge, Xkey, SetHealth, Load, Switch, Discard, VclList, Drop, End}
use Rattle.cache_law.specs.declared.call.Entry.{Entry}
use Rattle.cache_law.specs.Object.{in_time, key_of, same_texts, size_of}
use Rattle.cache_law.specs.State.{State, Held, at_moment, those_in_time, has_round, has_fetch, without_stale}
use Rattle.cache_law.specs.Room.{AreUsedApart, outweighs, staying, stored_over}
use Rattle.cache_law.specs.BansAtOnce.{is_met, cleared, issued_behind, awaiting}
use Rattle.cache_law.specs.Bans.{matches, object_only}
use Rattle.cache_law.specs.Purges.{has_key, has_xkey, softening, xkey_over}
use Rattle.cache_law.specs.Lookup.{Scan, scanned, counting, touching, is_chosen_by, is_fresh, ending, seeing, passing}
use Rattle.cache_law.specs.Law.{Step, answered, refused}
use Rattle.cache_law.specs.History.{next_state, reached_from}
use Rattle.cache_law.proofs.Growth.{behind_either}
use Rattle.cache_law.proofs.Leaves.{either, inserted_leaf, picked_leaf, health_leaf, loaded_leaf, switched_leaf, discarded_leaf}
use Rattle.cache_law.proofs.ScanLeaves.{looked_leaf_of}
use Rattle.cache_law.proofs.Held.{all-filter}
use Rattle.cache_law.proofs.Present.{one_if, count, count-scanned, HeldOnce, once_at, once_after}

-- how many of the objects were last used at the place
abbrev pub uses : ℕ → List Held → ℕ
uses place [] = 0
uses place (held ∷ objects) = one_if (held.used == place) + uses place objects

one_less : (place : ℕ) (b : Bool) (held : Held) (objects kept : List Held) → uses place kept ≤ uses place objects → uses place (cond b (held ∷ kept) kept) ≤ uses place (held ∷ objects)
one_less place true held objects kept less = omega (arith, less)
one_less place false held objects kept less = omega (arith, less)

uses-filter : (test : Held → Bool) (objects : List Held) (place : ℕ) → uses place (filter test objects) ≤ uses place objects
uses-filter test [] place = omega arith
uses-filter test (held ∷ objects) place = one_less place (test held) held objects (filter test objects) (uses-filter test objects place)

uses-map : (f : Held → Held) → ((held : Held) → (f held).used ≡ held.used) → (objects : List Held) (place : ℕ) → uses place (map f objects) ≤ uses place objects
uses-map f same [] place = omega arith
uses-map f same (held ∷ objects) place = omega (arith, uses-map f same objects place, ap (λ (k : ℕ). one_if (k == place)) (same held))

by_choice : (b : Bool) (one two : Held) (place : ℕ) → one.used ≡ place → two.used ≡ place → (cond b one two).used ≡ place
by_choice true one two place e f = e
by_choice false one two place e f = f

uses-without : (stale : Option ℕ) (objects : List Held) (place : ℕ) → uses place (without_stale stale objects) ≤ uses place objects
uses-without None objects place = omega arith
uses-without (Some stale) objects place = uses-filter (λ (held : Held). not (held.view.number == stale)) objects place

uses-staying : (room size : ℕ) (stale : Option ℕ) (objects : List Held) (place : ℕ) → uses place (staying room size (without_stale stale objects)) ≤ uses place objects
uses-staying room size stale objects place = omega (arith, uses-filter (λ (held : Held). not (outweighs room size (without_stale stale objects) held)) (without_stale stale objects) place, uses-without stale objects place)

ban_uses : (issued : Issued) (objects : List Held) (b : Bool) (place : ℕ) → uses place (cond b (filter (λ held. not (matches held.view.object issued)) objects) (map (awaiting issued) objects)) ≤ uses place objects
ban_uses issued objects true place = uses-filter (λ (held : Held). not (matches held.view.object issued)) objects place
ban_uses issued objects false place = uses-map (awaiting issued) (λ held. refl) objects place

uses-xkey : (moment : ℕ) (keys : List (List ℕ)) (soft : Bool) (objects : List Held) (place : ℕ) → uses place (xkey_over moment keys soft objects) ≤ uses place objects
uses-xkey moment keys true objects place = uses-map (softening moment keys) (λ held. by_choice (has_xkey keys held) _ held held.used refl refl) objects place
uses-xkey moment keys false objects place = uses-filter (λ (held : Held). not (has_xkey keys held)) objects place

scan_uses : (place moment : ℕ) (query : Query) (held : Held) (rest : List Held) (scan : Scan Held) (ours met suits fresh : Bool) → uses place scan.objects ≤ uses place rest
    → uses place (cond ours (cond met scan (cond suits (cond fresh (ending held.view (cleared held) rest) (seeing moment query.options held.view (cleared held) scan)) (passing (cleared held) scan))) (passing held scan)).objects ≤ uses place (held ∷ rest)
scan_uses place moment query held rest scan false met suits fresh less = omega (arith, less)
scan_uses place moment query held rest scan true true suits fresh less = omega (arith, less)
scan_uses place moment query held rest scan true false false fresh less = omega (arith, less)
scan_uses place moment query held rest scan true false true false less = omega (arith, less)
scan_uses place moment query held rest scan true false true true less = omega (arith, less)

uses-scanned : (moment : ℕ) (query : Query) (objects : List Held) (place : ℕ) → uses place (scanned moment query objects).objects ≤ uses place objects
uses-scanned moment query [] place = omega arith
uses-scanned moment query (held ∷ objects) place =
    scan_uses place moment query held objects (scanned moment query objects) (same_texts (key_of held.view.object) query.key) (is_met query.request held) (is_chosen_by query held.view.object) (is_fresh moment query.options held.view.object) (uses-scanned moment query objects place)

-- the objects of one number are used at this place
abbrev SetsUse : ℕ → ℕ → (Held → Held) → Type 0
SetsUse place number f = (held : Held) → (f held).used ≡ cond (held.view.number == number) place held.used

choice_used : (b : Bool) (one two : Held) → (cond b one two).used ≡ cond b one.used two.used
choice_used true one two = refl
choice_used false one two = refl

other_one : (other place used : ℕ) (b : Bool) → other ≢ place → one_if (cond b place used == other) ≤ one_if (used == other)
other_one other place used true apart = rw (ne_eqb place other (λ e. apart (sym e))) (omega arith)
other_one other place used false apart = omega arith

uses-other : (other place number : ℕ) (f : Held → Held) → SetsUse place number f → other ≢ place → (objects : List Held) → uses other (map f objects) ≤ uses other objects
uses-other other place number f sets apart [] = omega arith
uses-other other place number f sets apart (held ∷ objects) =
    omega (arith, uses-other other place number f sets apart objects, ap (λ (k : ℕ). one_if (k == other)) (sets held), other_one other place held.used (held.view.number == number) apart)

own_one : (place used : ℕ) (b : Bool) → one_if (cond b place used == place) ≤ one_if b + one_if (used == place)
own_one place used true = one_most (place == place) (one_if (used == place))
  where
    one_most : (b : Bool) (more : ℕ) → one_if b ≤ one_if true + more
    one_most true more = omega arith
    one_most false more = omega arith
own_one place used false = omega arith

uses-own : (place number : ℕ) (f : Held → Held) → SetsUse place number f → (objects : List Held) → uses place (map f objects) ≤ count number objects + uses place objects
uses-own place number f sets [] = omega arith
uses-own place number f sets (held ∷ objects) =
    omega (arith, uses-own place number f sets objects, ap (λ (k : ℕ). one_if (k == place)) (sets held), own_one place held.used (held.view.number == number))

-- Behind an entry no more objects were last used at any other place, and one at most at the entry's own.
abbrev OneMore : State → List Held → Type 0
OneMore state objects = ((other : ℕ) → other ≢ state.entries → uses other objects ≤ uses other state.objects) × (uses state.entries objects ≤ 1)

abbrev OneMoreBehind : State → Step → Type 0
OneMoreBehind state step = OneMore state step.state.objects

-- no object was used at the next entry's place, and no two have one number
pub record Fresh (state : State) : Type 0 where
  pub unused : uses state.entries state.objects ≤ 0
  pub once : (n : ℕ) → count n state.objects ≤ 1

-- objects of which no more were used at any place, and no more have any number
abbrev Fewer : List Held → List Held → Type 0
Fewer objects old = ((place : ℕ) → uses place objects ≤ uses place old) × ((n : ℕ) → count n objects ≤ count n old)

fewer : (state : State) (objects : List Held) → Fresh state → ((place : ℕ) → uses place objects ≤ uses place state.objects) → OneMore state objects
fewer state objects fresh less = (λ other apart. less other, omega (arith, less state.entries, fresh.unused))

set_use : (state : State) (number : ℕ) (f : Held → Held) (objects : List Held) → Fresh state → SetsUse state.entries number f → Fewer objects state.objects → OneMore state (map f objects)
set_use state number f objects fresh sets less = (
  λ other apart. omega (arith, uses-other other state.entries number f sets apart objects, less.0 other),
  omega (arith, uses-own state.entries number f sets objects, less.0 state.entries, less.1 number, fresh.unused, fresh.once number),
)

counting_sets : (place number : ℕ) → SetsUse place number (counting place number)
counting_sets place number held = choice_used (held.view.number == number) _ held

touching_sets : (place number : ℕ) → SetsUse place number (touching place number)
touching_sets place number held = choice_used (held.view.number == number) _ held

stored_uses : (room : ℕ) (state : State) (token : ℕ) (object : Object) (stale : Option ℕ) → Fresh state → OneMore state (stored_over room state.entries token object stale state.objects)
stored_uses room state token object stale fresh = (
  λ other apart.
      let here : one_if (state.entries == other) ≡ one_if false = ap one_if (ne_eqb state.entries other (λ e. apart (sym e))) in
      omega (arith, here, uses-staying room (size_of object) stale state.objects other),
  let here : one_if (state.entries == state.entries) ≡ one_if true = ap one_if (eq-eqb state.entries state.entries refl) in
      omega (arith, here, uses-staying room (size_of object) stale state.objects state.entries, fresh.unused),
)

pub one_more_behind : (room : ℕ) (state : State) (caller : ℕ) (call : Call) → Fresh state → OneMoreBehind state (answered room state caller call)
one_more_behind room state caller call fresh = by_call call
  where
    same : OneMore state state.objects
    same = fewer state state.objects fresh (λ place. omega arith)

    by_call : (call : Call) → OneMoreBehind state (answered room state caller call)
    by_call Begin = either (OneMoreBehind state) (has_round state.rounds caller) _ _ same same
    by_call Draw = either (OneMoreBehind state) (has_round state.rounds caller) _ _ same same
    by_call (Lookup query) =
        looked_leaf_of (OneMoreBehind state) (λ (objects : List Held). Fewer objects state.objects) state caller query same (λ place. omega arith, λ n. omega arith)
        (uses-scanned state.moment query state.objects, λ n. count-scanned n state.moment query state.objects) (record {
          misses = λ objects q stale. fewer state objects fresh q.0;
          hits = λ objects q view. set_use state view.number (counting state.entries view.number) objects fresh (counting_sets state.entries view.number) q;
          hits_miss = λ objects q view. set_use state view.number (touching state.entries view.number) objects fresh (touching_sets state.entries view.number) q;
          passes = λ objects q view. set_use state view.number (touching state.entries view.number) objects fresh (touching_sets state.entries view.number) q;
          graces = λ objects q view. set_use state view.number (counting state.entries view.number) objects fresh (counting_sets state.entries view.number) q;
          graces_alone = λ objects q view. set_use state view.number (counting state.entries view.number) objects fresh (counting_sets state.entries view.number) q;
          waits = λ objects q token. fewer state objects fresh q.0;
        })
    by_call (Pick vcl target word) = picked_leaf (OneMoreBehind state) state vcl target word same (λ place. same)
    by_call (Insert token object stale) =
        inserted_leaf (OneMoreBehind state) room state caller token object stale (record { opens_not = same; gone = same; late = same; full = same; stores = stored_uses room state token object stale fresh })
    by_call (Ban ban) = fewer state _ fresh (ban_uses (issued_behind state.issued state.moment ban) state.objects (object_only ban))
    by_call BanList = same
    by_call (Purge key) = fewer state _ fresh (uses-filter (λ (held : Held). not (has_key key held)) state.objects)
    by_call (Xkey keys soft) = fewer state _ fresh (uses-xkey state.moment keys soft state.objects)
    by_call (SetHealth backend given) = health_leaf (OneMoreBehind state) state backend given same same
    by_call (Load source) = loaded_leaf (OneMoreBehind state) state source same same
    by_call (Switch name) = switched_leaf (OneMoreBehind state) state name same (λ vcl. same)
    by_call (Discard name) = discarded_leaf (OneMoreBehind state) state name same same (λ number. same)
    by_call VclList = same
    by_call (Drop token) = either (OneMoreBehind state) (has_fetch state.fetches caller token) _ _ same same
    by_call End = either (OneMoreBehind state) (has_round state.rounds caller) _ _ same same

refused_more : (state : State) (call : Call) → Fresh state → OneMore state (refused state call).objects
refused_more state (Insert token object stale) fresh = fewer state state.objects fresh (λ place. omega arith)
refused_more state call fresh = fewer state state.objects fresh (λ place. omega arith)

-- in each state that a run reaches one object at most was used at a place, and none at one that isn't there yet
pub record UsedOnce (state : State) : Type 0 where
  pub once : (place : ℕ) → uses place state.objects ≤ 1
  pub unused : (place : ℕ) → state.entries ≤ place → uses place state.objects ≤ 0

used_once : (old : State) (objects : List Held) → UsedOnce old → OneMore old objects → (new : State) → new.objects ≡ objects → new.entries ≡ old.entries + 1 → UsedOnce new
used_once old objects is more new same next =
    record {
      once = λ place. by_place place (cases_eq place old.entries);
      unused = λ place above. omega (arith, more.0 place (λ e. omega (arith, above, e, next)), is.unused place (omega (arith, above, next)), ap (uses place) same);
    }
  where
    by_place : (place : ℕ) → (place ≡ old.entries) ⊎ (place ≡ old.entries → ⊥) → uses place new.objects ≤ 1
    by_place place (inl here) = omega (arith, ap (λ (k : ℕ). uses k new.objects) here, ap (uses old.entries) same, more.1)
    by_place place (inr other) = omega (arith, more.0 place other, is.once place, ap (uses place) same)

pub used_at : (moment : ℕ) (state : State) → UsedOnce state → UsedOnce (at_moment moment state)
used_at moment state is =
    record {
      once = λ place. omega (arith, is.once place, uses-filter (λ (held : Held). in_time moment held.view.object) state.objects place);
      unused = λ place above. omega (arith, is.unused place above, uses-filter (λ (held : Held). in_time moment held.view.object) state.objects place);
    }

pub used_from : (params : Params) (state : State) (entries : List Entry) → ((n : ℕ) → HeldOnce n state) → UsedOnce state → UsedOnce (reached_from params state entries)
used_from params state [] once is = is
used_from params state (e ∷ es) once is =
    let now : State = at_moment e.moment state in
    let there : UsedOnce now = used_at e.moment state is in
    let fresh : Fresh now = record { unused = there.unused now.entries (omega arith); once = λ n. (once_at n e.moment state (once n)).once } in
    let more = behind_either (λ (s : State). OneMore now s.objects) e.reply _ _ (refused_more now e.call fresh) (one_more_behind params.room now e.caller e.call fresh) in
    used_from params (next_state params state e) es (λ n. once_after n params state e.caller e.moment e.call e.reply (once n)) (used_once now _ there more (next_state params state e) refl refl)

apart_from : (held : Held) (objects : List Held) → uses held.used objects ≤ 0 → AllByRecursion (λ (other : Held). held.used ≢ other.used) objects
apart_from held [] none_ = tt
apart_from held (other ∷ objects) none_ =
    (λ e. let here : one_if (other.used == held.used) ≡ one_if true = ap one_if (eq-eqb other.used held.used (sym e)) in omega (arith, here, none_), apart_from held objects (omega (arith, none_)))

pub used_apart : (objects : List Held) → ((place : ℕ) → uses place objects ≤ 1) → AreUsedApart objects
used_apart [] once = tt
used_apart (held ∷ objects) once =
    let here : one_if (held.used == held.used) ≡ one_if true = ap one_if (eq-eqb held.used held.used refl) in
    (apart_from held objects (omega (arith, here, once held.used)), used_apart objects (λ place. omega (arith, once place)))

some_apart : (b : Bool) (held : Held) (objects : List Held) → AllByRecursion (λ (other : Held). held.used ≢ other.used) objects → AreUsedApart objects → AreUsedApart (cond b (held ∷ objects) objects)
some_apart true held objects here rest = (here, rest)
some_apart false held objects here rest = rest

apart-filter : (test : Held → Bool) (objects : List Held) → AreUsedApart objects → AreUsedApart (filter test objects)
apart-filter test [] apart = tt
apart-filter test (held ∷ objects) apart =
    some_apart (test held) held (filter test objects) (all-filter (λ (other : Held). held.used ≢ other.used) test objects apart.0) (apart-filter test objects apart.1)

pub without_apart : (stale : Option ℕ) (objects : List Held) → AreUsedApart objects → AreUsedApart (without_stale stale objects)
without_apart None objects apart = apart
without_apart (Some stale) objects apart = apart-filter (λ (held : Held). not (held.view.number == stale)) objects apart

-- no two of those in time beside a stale one were last used at one place, where no two of all were
pub others_apart : (moment : ℕ) (stale : Option ℕ) (objects : List Held) → AreUsedApart objects → AreUsedApart (without_stale stale (those_in_time moment objects))
others_apart moment stale objects apart = without_apart stale (those_in_time moment objects) (apart-filter (λ (held : Held). in_time moment held.view.object) objects apart)
