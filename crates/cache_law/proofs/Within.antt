-- What is stored stays within the room.
use Rattle.std.proofs.Common.{◌≡◌, ℕ, Bool, true, false, not, cond, List, [], ◌∷◌, ◌+◌, ◌≤◌, ◌||◌, ◌==◌, Option, nat_lt, length, take, drop, filter, map, zero, suc, refl, arith, ap}
use Rattle.std.proofs.lemmas.Bool.{ltb-false}
use Rattle.std.proofs.lemmas.List.Sums.{sum_by-cons}
use Rattle.cache_law.specs.declared.setting.Params.{Params}
use Rattle.cache_law.specs.declared.object.Object.{Object}
use Rattle.cache_law.specs.declared.object.Object.TheVariants.{Ordinary, HitForMiss, HitForPass}
use Rattle.cache_law.specs.declared.ban.Issued.{Issued}
use Rattle.cache_law.specs.declared.call.Query.{Query}
use Rattle.cache_law.specs.declared.call.Call.{Call}
use Rattle.cache_law.specs.declared.call.Call.TheVariants.{Begin, Draw, Lookup, Pick, Insert, Ban, BanList, Purge, Xkey, SetHealth, Load, Switch, Discard, VclList, Drop, End}
use Rattle.cache_law.specs.declared.call.Entry.{Entry}
use Rattle.cache_law.specs.Object.{in_time, key_of, same_texts, size_of}
use Rattle.cache_law.specs.State.{State, Held, at_moment, has_round, has_fetch, inherited, is_gone, sizes_of, without_stale}
use Rattle.cache_law.specs.Room.{AreUsedApart, by_use, displaced, has_no_room, most_displaced, outweighs, staying, stored_over}
use Rattle.cache_law.specs.BansAtOnce.{awaiting, cleared, is_met, issued_behind}
use Rattle.cache_law.specs.Bans.{matches, object_only}
use Rattle.cache_law.specs.Bases.{IsSound}
use Rattle.cache_law.specs.Purges.{has_key, has_xkey, softened, softening, xkey_over}
use Rattle.cache_law.specs.Lookup.{Scan, counting, ending, is_chosen_by, is_fresh, passing, scanned, seeing, touching}
use Rattle.cache_law.specs.Law.{Step, answered, refused}
use Rattle.cache_law.specs.History.{next_state, reached_from}
use Rattle.cache_law.proofs.Growth.{behind_either}
use Rattle.cache_law.proofs.Leaves.{either, either_known, picked_leaf, health_leaf, loaded_leaf, switched_leaf, discarded_leaf}
use Rattle.cache_law.proofs.ScanLeaves.{looked_leaf_of}
use Rattle.cache_law.proofs.ByUse.{sizes-by_use}
use Rattle.cache_law.proofs.Making.{first_go, least_go}
use Rattle.cache_law.proofs.Uses.{without_apart}
use Rattle.cache_law.proofs.Sound.{sound_at, sound_next}

size_more : (held : Held) (objects : List Held) → sizes_of (held ∷ objects) ≡ size_of held.view.object + sizes_of objects
size_more held objects = sum_by-cons (λ (h : Held). size_of h.view.object) held objects

one_less : (b : Bool) (held : Held) (objects kept : List Held) → sizes_of kept ≤ sizes_of objects → sizes_of (cond b (held ∷ kept) kept) ≤ sizes_of (held ∷ objects)
one_less true held objects kept less = omega (arith, less, size_more held kept, size_more held objects)
one_less false held objects kept less = omega (arith, less, size_more held objects)

sizes-filter : (test : Held → Bool) (objects : List Held) → sizes_of (filter test objects) ≤ sizes_of objects
sizes-filter test [] = omega arith
sizes-filter test (held ∷ objects) = one_less (test held) held objects (filter test objects) (sizes-filter test objects)

sizes-map : (f : Held → Held) → ((held : Held) → size_of (f held).view.object ≡ size_of held.view.object) → (objects : List Held) → sizes_of (map f objects) ≤ sizes_of objects
sizes-map f same [] = omega arith
sizes-map f same (held ∷ objects) = omega (arith, sizes-map f same objects, same held, size_more (f held) (map f objects), size_more held objects)

same_size : (b : Bool) (one two : Held) (n : ℕ) → size_of one.view.object ≡ n → size_of two.view.object ≡ n → size_of (cond b one two).view.object ≡ n
same_size true one two n e f = e
same_size false one two n e f = f

soft_size : (moment : ℕ) (object : Object) → size_of (softened moment object) ≡ size_of object
soft_size moment (Ordinary response) = refl
soft_size moment (HitForMiss marker) = refl
soft_size moment (HitForPass marker) = refl

ban_sizes : (issued : Issued) (objects : List Held) (b : Bool) → sizes_of (cond b (filter (λ held. not (matches held.view.object issued)) objects) (map (awaiting issued) objects)) ≤ sizes_of objects
ban_sizes issued objects true = sizes-filter (λ (held : Held). not (matches held.view.object issued)) objects
ban_sizes issued objects false = sizes-map (awaiting issued) (λ held. refl) objects

sizes-xkey : (moment : ℕ) (keys : List (List ℕ)) (soft : Bool) (objects : List Held) → sizes_of (xkey_over moment keys soft objects) ≤ sizes_of objects
sizes-xkey moment keys true objects = sizes-map (softening moment keys) (λ held. same_size (has_xkey keys held) _ held (size_of held.view.object) (soft_size moment held.view.object) refl) objects
sizes-xkey moment keys false objects = sizes-filter (λ (held : Held). not (has_xkey keys held)) objects

scan_sizes : (moment : ℕ) (query : Query) (held : Held) (rest : List Held) (scan : Scan Held) (ours met suits fresh : Bool) → sizes_of scan.objects ≤ sizes_of rest
    → sizes_of (cond ours (cond met scan (cond suits (cond fresh (ending held.view (cleared held) rest) (seeing moment query.options held.view (cleared held) scan)) (passing (cleared held) scan))) (passing held scan)).objects ≤ sizes_of (held ∷ rest)
scan_sizes moment query held rest scan false met suits fresh less = omega (arith, less, size_more held scan.objects, size_more held rest)
scan_sizes moment query held rest scan true true suits fresh less = omega (arith, less, size_more held rest)
scan_sizes moment query held rest scan true false false fresh less = omega (arith, less, size_more (cleared held) scan.objects, size_more held rest)
scan_sizes moment query held rest scan true false true false less = omega (arith, less, size_more (cleared held) scan.objects, size_more held rest)
scan_sizes moment query held rest scan true false true true less = omega (arith, size_more (cleared held) rest, size_more held rest)

sizes-scanned : (moment : ℕ) (query : Query) (objects : List Held) → sizes_of (scanned moment query objects).objects ≤ sizes_of objects
sizes-scanned moment query [] = omega arith
sizes-scanned moment query (held ∷ objects) =
    scan_sizes moment query held objects (scanned moment query objects) (same_texts (key_of held.view.object) query.key) (is_met query.request held) (is_chosen_by query held.view.object) (is_fresh moment query.options held.view.object) (sizes-scanned moment query objects)

-- the objects that stay leave room for the new one

parts_one : (b : Bool) (held : Held) (kept gone : List Held) (total : ℕ) → sizes_of gone + sizes_of kept ≡ total → sizes_of (cond b (held ∷ gone) gone) + sizes_of (cond (not b) (held ∷ kept) kept) ≡ size_of held.view.object + total
parts_one true held kept gone total e = omega (arith, e, size_more held gone)
parts_one false held kept gone total e = omega (arith, e, size_more held kept)

parts : (test : Held → Bool) (objects : List Held) → sizes_of (filter test objects) + sizes_of (filter (λ held. not (test held)) objects) ≡ sizes_of objects
parts test [] = refl
parts test (held ∷ objects) =
    let rest = parts_one (test held) held (filter (λ h. not (test h)) objects) (filter test objects) (sizes_of objects) (parts test objects) in omega (arith, rest, size_more held objects)

cut_at : (n : ℕ) (objects : List Held) → sizes_of (take n objects) + sizes_of (drop n objects) ≡ sizes_of objects
cut_at zero objects = omega arith
cut_at (suc n) [] = omega arith
cut_at (suc n) (held ∷ objects) = omega (arith, cut_at n objects, size_more held (take n objects), size_more held objects)

first_false : (a b : Bool) → (a || b) ≡ false → a ≡ false
first_false true b e = e
first_false false b e = refl

staying_enough : (room size : ℕ) (others : List Held) → AreUsedApart others → has_no_room room size others ≡ false → sizes_of (staying room size others) + size ≤ room
staying_enough room size others apart there =
    let fits : size ≤ room = ltb-false room size (first_false (nat_lt room size) (nat_lt most_displaced (length (displaced room size others))) there) in
    let count : ℕ = length (displaced room size others) in
    let enough = (least_go room size others apart fits).enough in
    let first = ap sizes_of (first_go room size others apart) in
    omega (arith, enough, first, sizes-by_use (displaced room size others), sizes-by_use others, cut_at count (by_use others), parts (outweighs room size others) others)

-- ---- entries

abbrev Within : ℕ → Step → Type 0
Within room step = sizes_of step.state.objects ≤ room

stored_within : (room : ℕ) (state : State) (token : ℕ) (object : Object) (stale : Option ℕ) → AreUsedApart state.objects → has_no_room room (size_of object) (without_stale stale state.objects) ≡ false
    → sizes_of (stored_over room state.entries token object stale state.objects) ≤ room
stored_within room state token object stale apart there =
    let others : List Held = without_stale stale state.objects in
    let new : Held = record { view = record { number = token; hits = 0; object = object }; used = state.entries; pending = inherited stale state.objects } in
    omega (arith, staying_enough room (size_of object) others (without_apart stale state.objects apart) there, size_more new (staying room (size_of object) others))

within_behind : (room : ℕ) (state : State) (caller : ℕ) (call : Call) → AreUsedApart state.objects → sizes_of state.objects ≤ room → Within room (answered room state caller call)
within_behind room state caller call apart same = by_call call
  where
    by_call : (call : Call) → Within room (answered room state caller call)
    by_call Begin = either (Within room) (has_round state.rounds caller) _ _ same same
    by_call Draw = either (Within room) (has_round state.rounds caller) _ _ same same
    by_call (Lookup query) =
        looked_leaf_of (Within room) (λ (objects : List Held). sizes_of objects ≤ sizes_of state.objects) state caller query same (omega arith) (sizes-scanned state.moment query state.objects) (record {
          misses = λ objects q stale. omega (arith, q, same);
          hits = λ objects q view. omega (arith, q, same, sizes-map (counting state.entries view.number) (λ held. same_size (held.view.number == view.number) _ held (size_of held.view.object) refl refl) objects);
          hits_miss = λ objects q view. omega (arith, q, same, sizes-map (touching state.entries view.number) (λ held. same_size (held.view.number == view.number) _ held (size_of held.view.object) refl refl) objects);
          passes = λ objects q view. omega (arith, q, same, sizes-map (touching state.entries view.number) (λ held. same_size (held.view.number == view.number) _ held (size_of held.view.object) refl refl) objects);
          graces = λ objects q view. omega (arith, q, same, sizes-map (counting state.entries view.number) (λ held. same_size (held.view.number == view.number) _ held (size_of held.view.object) refl refl) objects);
          graces_alone = λ objects q view. omega (arith, q, same, sizes-map (counting state.entries view.number) (λ held. same_size (held.view.number == view.number) _ held (size_of held.view.object) refl refl) objects);
          waits = λ objects q token. omega (arith, q, same);
        })
    by_call (Pick vcl target word) = picked_leaf (Within room) state vcl target word same (λ place. same)
    by_call (Insert token object stale) =
        either (Within room) (has_fetch state.fetches caller token) _ _
        (either (Within room) (is_gone stale state.objects) _ _ same
        (either (Within room) (in_time state.moment object) _ _
        (either_known (Within room) (has_no_room room (size_of object) (without_stale stale state.objects)) _ _ (λ full. same) (λ there. stored_within room state token object stale apart there)) same)) same
    by_call (Ban ban) = omega (arith, same, ban_sizes (issued_behind state.issued state.moment ban) state.objects (object_only ban))
    by_call BanList = same
    by_call (Purge key) = omega (arith, same, sizes-filter (λ (held : Held). not (has_key key held)) state.objects)
    by_call (Xkey keys soft) = omega (arith, same, sizes-xkey state.moment keys soft state.objects)
    by_call (SetHealth backend given) = health_leaf (Within room) state backend given same same
    by_call (Load source) = loaded_leaf (Within room) state source same same
    by_call (Switch name) = switched_leaf (Within room) state name same (λ vcl. same)
    by_call (Discard name) = discarded_leaf (Within room) state name same same (λ number. same)
    by_call VclList = same
    by_call (Drop token) = either (Within room) (has_fetch state.fetches caller token) _ _ same same
    by_call End = either (Within room) (has_round state.rounds caller) _ _ same same

refused_within : (room : ℕ) (state : State) (call : Call) → sizes_of state.objects ≤ room → sizes_of (refused state call).objects ≤ room
refused_within room state (Insert token object stale) same = same
refused_within room state call same = same

pub within_from : (params : Params) (state : State) (entries : List Entry) → IsSound state → sizes_of state.objects ≤ params.room → sizes_of (reached_from params state entries).objects ≤ params.room
within_from params state [] sound fits = fits
within_from params state (e ∷ es) sound fits =
    let now : State = at_moment e.moment state in
    let here : sizes_of now.objects ≤ params.room = omega (arith, fits, sizes-filter (λ (held : Held). in_time e.moment held.view.object) state.objects) in
    within_from params (next_state params state e) es (sound_next params state e sound)
    (behind_either (λ (s : State). sizes_of s.objects ≤ params.room) e.reply _ _ (refused_within params.room now e.call here) (within_behind params.room now e.caller e.call (sound_at e.moment state sound).uses here))
