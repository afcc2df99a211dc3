-- In every state that a run reaches, what objects have still to be tested on are bans that were issued.
use Rattle.std.proofs.Common.{◌==◌, ℕ, Bool, true, false, cond, not, List, [], ◌∷◌, Option, Some, None, filter, map, find}
use Rattle.std.specs.Option.{option_map_or}
use Rattle.cache_law.specs.declared.setting.Params.{Params}
use Rattle.cache_law.specs.declared.ban.Issued.{Issued}
use Rattle.cache_law.specs.declared.call.Query.{Query}
use Rattle.cache_law.specs.declared.call.Call.{Call}
use Rattle.cache_law.specs.declared.call.Call.TheVariants.{Begin, Draw, Lookup, Pick, Insert, Ban, BanList, Purge, Xkey, SetHealth, Load, Switch, Discard, VclList, Drop, End}
use Rattle.cache_law.specs.declared.call.Entry.{Entry}
use Rattle.cache_law.specs.Object.{in_time, key_of, same_texts}
use Rattle.cache_law.specs.State.{State, Held, at_moment, has_round, has_fetch, inherited, without_stale}
use Rattle.cache_law.specs.ShownBans.{IsPartOf}
use Rattle.cache_law.specs.BansAtOnce.{AwaitIssued, is_met, cleared, issued_behind}
use Rattle.cache_law.specs.Purges.{has_key, has_xkey, softening, xkey_over}
use Rattle.cache_law.specs.Lookup.{Scan, scanned, counting, touching, is_chosen_by, is_fresh, ending, seeing, passing}
use Rattle.cache_law.specs.Law.{Step, answered, refused}
use Rattle.cache_law.specs.History.{next_state, reached_from}
use Rattle.cache_law.proofs.Leaves.{either, inserted_leaf, picked_leaf, health_leaf, loaded_leaf, switched_leaf, discarded_leaf}
use Rattle.cache_law.proofs.ScanLeaves.{looked_leaf_of}
use Rattle.cache_law.proofs.Growth.{behind_either}
use Rattle.cache_law.proofs.WaitingBans.{ban_over_await}

filter_step : (bans : List Issued) (held : Held) (objects : List Held) (b : Bool) → IsPartOf held.pending bans → AwaitIssued bans objects → AwaitIssued bans (cond b (held ∷ objects) objects)
filter_step bans held objects true p rest = (p, rest)
filter_step bans held objects false p rest = rest

filter_await : (bans : List Issued) (test : Held → Bool) (objects : List Held) → AwaitIssued bans objects → AwaitIssued bans (filter test objects)
filter_await bans test [] await = tt
filter_await bans test (held ∷ objects) await = filter_step bans held (filter test objects) (test held) await.0 (filter_await bans test objects await.1)

count_step : (bans : List Issued) (held raised_ : Held) (b : Bool) → IsPartOf held.pending bans → IsPartOf raised_.pending bans → IsPartOf (cond b raised_ held).pending bans
count_step bans held raised_ true p r = r
count_step bans held raised_ false p r = p

counted_await : (bans : List Issued) (place number : ℕ) (objects : List Held) → AwaitIssued bans objects → AwaitIssued bans (map (counting place number) objects)
counted_await bans place number [] await = tt
counted_await bans place number (held ∷ objects) await =
    (count_step bans held _ (held.view.number == number) await.0 await.0, counted_await bans place number objects await.1)

touched_await : (bans : List Issued) (place number : ℕ) (objects : List Held) → AwaitIssued bans objects → AwaitIssued bans (map (touching place number) objects)
touched_await bans place number [] await = tt
touched_await bans place number (held ∷ objects) await =
    (count_step bans held _ (held.view.number == number) await.0 await.0, touched_await bans place number objects await.1)

scan_step : (bans : List Issued) (moment : ℕ) (query : Query) (held : Held) (rest : List Held) (scan : Scan Held) (ours met suits fresh : Bool)
    → IsPartOf held.pending bans → AwaitIssued bans rest → AwaitIssued bans scan.objects
    → AwaitIssued bans (cond ours (cond met scan (cond suits (cond fresh (ending held.view (cleared held) rest) (seeing moment query.options held.view (cleared held) scan)) (passing (cleared held) scan))) (passing held scan)).objects
scan_step bans moment query held rest scan false met suits fresh p r s = (p, s)
scan_step bans moment query held rest scan true true suits fresh p r s = s
scan_step bans moment query held rest scan true false false fresh p r s = (tt, s)
scan_step bans moment query held rest scan true false true false p r s = (tt, s)
scan_step bans moment query held rest scan true false true true p r s = (tt, r)

scanned_await : (bans : List Issued) (moment : ℕ) (query : Query) (objects : List Held) → AwaitIssued bans objects → AwaitIssued bans (scanned moment query objects).objects
scanned_await bans moment query [] await = tt
scanned_await bans moment query (held ∷ objects) await =
    scan_step bans moment query held objects (scanned moment query objects) (same_texts (key_of held.view.object) query.key) (is_met query.request held) (is_chosen_by query held.view.object) (is_fresh moment query.options held.view.object)
    await.0 await.1 (scanned_await bans moment query objects await.1)

found_step : (bans : List Issued) (held : Held) (other : Option Held) (b : Bool) → IsPartOf held.pending bans
    → IsPartOf (option_map_or (λ (h : Held). h.pending) other []) bans → IsPartOf (option_map_or (λ (h : Held). h.pending) (cond b (Some held) other) []) bans
found_step bans held other true p o = p
found_step bans held other false p o = o

found_await : (bans : List Issued) (stale : ℕ) (objects : List Held) → AwaitIssued bans objects
    → IsPartOf (option_map_or (λ (h : Held). h.pending) (find (λ (h : Held). h.view.number == stale) objects) []) bans
found_await bans stale [] await = tt
found_await bans stale (held ∷ objects) await =
    found_step bans held (find (λ (h : Held). h.view.number == stale) objects) (held.view.number == stale) await.0 (found_await bans stale objects await.1)

inherited_await : (bans : List Issued) (stale : Option ℕ) (objects : List Held) → AwaitIssued bans objects → IsPartOf (inherited stale objects) bans
inherited_await bans None objects await = tt
inherited_await bans (Some stale) objects await = found_await bans stale objects await

without_await : (bans : List Issued) (stale : Option ℕ) (objects : List Held) → AwaitIssued bans objects → AwaitIssued bans (without_stale stale objects)
without_await bans None objects await = await
without_await bans (Some stale) objects await = filter_await bans (λ (held : Held). not (held.view.number == stale)) objects await

softened_await : (bans : List Issued) (moment : ℕ) (keys : List (List ℕ)) (objects : List Held) → AwaitIssued bans objects → AwaitIssued bans (map (softening moment keys) objects)
softened_await bans moment keys [] await = tt
softened_await bans moment keys (held ∷ objects) await =
    (count_step bans held _ (has_xkey keys held) await.0 await.0, softened_await bans moment keys objects await.1)

xkey_await : (bans : List Issued) (moment : ℕ) (keys : List (List ℕ)) (soft : Bool) (objects : List Held) → AwaitIssued bans objects → AwaitIssued bans (xkey_over moment keys soft objects)
xkey_await bans moment keys true objects await = softened_await bans moment keys objects await
xkey_await bans moment keys false objects await = filter_await bans (λ (held : Held). not (has_xkey keys held)) objects await

abbrev Awaits : Step → Type 0
Awaits step = AwaitIssued step.state.bans step.state.objects

pub answered_await : (room : ℕ) (state : State) (caller : ℕ) (call : Call) → AwaitIssued state.bans state.objects → Awaits (answered room state caller call)
answered_await room state caller Begin await = either Awaits (has_round state.rounds caller) _ _ await await
answered_await room state caller Draw await = either Awaits (has_round state.rounds caller) _ _ await await
answered_await room state caller (Lookup query) await =
    looked_leaf_of Awaits (AwaitIssued state.bans) state caller query await await (scanned_await state.bans state.moment query state.objects await) (record {
      misses = λ objects q stale. q;
      hits = λ objects q view. counted_await state.bans state.entries view.number objects q;
      hits_miss = λ objects q view. touched_await state.bans state.entries view.number objects q;
      passes = λ objects q view. touched_await state.bans state.entries view.number objects q;
      graces = λ objects q view. counted_await state.bans state.entries view.number objects q;
      graces_alone = λ objects q view. counted_await state.bans state.entries view.number objects q;
      waits = λ objects q token. q;
    })
answered_await room state caller (Pick vcl target word) await = picked_leaf Awaits state vcl target word await (λ place. await)
answered_await room state caller (Insert token object stale) await =
    inserted_leaf Awaits room state caller token object stale (record {
      opens_not = await;
      gone = await;
      late = await;
      full = await;
      stores = (inherited_await state.bans stale state.objects await, filter_await state.bans _ (without_stale stale state.objects) (without_await state.bans stale state.objects await));
    })
answered_await room state caller (Ban ban) await = ban_over_await (issued_behind state.issued state.moment ban) state.bans state.objects await
answered_await room state caller BanList await = await
answered_await room state caller (Purge key) await = filter_await state.bans (λ (held : Held). not (has_key key held)) state.objects await
answered_await room state caller (Xkey keys soft) await = xkey_await state.bans state.moment keys soft state.objects await
answered_await room state caller (SetHealth backend given) await = health_leaf Awaits state backend given await await
answered_await room state caller (Load source) await = loaded_leaf Awaits state source await await
answered_await room state caller (Switch name) await = switched_leaf Awaits state name await (λ vcl. await)
answered_await room state caller (Discard name) await = discarded_leaf Awaits state name await await (λ number. await)
answered_await room state caller VclList await = await
answered_await room state caller (Drop token) await = either Awaits (has_fetch state.fetches caller token) _ _ await await
answered_await room state caller End await = either Awaits (has_round state.rounds caller) _ _ await await

refused_await : (state : State) (call : Call) → AwaitIssued state.bans state.objects → AwaitIssued (refused state call).bans (refused state call).objects
refused_await state (Insert token object stale) await = await
refused_await state call await = await

pub at_await : (state : State) (moment : ℕ) → AwaitIssued state.bans state.objects → AwaitIssued state.bans (at_moment moment state).objects
at_await state moment await = filter_await state.bans (λ (held : Held). in_time moment held.view.object) state.objects await

pub await_from : (params : Params) (state : State) (entries : List Entry) → AwaitIssued state.bans state.objects
    → AwaitIssued (reached_from params state entries).bans (reached_from params state entries).objects
await_from params state [] await = await
await_from params state (e ∷ es) await =
    let here = at_await state e.moment await in
    await_from params (next_state params state e) es
    (behind_either (λ (s : State). AwaitIssued s.bans s.objects) e.reply _ _ (refused_await (at_moment e.moment state) e.call here) (answered_await params.room (at_moment e.moment state) e.caller e.call here))
