-- What is stored has no more fields than what was handed over.
use Rattle.std.proofs.Common.{◌==◌, ◌≤◌, ℕ, Bool, true, false, cond, not, List, [], ◌∷◌, Option, Some, None, filter, map}
use Rattle.cache_law.specs.declared.setting.Params.{Params}
use Rattle.cache_law.specs.declared.object.Object.{Object}
use Rattle.cache_law.specs.declared.object.Object.TheVariants.{Ordinary, HitForMiss, HitForPass}
use Rattle.cache_law.specs.declared.ban.Issued.{Issued}
use Rattle.cache_law.specs.declared.call.Query.{Query}
use Rattle.cache_law.specs.declared.call.Call.{Call}
use Rattle.cache_law.specs.declared.call.Call.TheVariants.{Begin, Draw, Lookup, Pick, Insert, Ban, BanList, Purge, Xkey, SetHealth, Load, Switch, Discard, VclList, Drop, End}
use Rattle.cache_law.specs.declared.call.Entry.{Entry}
use Rattle.cache_law.specs.Object.{count_fields, in_time, key_of, same_texts}
use Rattle.cache_law.specs.Bans.{matches, object_only}
use Rattle.cache_law.specs.BansAtOnce.{awaiting, cleared, is_met, issued_behind}
use Rattle.cache_law.specs.State.{State, Held, at_moment, has_round, has_fetch, without_stale}
use Rattle.cache_law.specs.Purges.{has_key, has_xkey, softened, softening, xkey_over}
use Rattle.cache_law.specs.Lookup.{Scan, scanned, counting, touching, is_chosen_by, is_fresh, ending, seeing, passing}
use Rattle.cache_law.specs.Law.{Step, answered, refused}
use Rattle.cache_law.specs.Fields.{HandFew, HandsFew, HaveFew}
use Rattle.cache_law.specs.History.{next_state, reached_from}
use Rattle.cache_law.proofs.Leaves.{either, inserted_leaf, picked_leaf, health_leaf, loaded_leaf, switched_leaf, discarded_leaf}
use Rattle.cache_law.proofs.ScanLeaves.{looked_leaf_of}
use Rattle.cache_law.proofs.Growth.{behind_either}
use Rattle.cache_law.proofs.Held.{all-filter, all-map}

module _ (most : ℕ) where
  abbrev IsFew : Held → Type 0
  IsFew held = count_fields held.view.object ≤ most

  few_either : (b : Bool) (one other : Held) → IsFew one → IsFew other → IsFew (cond b one other)
  few_either true one other here there = here
  few_either false one other here there = there

  few_soft : (moment : ℕ) (object : Object) → count_fields object ≤ most → count_fields (softened moment object) ≤ most
  few_soft moment (Ordinary response) few = few
  few_soft moment (HitForMiss marker) few = few
  few_soft moment (HitForPass marker) few = few

  few_filter : (test : Held → Bool) (objects : List Held) → HaveFew most objects → HaveFew most (filter test objects)
  few_filter test objects few = all-filter IsFew test objects few

  few_counted : (place number : ℕ) (objects : List Held) → HaveFew most objects → HaveFew most (map (counting place number) objects)
  few_counted place number objects few = all-map IsFew IsFew (counting place number) (λ held own. few_either (held.view.number == number) _ held own own) objects few

  few_touched : (place number : ℕ) (objects : List Held) → HaveFew most objects → HaveFew most (map (touching place number) objects)
  few_touched place number objects few = all-map IsFew IsFew (touching place number) (λ held own. few_either (held.view.number == number) _ held own own) objects few

  few_without : (stale : Option ℕ) (objects : List Held) → HaveFew most objects → HaveFew most (without_stale stale objects)
  few_without None objects few = few
  few_without (Some stale) objects few = few_filter (λ (held : Held). not (held.view.number == stale)) objects few

  few_xkey : (moment : ℕ) (keys : List (List ℕ)) (soft : Bool) (objects : List Held) → HaveFew most objects → HaveFew most (xkey_over moment keys soft objects)
  few_xkey moment keys true objects few =
      all-map IsFew IsFew (softening moment keys) (λ held own. few_either (has_xkey keys held) _ held (few_soft moment held.view.object own) own) objects few
  few_xkey moment keys false objects few = few_filter (λ (held : Held). not (has_xkey keys held)) objects few

  few_ban : (issued : Issued) (objects : List Held) (b : Bool) → HaveFew most objects → HaveFew most (cond b (filter (λ held. not (matches held.view.object issued)) objects) (map (awaiting issued) objects))
  few_ban issued objects true few = few_filter (λ (held : Held). not (matches held.view.object issued)) objects few
  few_ban issued objects false few = all-map IsFew IsFew (awaiting issued) (λ held own. own) objects few

  scan_step : (moment : ℕ) (query : Query) (held : Held) (rest : List Held) (scan : Scan Held) (ours met suits fresh : Bool) → IsFew held → HaveFew most rest → HaveFew most scan.objects
      → HaveFew most (cond ours (cond met scan (cond suits (cond fresh (ending held.view (cleared held) rest) (seeing moment query.options held.view (cleared held) scan)) (passing (cleared held) scan))) (passing held scan)).objects
  scan_step moment query held rest scan false met suits fresh own r s = (own, s)
  scan_step moment query held rest scan true true suits fresh own r s = s
  scan_step moment query held rest scan true false false fresh own r s = (own, s)
  scan_step moment query held rest scan true false true false own r s = (own, s)
  scan_step moment query held rest scan true false true true own r s = (own, r)

  few_scanned : (moment : ℕ) (query : Query) (objects : List Held) → HaveFew most objects → HaveFew most (scanned moment query objects).objects
  few_scanned moment query [] few = tt
  few_scanned moment query (held ∷ objects) few =
      scan_step moment query held objects (scanned moment query objects) (same_texts (key_of held.view.object) query.key) (is_met query.request held) (is_chosen_by query held.view.object) (is_fresh moment query.options held.view.object)
      few.0 few.1 (few_scanned moment query objects few.1)

  abbrev HasFew : Step → Type 0
  HasFew step = HaveFew most step.state.objects

  few_answered : (room : ℕ) (state : State) (caller : ℕ) (call : Call) → HandsFew most call → HaveFew most state.objects → HasFew (answered room state caller call)
  few_answered room state caller Begin hands few = either HasFew (has_round state.rounds caller) _ _ few few
  few_answered room state caller Draw hands few = either HasFew (has_round state.rounds caller) _ _ few few
  few_answered room state caller (Lookup query) hands few =
      looked_leaf_of HasFew (HaveFew most) state caller query few few (few_scanned state.moment query state.objects few) (record {
        misses = λ objects q stale. q;
        hits = λ objects q view. few_counted state.entries view.number objects q;
        hits_miss = λ objects q view. few_touched state.entries view.number objects q;
        passes = λ objects q view. few_touched state.entries view.number objects q;
        graces = λ objects q view. few_counted state.entries view.number objects q;
        graces_alone = λ objects q view. few_counted state.entries view.number objects q;
        waits = λ objects q token. q;
      })
  few_answered room state caller (Pick vcl target word) hands few = picked_leaf HasFew state vcl target word few (λ place. few)
  few_answered room state caller (Insert token object stale) hands few =
      inserted_leaf HasFew room state caller token object stale (record {
        opens_not = few;
        gone = few;
        late = few;
        full = few;
        stores = (hands, few_filter _ (without_stale stale state.objects) (few_without stale state.objects few));
      })
  few_answered room state caller (Ban ban) hands few = few_ban (issued_behind state.issued state.moment ban) state.objects (object_only ban) few
  few_answered room state caller BanList hands few = few
  few_answered room state caller (Purge key) hands few = few_filter (λ (held : Held). not (has_key key held)) state.objects few
  few_answered room state caller (Xkey keys soft) hands few = few_xkey state.moment keys soft state.objects few
  few_answered room state caller (SetHealth backend given) hands few = health_leaf HasFew state backend given few few
  few_answered room state caller (Load source) hands few = loaded_leaf HasFew state source few few
  few_answered room state caller (Switch name) hands few = switched_leaf HasFew state name few (λ vcl. few)
  few_answered room state caller (Discard name) hands few = discarded_leaf HasFew state name few few (λ number. few)
  few_answered room state caller VclList hands few = few
  few_answered room state caller (Drop token) hands few = either HasFew (has_fetch state.fetches caller token) _ _ few few
  few_answered room state caller End hands few = either HasFew (has_round state.rounds caller) _ _ few few

  few_refused : (state : State) (call : Call) → HaveFew most state.objects → HaveFew most (refused state call).objects
  few_refused state (Insert token object stale) few = few
  few_refused state call few = few

  pub few_from : (params : Params) (state : State) (entries : List Entry) → HaveFew most state.objects → HandFew most entries → HaveFew most (reached_from params state entries).objects
  few_from params state [] few hands = few
  few_from params state (e ∷ es) few hands =
      let now : State = at_moment e.moment state in
      let here = few_filter (λ (held : Held). in_time e.moment held.view.object) state.objects few in
      few_from params (next_state params state e) es
      (behind_either (λ (s : State). HaveFew most s.objects) e.reply _ _ (few_refused now e.call here) (few_answered params.room now e.caller e.call hands.0 here)) hands.1
