-- The object of a hit is in time, matches the request and is fresh for it.
use Rattle.std.proofs.Common.{◌≡◌, ℕ, Bool, true, false, cond, List, [], ◌∷◌, ◌++◌, Option, Some, None, refl, sym, ◌∙◌, subst}
use Rattle.std.proofs.lemmas.Bool.{and_from}
use Rattle.cache_law.specs.declared.object.Object.{Object}
use Rattle.cache_law.specs.declared.object.Object.TheVariants.{Ordinary, HitForMiss, HitForPass}
use Rattle.cache_law.specs.declared.object.ObjectView.{ObjectView}
use Rattle.cache_law.specs.declared.call.Query.{Query}
use Rattle.cache_law.specs.declared.call.Call.TheVariants.{Lookup}
use Rattle.cache_law.specs.declared.call.Reply.TheVariants.{NoRound, Hit}
use Rattle.cache_law.specs.declared.call.Entry.{Entry}
use Rattle.cache_law.specs.Object.{in_time, key_of, same_texts}
use Rattle.cache_law.specs.State.{State, Held, at_moment, those_in_time, has_round, least_token}
use Rattle.cache_law.specs.BansAtOnce.{is_met, cleared}
use Rattle.cache_law.specs.Lookup.{Scan, scanned, raised, is_chosen_by, is_fresh, ending, seeing, passing}
use Rattle.cache_law.specs.declared.setting.Params.{Params}
use Rattle.cache_law.specs.Beginning.{Beginning}
use Rattle.cache_law.specs.Law.{leaving, missed, found_fresh, found_grace, waited_or_missed, busy, found_other, found, found_by, sought, looked_up, remembered, MayAnswer, step_of}
use Rattle.cache_law.specs.History.{FollowAll, Follows, Legal, next_state, reached_from, reached}
use Rattle.cache_law.specs.Core.{Serves}

-- an object of which the tests come out so, before others that are scanned
one_tested : (moment : ℕ) (query : Query) (held : Held) (rest : List Held) (view : ObjectView) (ours met suits fresh : Bool)
    → ours ≡ same_texts (key_of held.view.object) query.key → suits ≡ is_chosen_by query held.view.object → fresh ≡ is_fresh moment query.options held.view.object
    → in_time moment held.view.object ≡ true
    → (cond ours (cond met (scanned moment query rest) (cond suits (cond fresh (ending held.view (cleared held) rest) (seeing moment query.options held.view (cleared held) (scanned moment query rest))) (passing (cleared held) (scanned moment query rest)))) (passing held (scanned moment query rest))).fresh ≡ Some view
    → ((scanned moment query rest).fresh ≡ Some view → Serves moment query view.object) → Serves moment query view.object
one_tested moment query held rest view false met suits fresh a b c lives found_ later = later found_
one_tested moment query held rest view true true suits fresh a b c lives found_ later = later found_
one_tested moment query held rest view true false false fresh a b c lives found_ later = later found_
one_tested moment query held rest view true false true false a b c lives found_ later = later found_
one_tested moment query held rest view true false true true a b c lives found_ later =
    let same : held.view ≡ view = cc in
    subst (λ (v : ObjectView). Serves moment query v.object) same
    (record { lives = lives; suits = and_from (same_texts (key_of held.view.object) query.key) (is_chosen_by query held.view.object) (sym a) (sym b); fresh = sym c })

-- one object before others, in time or not
one_scanned : (moment : ℕ) (query : Query) (held : Held) (rest : List Held) (view : ObjectView) (lives : Bool) → lives ≡ in_time moment held.view.object → (scanned moment query (cond lives (held ∷ rest) rest)).fresh ≡ Some view → ((scanned moment query rest).fresh ≡ Some view → Serves moment query view.object) → Serves moment query view.object
one_scanned moment query held rest view false a found_ later = later found_
one_scanned moment query held rest view true a found_ later =
    one_tested moment query held rest view (same_texts (key_of held.view.object) query.key) (is_met query.request held) (is_chosen_by query held.view.object) (is_fresh moment query.options held.view.object) refl refl refl (sym a) found_ later

-- the object that ends a scan of those in time serves
pub scan_serves : (moment : ℕ) (query : Query) (objects : List Held) (view : ObjectView) → (scanned moment query (those_in_time moment objects)).fresh ≡ Some view → Serves moment query view.object
scan_serves moment query [] view e = cc
scan_serves moment query (held ∷ objects) view e =
    one_scanned moment query held (those_in_time moment objects) view (in_time moment held.view.object) refl e (scan_serves moment query objects view)

-- a hit is of the fresh object
fresh_gives : (state : State) (caller : ℕ) (key : List (List ℕ)) (view : ObjectView) (object : Object) (hit : ObjectView) → (found_fresh state caller key view object).reply ≡ Hit hit → hit ≡ raised view
fresh_gives state caller key view (Ordinary response) hit e = cc
fresh_gives state caller key view (HitForMiss marker) hit e = cc
fresh_gives state caller key view (HitForPass marker) hit e = cc

no_hit_in_grace : (state : State) (caller : ℕ) (key : List (List ℕ)) (view : ObjectView) (open_ : Option ℕ) (hit : ObjectView) → (found_grace state caller key view open_).reply ≡ Hit hit → ⊥
no_hit_in_grace state caller key view None hit e = cc
no_hit_in_grace state caller key view (Some token) hit e = cc

no_hit_waiting : (state : State) (caller : ℕ) (key : List (List ℕ)) (stale : Option ObjectView) (open_ : Option ℕ) (hit : ObjectView) → (waited_or_missed state caller key stale open_).reply ≡ Hit hit → ⊥
no_hit_waiting state caller key stale None hit e = cc
no_hit_waiting state caller key stale (Some token) hit e = cc

no_hit_other : (state : State) (caller : ℕ) (query : Query) (grace stale : Option ObjectView) (hit : ObjectView) → (found_other state caller query grace stale).reply ≡ Hit hit → ⊥
no_hit_other state caller query (Some view) stale hit e = no_hit_in_grace state caller query.key view (least_token query.key state.fetches) hit e
no_hit_other state caller query None stale hit e = no_hit_waiting state caller query.key stale (busy query (least_token query.key state.fetches)) hit e

found_hit : (moment : ℕ) (state : State) (caller : ℕ) (query : Query) (fresh grace stale : Option ObjectView) (hit : ObjectView) → ((view : ObjectView) → fresh ≡ Some view → Serves moment query view.object) → (found state caller query fresh grace stale).reply ≡ Hit hit → Serves moment query hit.object
found_hit moment state caller query (Some view) grace stale hit serves e =
    subst (λ (v : ObjectView). Serves moment query v.object) (sym (fresh_gives state caller query.key view view.object hit e)) (serves view refl)
found_hit moment state caller query None grace stale hit serves e = absurd (no_hit_other state caller query grace stale hit e)

sought_hit : (moment : ℕ) (state : State) (caller : ℕ) (query : Query) (misses : Bool) (hit : ObjectView) → (cond misses (missed (at_moment moment state) caller query.key None) (found_by (at_moment moment state) caller query (scanned moment query (those_in_time moment state.objects)))).reply ≡ Hit hit → Serves moment query hit.object
sought_hit moment state caller query true hit e = cc
sought_hit moment state caller query false hit e =
    let scan : Scan Held = scanned moment query (those_in_time moment state.objects) in
    found_hit moment (record state { moment = moment; objects = scan.objects }) caller query scan.fresh scan.grace scan.stale hit (λ view. scan_serves moment query state.objects view) e

looked_hit : (moment : ℕ) (state : State) (caller : ℕ) (query : Query) (opened : Bool) (hit : ObjectView) → (cond opened (remembered caller (sought (at_moment moment state) caller query)) (leaving (at_moment moment state) NoRound)).reply ≡ Hit hit → Serves moment query hit.object
looked_hit moment state caller query true hit e = sought_hit moment state caller query query.options.always_miss hit e
looked_hit moment state caller query false hit e = cc

-- an entry of a legal history follows those before it
pub follows_from : (params : Params) (state : State) (before behind : List Entry) (entry : Entry) → FollowAll params state (before ++ entry ∷ behind) → Follows params (reached_from params state before) entry
follows_from params state [] behind entry follow = follow.0
follows_from params state (e ∷ es) behind entry follow = follows_from params (next_state params state e) es behind entry follow.1

pub hit_serves : (beginning : Beginning) (before behind : List Entry) (entry : Entry) (query : Query) (view : ObjectView) → Legal beginning (before ++ entry ∷ behind) → entry.call ≡ Lookup query → entry.reply ≡ Hit view → Serves entry.moment query view.object
hit_serves beginning before behind entry query view legal asked told =
    let state : State = reached beginning before in
    let answer = (follows_from beginning.params beginning.base before behind entry legal.follow).answer in
    let lawful : entry.reply ≡ (looked_up (at_moment entry.moment state) entry.caller query).reply = subst (λ call. MayAnswer (at_moment entry.moment state) call (step_of beginning.params state entry.caller entry.moment call).reply entry.reply) asked answer in
    looked_hit entry.moment state entry.caller query (has_round state.rounds entry.caller) view (sym lawful ∙ told)
