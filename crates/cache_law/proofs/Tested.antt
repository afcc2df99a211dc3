-- An object that is given to a lookup isn't met by a ban that waits for it; and a ban waits until a lookup tests the object.
use Rattle.std.proofs.Common.{◌≡◌, ℕ, Bool, true, false, not, cond, List, [], ◌∷◌, ◌++◌, ◌+◌, ◌≤◌, ◌==◌, ◌||◌, ◌⊎◌, Option, Some, None, filter, map, find, refl, sym, ap, ◌∙◌, subst, inl, inr}
use Rattle.std.specs.List.{AllByRecursion, list_any}
use Rattle.std.specs.Option.{option_map_or}
use Rattle.std.proofs.lemmas.Bool.{true≢false, false≢true, eqb-true}
use Rattle.cache_law.specs.declared.setting.Params.{Params}
use Rattle.cache_law.specs.declared.ban.Ban.{Ban as BanWords}
use Rattle.cache_law.specs.declared.ban.Issued.{Issued}
use Rattle.cache_law.specs.declared.object.Object.{Object}
use Rattle.cache_law.specs.declared.object.ObjectView.{ObjectView}
use Rattle.cache_law.specs.declared.call.Query.{Query}
use Rattle.cache_law.specs.declared.call.Call.{Call}
use Rattle.cache_law.specs.declared.call.Call.TheVariants.{Begin, Draw, Lookup, Pick, Insert, Ban, BanList, Purge, Xkey, SetHealth, Load, Switch, Discard, VclList, Drop, End}
use Rattle.cache_law.specs.declared.call.Reply.{Reply}
use Rattle.cache_law.specs.declared.call.Reply.TheVariants.{Stored}
use Rattle.cache_law.specs.declared.call.Entry.{Entry}
use Rattle.cache_law.specs.Object.{in_time, key_of, same_texts}
use Rattle.cache_law.specs.State.{State, Held, at_moment, has_round, has_fetch, is_open, is_gone, inherited, without_stale}
use Rattle.cache_law.specs.Room.{stored_over}
use Rattle.cache_law.specs.Bans.{matches, meets, object_only}
use Rattle.cache_law.specs.BansAtOnce.{is_met, cleared, issued_behind, awaiting, ban_over}
use Rattle.cache_law.specs.Purges.{has_key, has_xkey, softening, xkey_over}
use Rattle.cache_law.specs.Lookup.{Scan, scanned, counting, counted, touching, touched, is_chosen_by, is_fresh, ending, seeing, passing}
use Rattle.cache_law.specs.Beginning.{Beginning}
use Rattle.cache_law.specs.Law.{Step, answered, after, step_of, looked_up, inserted, MayAnswer}
use Rattle.cache_law.specs.History.{FollowAll, Follows, Legal, next_state, reached_from, reached}
use Rattle.cache_law.specs.LookedUp.{IsLookedUp}
use Rattle.cache_law.specs.Bases.{IsSound}
use Rattle.cache_law.specs.BanHistories.{IsAmong, WasStored, IsTested, WasTested, given, has_number, is_of, with_heir, heirs, issued_in}
use Rattle.cache_law.proofs.Growth.{behind_either}
use Rattle.cache_law.proofs.Histories.{reached-push}
use Rattle.cache_law.proofs.Numbers.{reached-append}
use Rattle.cache_law.proofs.Lawful.{after-lawful}
use Rattle.cache_law.proofs.Leaves.{either, known_leaf, picked_leaf, health_leaf, loaded_leaf, switched_leaf, discarded_leaf}
use Rattle.cache_law.proofs.ScanLeaves.{looked_leaf_of}
use Rattle.cache_law.proofs.Serving.{follows_from}
use Rattle.cache_law.proofs.LookedUp.{legal_looked_up}
use Rattle.cache_law.proofs.Given.{looked_gives}
use Rattle.cache_law.proofs.Held.{all-filter, all-map, all-weaken}
use Rattle.cache_law.proofs.Present.{count, HeldOnce, once_after, once_at, once_from, opened_by, counting_number, touching_number, softening_number}
use Rattle.cache_law.proofs.Sound.{once_of_sound}
use Rattle.cache_law.proofs.Struck.{IsShut, shut_later, shut_behind_stored, shut_once_stored, none_numbered, given_says, append_behind, banned_after, follow_behind}

-- one of the bans
abbrev pub IsIn : Issued → List Issued → Type 0
IsIn issued [] = ⊥
IsIn issued (ban ∷ bans) = (issued ≡ ban) ⊎ IsIn issued bans

first_false : (a b : Bool) → (a || b) ≡ false → a ≡ false
first_false true b e = absurd (true≢false e)
first_false false b e = refl

second_false : (a b : Bool) → (a || b) ≡ false → b ≡ false
second_false true b e = absurd (true≢false e)
second_false false b e = e

-- what no ban passes, one of them doesn't pass
in_unmet : (test : Issued → Bool) (issued : Issued) (bans : List Issued) → IsIn issued bans → list_any test bans ≡ false → test issued ≡ false
in_unmet test issued [] in_ e = absurd in_
in_unmet test issued (ban ∷ bans) (inl same) e = ap test same ∙ first_false (test ban) (list_any test bans) e
in_unmet test issued (ban ∷ bans) (inr in_) e = in_unmet test issued bans in_ (second_false (test ban) (list_any test bans) e)

-- the ban waits for the object, where the object has one of the numbers
abbrev pub Waits : List ℕ → Issued → Held → Type 0
Waits numbers issued held = has_number numbers held.view.number ≡ true → IsIn issued held.pending

abbrev pub AllWait : List ℕ → Issued → List Held → Type 0
AllWait numbers issued objects = AllByRecursion (Waits numbers issued) objects

-- an object of one of the numbers was tested on the ban, and is left without a ban that waits for it
record Found (numbers : List ℕ) (issued : Issued) (query : Query) (old objects : List Held) : Type 0 where
  pub held : Held
  pub there : IsAmong held old
  pub numbered : has_number numbers held.view.number ≡ true
  pub ours : same_texts (key_of held.view.object) query.key ≡ true
  pub unmatched : meets held.view.object query.request issued ≡ false
  pub left : Held
  pub stays : IsAmong left objects
  pub same : left.view.number ≡ held.view.number
  pub cleared : left.pending ≡ []

abbrev WaitsOrFound : List ℕ → Issued → Query → List Held → List Held → Type 0
WaitsOrFound numbers issued query old objects = AllWait numbers issued objects ⊎ Found numbers issued query old objects

module _ (numbers : List ℕ) (issued : Issued) where
  same_pending : (b : Bool) (one two : Held) (bans : List Issued) → one.pending ≡ bans → two.pending ≡ bans → (cond b one two).pending ≡ bans
  same_pending true one two bans e f = e
  same_pending false one two bans e f = f

  counting_pending : (place number : ℕ) (held : Held) → (counting place number held).pending ≡ held.pending
  counting_pending place number held = same_pending (held.view.number == number) _ held held.pending refl refl

  touching_pending : (place number : ℕ) (held : Held) → (touching place number held).pending ≡ held.pending
  touching_pending place number held = same_pending (held.view.number == number) _ held held.pending refl refl

  softening_pending : (moment : ℕ) (keys : List (List ℕ)) (held : Held) → (softening moment keys held).pending ≡ held.pending
  softening_pending moment keys held = same_pending (has_xkey keys held) _ held held.pending refl refl

  -- an object with the same number and the same bans to be tested on
  waits_same : (held other : Held) → other.view.number ≡ held.view.number → other.pending ≡ held.pending → Waits numbers issued held → Waits numbers issued other
  waits_same held other numbered pending waits own =
      subst (IsIn issued) (sym pending) (waits (ap (has_number numbers) (sym numbered) ∙ own))

  ban_waits : (other : Issued) (objects : List Held) (b : Bool) → AllWait numbers issued objects → AllWait numbers issued (cond b (filter (λ held. not (matches held.view.object other)) objects) (map (awaiting other) objects))
  ban_waits other objects true all = all-filter (Waits numbers issued) (λ (held : Held). not (matches held.view.object other)) objects all
  ban_waits other objects false all = all-map (Waits numbers issued) (Waits numbers issued) (awaiting other) (λ held waits own. inr (waits own)) objects all

  xkey_waits : (moment : ℕ) (keys : List (List ℕ)) (soft : Bool) (objects : List Held) → AllWait numbers issued objects → AllWait numbers issued (xkey_over moment keys soft objects)
  xkey_waits moment keys true objects all =
      all-map (Waits numbers issued) (Waits numbers issued) (softening moment keys) (λ held waits. waits_same held (softening moment keys held) (softening_number moment keys held) (softening_pending moment keys held) waits) objects all
  xkey_waits moment keys false objects all = all-filter (Waits numbers issued) (λ (held : Held). not (has_xkey keys held)) objects all

module _ (numbers : List ℕ) (issued : Issued) (query : Query) where
  found_later : (held : Held) (old objects : List Held) → Found numbers issued query old objects → Found numbers issued query (held ∷ old) objects
  found_later held old objects found = record { held = found.held; there = inr found.there; numbered = found.numbered; ours = found.ours; unmatched = found.unmatched; left = found.left; stays = found.stays; same = found.same; cleared = found.cleared }

  found_behind : (held front : Held) (old objects : List Held) → Found numbers issued query old objects → Found numbers issued query (held ∷ old) (front ∷ objects)
  found_behind held front old objects found = record { held = found.held; there = inr found.there; numbered = found.numbered; ours = found.ours; unmatched = found.unmatched; left = found.left; stays = inr found.stays; same = found.same; cleared = found.cleared }

  found_here : (held : Held) (old objects : List Held) → has_number numbers held.view.number ≡ true → same_texts (key_of held.view.object) query.key ≡ true → is_met query.request held ≡ false
      → Waits numbers issued held → Found numbers issued query (held ∷ old) (cleared held ∷ objects)
  found_here held old objects own ours unmet waits =
      record {
        held = held;
        there = inl refl;
        numbered = own;
        ours = ours;
        unmatched = in_unmet (meets held.view.object query.request) issued held.pending (waits own) unmet;
        left = cleared held;
        stays = inl refl;
        same = refl;
        cleared = refl;
      }

  joined : (held front : Held) (old objects : List Held) → Waits numbers issued front → WaitsOrFound numbers issued query old objects → WaitsOrFound numbers issued query (held ∷ old) (front ∷ objects)
  joined held front old objects waits (inl all) = inl (waits, all)
  joined held front old objects waits (inr found) = inr (found_behind held front old objects found)

  gone_by : (held : Held) (old objects : List Held) → WaitsOrFound numbers issued query old objects → WaitsOrFound numbers issued query (held ∷ old) objects
  gone_by held old objects (inl all) = inl all
  gone_by held old objects (inr found) = inr (found_later held old objects found)

  -- an object of the key that no ban meets, before those that are left
  tested_here : (held : Held) (old objects : List Held) (own : Bool) → own ≡ has_number numbers held.view.number → same_texts (key_of held.view.object) query.key ≡ true → is_met query.request held ≡ false
      → Waits numbers issued held → WaitsOrFound numbers issued query old objects → WaitsOrFound numbers issued query (held ∷ old) (cleared held ∷ objects)
  tested_here held old objects true a ours unmet waits later = inr (found_here held old objects (sym a) ours unmet waits)
  tested_here held old objects false a ours unmet waits later = joined held (cleared held) old objects (λ own. absurd (true≢false (sym own ∙ sym a))) later

  scan_waits_step : (moment : ℕ) (held : Held) (rest : List Held) (scan : Scan Held) (ours met suits fresh : Bool) → ours ≡ same_texts (key_of held.view.object) query.key → met ≡ is_met query.request held
      → Waits numbers issued held → AllWait numbers issued rest → WaitsOrFound numbers issued query rest scan.objects
      → WaitsOrFound numbers issued query (held ∷ rest) (cond ours (cond met scan (cond suits (cond fresh (ending held.view (cleared held) rest) (seeing moment query.options held.view (cleared held) scan)) (passing (cleared held) scan))) (passing held scan)).objects
  scan_waits_step moment held rest scan false met suits fresh a b waits all later = joined held held rest scan.objects waits later
  scan_waits_step moment held rest scan true true suits fresh a b waits all later = gone_by held rest scan.objects later
  scan_waits_step moment held rest scan true false false fresh a b waits all later = tested_here held rest scan.objects (has_number numbers held.view.number) refl (sym a) (sym b) waits later
  scan_waits_step moment held rest scan true false true false a b waits all later = tested_here held rest scan.objects (has_number numbers held.view.number) refl (sym a) (sym b) waits later
  scan_waits_step moment held rest scan true false true true a b waits all later = tested_here held rest rest (has_number numbers held.view.number) refl (sym a) (sym b) waits (inl all)

  scan_waits : (moment : ℕ) (objects : List Held) → AllWait numbers issued objects → WaitsOrFound numbers issued query objects (scanned moment query objects).objects
  scan_waits moment [] all = inl tt
  scan_waits moment (held ∷ objects) all =
      scan_waits_step moment held objects (scanned moment query objects) (same_texts (key_of held.view.object) query.key) (is_met query.request held) (is_chosen_by query held.view.object) (is_fresh moment query.options held.view.object)
      refl refl all.0 all.1 (scan_waits moment objects all.1)

  among-map : (f : Held → Held) (held : Held) (objects : List Held) → IsAmong held objects → IsAmong (f held) (map f objects)
  among-map f held [] among = absurd among
  among-map f held (other ∷ objects) (inl same) = inl (ap f same)
  among-map f held (other ∷ objects) (inr among) = inr (among-map f held objects among)

  -- where each object is changed, but not its number and the bans that wait for it
  mapped_waits : (f : Held → Held) → ((held : Held) → (f held).view.number ≡ held.view.number) → ((held : Held) → (f held).pending ≡ held.pending)
      → (old objects : List Held) → WaitsOrFound numbers issued query old objects → WaitsOrFound numbers issued query old (map f objects)
  mapped_waits f numbered waiting old objects (inl all) =
      inl (all-map (Waits numbers issued) (Waits numbers issued) f (λ held waits. waits_same numbers issued held (f held) (numbered held) (waiting held) waits) objects all)
  mapped_waits f numbered waiting old objects (inr found) =
      inr (record {
        held = found.held;
        there = found.there;
        numbered = found.numbered;
        ours = found.ours;
        unmatched = found.unmatched;
        left = f found.left;
        stays = among-map f found.left objects found.stays;
        same = numbered found.left ∙ found.same;
        cleared = waiting found.left ∙ found.cleared;
      })

  counted_waits : (old : List Held) (place number : ℕ) (objects : List Held) → WaitsOrFound numbers issued query old objects → WaitsOrFound numbers issued query old (counted place number objects)
  counted_waits old place number objects = mapped_waits (counting place number) (counting_number place number) (counting_pending numbers issued place number) old objects

  touched_waits : (old : List Held) (place number : ℕ) (objects : List Held) → WaitsOrFound numbers issued query old objects → WaitsOrFound numbers issued query old (touched place number objects)
  touched_waits old place number objects = mapped_waits (touching place number) (touching_number place number) (touching_pending numbers issued place number) old objects

  -- behind a lookup the ban still waits for the object, or the lookup tested it
  looked_waits : (state : State) (caller : ℕ) → AllWait numbers issued state.objects → WaitsOrFound numbers issued query state.objects (looked_up state caller query).state.objects
  looked_waits state caller all =
      looked_leaf_of (λ (step : Step). WaitsOrFound numbers issued query state.objects step.state.objects) (λ (objects : List Held). WaitsOrFound numbers issued query state.objects objects) state caller query
      (inl all) (inl all) (scan_waits state.moment state.objects all) (record {
        misses = λ objects q stale. q;
        hits = λ objects q view. counted_waits state.objects state.entries view.number objects q;
        hits_miss = λ objects q view. touched_waits state.objects state.entries view.number objects q;
        passes = λ objects q view. touched_waits state.objects state.entries view.number objects q;
        graces = λ objects q view. counted_waits state.objects state.entries view.number objects q;
        graces_alone = λ objects q view. counted_waits state.objects state.entries view.number objects q;
        waits = λ objects q token. q;
      })

abbrev pub is_plain : Call → Bool
is_plain (Lookup query) = false
is_plain (Insert token object stale) = false
is_plain call = true

abbrev WaitsBehind : List ℕ → Issued → Step → Type 0
WaitsBehind numbers issued step = AllWait numbers issued step.state.objects

-- behind any other call but an insertion the ban still waits
plain_waits : (numbers : List ℕ) (issued : Issued) (room : ℕ) (state : State) (caller : ℕ) (call : Call) → is_plain call ≡ true → AllWait numbers issued state.objects → WaitsBehind numbers issued (answered room state caller call)
plain_waits numbers issued room state caller Begin plain all = either (WaitsBehind numbers issued) (has_round state.rounds caller) _ _ all all
plain_waits numbers issued room state caller Draw plain all = either (WaitsBehind numbers issued) (has_round state.rounds caller) _ _ all all
plain_waits numbers issued room state caller (Lookup own) plain all = absurd (false≢true plain)
plain_waits numbers issued room state caller (Pick vcl target word) plain all = picked_leaf (WaitsBehind numbers issued) state vcl target word all (λ place. all)
plain_waits numbers issued room state caller (Insert token object stale) plain all = absurd (false≢true plain)
plain_waits numbers issued room state caller (Ban ban) plain all = ban_waits numbers issued (issued_behind state.issued state.moment ban) state.objects (object_only ban) all
plain_waits numbers issued room state caller BanList plain all = all
plain_waits numbers issued room state caller (Purge key) plain all = all-filter (Waits numbers issued) (λ (held : Held). not (has_key key held)) state.objects all
plain_waits numbers issued room state caller (Xkey keys soft) plain all = xkey_waits numbers issued state.moment keys soft state.objects all
plain_waits numbers issued room state caller (SetHealth backend given_) plain all = health_leaf (WaitsBehind numbers issued) state backend given_ all all
plain_waits numbers issued room state caller (Load source) plain all = loaded_leaf (WaitsBehind numbers issued) state source all all
plain_waits numbers issued room state caller (Switch name) plain all = switched_leaf (WaitsBehind numbers issued) state name all (λ vcl. all)
plain_waits numbers issued room state caller (Discard name) plain all = discarded_leaf (WaitsBehind numbers issued) state name all all (λ number. all)
plain_waits numbers issued room state caller VclList plain all = all
plain_waits numbers issued room state caller (Drop token) plain all = either (WaitsBehind numbers issued) (has_fetch state.fetches caller token) _ _ all all
plain_waits numbers issued room state caller End plain all = either (WaitsBehind numbers issued) (has_round state.rounds caller) _ _ all all

-- the fetches of all the numbers are closed
abbrev pub AllShut : List ℕ → State → Type 0
AllShut numbers state = AllByRecursion (λ number. IsShut number state) numbers

own_shut : (own : ℕ) (token : ℕ) (state : State) (b : Bool) → b ≡ (own == token) → IsShut own state → is_open state.fetches token ≡ true → b ≡ false
own_shut own token state true a is opened =
    absurd (true≢false (sym opened ∙ subst (λ (k : ℕ). is_open state.fetches k ≡ false) (eqb-true own token (sym a)) is.shut))
own_shut own token state false a is opened = refl

-- an open fetch has none of the numbers
open_is_other : (numbers : List ℕ) (token : ℕ) (state : State) → AllShut numbers state → is_open state.fetches token ≡ true → has_number numbers token ≡ false
open_is_other [] token state all opened = refl
open_is_other (own ∷ numbers) token state all opened =
    rw (own_shut own token state (own == token) refl all.0 opened) (open_is_other numbers token state all.1 opened)

inherit_step : (numbers : List ℕ) (issued : Issued) (stale : ℕ) (held : Held) (other : Option Held) (rest b : Bool) → b ≡ (held.view.number == stale) → has_number numbers stale ≡ true
    → Waits numbers issued held → not (b || rest) ≡ false → (not rest ≡ false → IsIn issued (option_map_or (λ (h : Held). h.pending) other [])) → IsIn issued (option_map_or (λ (h : Held). h.pending) (cond b (Some held) other) [])
inherit_step numbers issued stale held other rest true a own waits there later =
    waits (ap (has_number numbers) (eqb-true held.view.number stale (sym a)) ∙ own)
inherit_step numbers issued stale held other rest false a own waits there later = later there

-- the bans that a stale object hands on
inherit_waits : (numbers : List ℕ) (issued : Issued) (stale : ℕ) (objects : List Held) → has_number numbers stale ≡ true → AllWait numbers issued objects → is_gone (Some stale) objects ≡ false → IsIn issued (inherited (Some stale) objects)
inherit_waits numbers issued stale [] own all there = absurd (true≢false there)
inherit_waits numbers issued stale (held ∷ objects) own all there =
    inherit_step numbers issued stale held (find (λ (h : Held). h.view.number == stale) objects) (list_any (λ (h : Held). h.view.number == stale) objects) (held.view.number == stale) refl own all.0 there
    (inherit_waits numbers issued stale objects own all.1)

one_more_step : (numbers : List ℕ) (issued : Issued) (token : ℕ) (held : Held) (b : Bool) → b ≡ (token == held.view.number) → (held.view.number ≡ token → ⊥) → Waits numbers issued held
    → (b || has_number numbers held.view.number) ≡ true → IsIn issued held.pending
one_more_step numbers issued token held true a other waits own = absurd (other (sym (eqb-true token held.view.number (sym a))))
one_more_step numbers issued token held false a other waits own = waits own

-- with one more number, which no object has
one_more_waits : (numbers : List ℕ) (issued : Issued) (token : ℕ) (objects : List Held) → AllByRecursion (λ (held : Held). held.view.number ≡ token → ⊥) objects → AllWait numbers issued objects → AllWait (token ∷ numbers) issued objects
one_more_waits numbers issued token [] others all = tt
one_more_waits numbers issued token (held ∷ objects) others all =
    (one_more_step numbers issued token held (token == held.view.number) refl others.0 all.0, one_more_waits numbers issued token objects others.1 all.1)

stored_heir : (numbers : List ℕ) (issued : Issued) (room place token : ℕ) (object : Object) (stale : ℕ) (objects : List Held) (own : Bool) → own ≡ has_number numbers stale → has_number numbers token ≡ false → count token objects ≤ 0 → is_gone (Some stale) objects ≡ false
    → AllWait numbers issued objects → AllWait (cond own (token ∷ numbers) numbers) issued (stored_over room place token object (Some stale) objects)
stored_heir numbers issued room place token object stale objects true a other none_ there all = (
  λ own. inherit_waits numbers issued stale objects (sym a) all there,
  all-filter (Waits (token ∷ numbers) issued) _ (without_stale (Some stale) objects)
      (all-filter (Waits (token ∷ numbers) issued) (λ (held : Held). not (held.view.number == stale)) objects (one_more_waits numbers issued token objects (none_numbered token objects none_) all)),
)
stored_heir numbers issued room place token object stale objects false a other none_ there all = (
  λ own. absurd (true≢false (sym own ∙ other)),
  all-filter (Waits numbers issued) _ (without_stale (Some stale) objects) (all-filter (Waits numbers issued) (λ (held : Held). not (held.view.number == stale)) objects all),
)

stored_waits : (numbers : List ℕ) (issued : Issued) (room place token : ℕ) (object : Object) (stale : Option ℕ) (objects : List Held) → has_number numbers token ≡ false → count token objects ≤ 0 → is_gone stale objects ≡ false
    → AllWait numbers issued objects → AllWait (cond (is_of numbers stale) (token ∷ numbers) numbers) issued (stored_over room place token object stale objects)
stored_waits numbers issued room place token object None objects other none_ there all =
    (λ own. absurd (true≢false (sym own ∙ other)), all-filter (Waits numbers issued) _ objects all)
stored_waits numbers issued room place token object (Some stale) objects other none_ there all =
    stored_heir numbers issued room place token object stale objects (has_number numbers stale) refl other none_ there all

abbrev InsertedWaits : List ℕ → Issued → ℕ → Object → Option ℕ → Step → Type 0
InsertedWaits numbers issued token object stale step = AllWait (with_heir numbers (Insert token object stale) step.reply) issued step.state.objects

inserted_waits : (numbers : List ℕ) (issued : Issued) (room : ℕ) (state : State) (caller token : ℕ) (object : Object) (stale : Option ℕ) → AllShut numbers state → HeldOnce token state → AllWait numbers issued state.objects
    → InsertedWaits numbers issued token object stale (inserted room state caller token object stale)
inserted_waits numbers issued room state caller token object stale shut once all =
    known_leaf (InsertedWaits numbers issued token object stale) room state caller token object stale (record {
      opens_not = all;
      gone = all;
      late = all;
      full = all;
      stores = λ opened there.
          let open_ = opened_by state.fetches caller token opened in
          stored_waits numbers issued room state.entries token object stale state.objects (open_is_other numbers token state shut open_) (once.while_open open_) there all;
    })

-- The ban waits for each object that has one of the numbers, which were drawn and whose fetches are closed.
record Tracked (numbers : List ℕ) (issued : Issued) (state : State) : Type 0 where
  pub waits : AllWait numbers issued state.objects
  pub shut : AllShut numbers state

heirs_shut : (numbers : List ℕ) (call : Call) (reply : Reply) (state : State) → AllShut numbers state → ((number : ℕ) → reply ≡ Stored number → IsShut number state) → AllShut (with_heir numbers call reply) state
heirs_shut numbers (Insert token object stale) (Stored number) state all stored = by_own (is_of numbers stale)
  where
    by_own : (b : Bool) → AllShut (cond b (number ∷ numbers) numbers) state
    by_own true = (stored number refl, all)
    by_own false = all
heirs_shut numbers call reply state all stored = all

all_shut_next : (numbers : List ℕ) (params : Params) (state : State) (entry : Entry) → AllShut numbers state → AllShut numbers (next_state params state entry)
all_shut_next [] params state entry all = tt
all_shut_next (own ∷ numbers) params state entry all = (shut_later params state (entry ∷ []) own all.0, all_shut_next numbers params state entry all.1)

shut_at : (numbers : List ℕ) (moment : ℕ) (state : State) → AllShut numbers state → AllShut numbers (at_moment moment state)
shut_at [] moment state all = tt
shut_at (own ∷ numbers) moment state all = (record { drawn = all.0.drawn; shut = all.0.shut }, shut_at numbers moment state all.1)

-- what an entry does to what is tracked: it goes on, or the entry tested an object
by_call : (params : Params) (state : State) (numbers : List ℕ) (issued : Issued) (caller moment : ℕ) (call : Call) (reply : Reply)
    → MayAnswer (at_moment moment state) call (step_of params state caller moment call).reply reply → AllWait numbers issued (at_moment moment state).objects → AllShut numbers state → ((n : ℕ) → HeldOnce n state)
    → AllWait (with_heir numbers call reply) issued (after params state caller moment call reply).objects ⊎ IsTested params state (record { caller = caller; moment = moment; call = call; reply = reply }) numbers issued
by_call params state numbers issued caller moment (Lookup query) reply may all shut once =
    let now : State = at_moment moment state in
    let is : after params state caller moment (Lookup query) reply ≡ record (looked_up now caller query).state { entries = state.entries + 1 } = after-lawful params state caller moment (Lookup query) reply may in
    by_found now is (looked_waits numbers issued query now caller all)
  where
    by_found : (now : State) → after params state caller moment (Lookup query) reply ≡ record (looked_up now caller query).state { entries = state.entries + 1 } → WaitsOrFound numbers issued query (at_moment moment state).objects (looked_up now caller query).state.objects
        → AllWait numbers issued (after params state caller moment (Lookup query) reply).objects ⊎ IsTested params state (record { caller = caller; moment = moment; call = Lookup query; reply = reply }) numbers issued
    by_found now is (inl waits) = inl (subst (λ (s : State). AllWait numbers issued s.objects) (sym is) waits)
    by_found now is (inr found) =
        inr (record {
          query = query;
          called = refl;
          held = found.held;
          there = found.there;
          numbered = found.numbered;
          ours = found.ours;
          unmatched = found.unmatched;
          left = found.left;
          stays = subst (λ (s : State). IsAmong found.left s.objects) (sym is) found.stays;
          same = found.same;
          cleared = found.cleared;
        })
by_call params state numbers issued caller moment (Insert token object stale) reply (inl law) all shut once =
    let now : State = at_moment moment state in
    let waits = inserted_waits numbers issued params.room now caller token object stale (shut_at numbers moment state shut) (once_at token moment state (once token)) all in
    let is = after-lawful params state caller moment (Insert token object stale) reply law in
    inl (subst (λ (s : State). AllWait (with_heir numbers (Insert token object stale) reply) issued s.objects) (sym is)
    (subst (λ (r : Reply). AllWait (with_heir numbers (Insert token object stale) r) issued (step_of params state caller moment (Insert token object stale)).state.objects) (sym law) waits))
by_call params state numbers issued caller moment (Insert token object stale) reply (inr free) all shut once =
    inl (subst (λ (r : Reply). AllWait (with_heir numbers (Insert token object stale) r) issued (after params state caller moment (Insert token object stale) r).objects) (sym free.0) all)
by_call params state numbers issued caller moment call reply may all shut once =
    inl (behind_either (λ (s : State). AllWait numbers issued s.objects) reply _ _ all (plain_waits numbers issued params.room (at_moment moment state) caller call refl all))

track_step : (params : Params) (state : State) (entry : Entry) (numbers : List ℕ) (issued : Issued) → Follows params state entry → ((n : ℕ) → HeldOnce n state) → Tracked numbers issued state
    → Tracked (with_heir numbers entry.call entry.reply) issued (next_state params state entry) ⊎ IsTested params state entry numbers issued
track_step params state entry numbers issued follows once tracked =
    by_waits (by_call params state numbers issued entry.caller entry.moment entry.call entry.reply follows.answer
    (all-filter (Waits numbers issued) (λ (held : Held). in_time entry.moment held.view.object) state.objects tracked.waits) tracked.shut once)
  where
    by_waits : AllWait (with_heir numbers entry.call entry.reply) issued (next_state params state entry).objects ⊎ IsTested params state entry numbers issued
        → Tracked (with_heir numbers entry.call entry.reply) issued (next_state params state entry) ⊎ IsTested params state entry numbers issued
    by_waits (inl waits) =
        inl (record {
          waits = waits;
          shut = heirs_shut numbers entry.call entry.reply (next_state params state entry) (all_shut_next numbers params state entry tracked.shut) (λ number told. shut_behind_stored params state entry number follows told (once number));
        })
    by_waits (inr tested) = inr tested

track_from : (params : Params) (state : State) (entries behind : List Entry) (numbers : List ℕ) (issued : Issued) → FollowAll params state (entries ++ behind) → ((n : ℕ) → HeldOnce n state) → Tracked numbers issued state
    → Tracked (heirs numbers entries) issued (reached_from params state entries) ⊎ WasTested params state numbers issued entries
track_from params state [] behind numbers issued legal once tracked = inl tracked
track_from params state (e ∷ es) behind numbers issued legal once tracked =
    by_step (track_step params state e numbers issued legal.0 once tracked)
    (track_from params (next_state params state e) es behind (with_heir numbers e.call e.reply) issued legal.1 (λ n. once_after n params state e.caller e.moment e.call e.reply (once n)))
  where
    by_later : Tracked (heirs numbers (e ∷ es)) issued (reached_from params state (e ∷ es)) ⊎ WasTested params (next_state params state e) (with_heir numbers e.call e.reply) issued es
        → Tracked (heirs numbers (e ∷ es)) issued (reached_from params state (e ∷ es)) ⊎ WasTested params state numbers issued (e ∷ es)
    by_later (inl later) = inl later
    by_later (inr tested) = inr (inr tested)

    by_step : Tracked (with_heir numbers e.call e.reply) issued (next_state params state e) ⊎ IsTested params state e numbers issued
        → (Tracked (with_heir numbers e.call e.reply) issued (next_state params state e)
        → Tracked (heirs numbers (e ∷ es)) issued (reached_from params state (e ∷ es)) ⊎ WasTested params (next_state params state e) (with_heir numbers e.call e.reply) issued es)
        → Tracked (heirs numbers (e ∷ es)) issued (reached_from params state (e ∷ es)) ⊎ WasTested params state numbers issued (e ∷ es)
    by_step (inl next) later = by_later (later next)
    by_step (inr tested) later = inr (inl tested)

-- a waiting ban doesn't meet what a lookup gives
given_unmet : (state : State) (entry : Entry) (query : Query) (view : ObjectView) (numbers : List ℕ) (issued : Issued) → IsLookedUp state entry → entry.call ≡ Lookup query → given entry.reply ≡ Some view
    → AllWait numbers issued state.objects → has_number numbers view.number ≡ true → meets view.object query.request issued ≡ false
given_unmet state entry query view numbers issued is called told all own =
    let now : State = at_moment entry.moment state in
    let asked : query ≡ is.query = same_query (sym called ∙ is.called) in
    let here = all-filter (Waits numbers issued) (λ (held : Held). in_time entry.moment held.view.object) state.objects all in
    let unmet = looked_gives (λ (v : ObjectView). has_number numbers v.number ≡ true → meets v.object is.query.request issued ≡ false) (λ v p. p) now entry.caller is.query view
    (all-weaken (Waits numbers issued) _ (λ held waits met own_. in_unmet (meets held.view.object is.query.request) issued held.pending (waits own_) met) now.objects here) (ap given (sym is.looked) ∙ told) own in
    subst (λ (q : Query). meets view.object q.request issued ≡ false) (sym asked) unmet
  where
    same_query : {one two : Query} → Lookup one ≡ Lookup two → one ≡ two
    same_query e = cc

all_awaiting : (numbers : List ℕ) (issued : Issued) (objects : List Held) → AllWait numbers issued (map (awaiting issued) objects)
all_awaiting numbers issued [] = tt
all_awaiting numbers issued (held ∷ objects) = (λ own. inl refl, all_awaiting numbers issued objects)

over_waits : (numbers : List ℕ) (issued : Issued) (objects : List Held) → object_only issued.ban ≡ false → AllWait numbers issued (ban_over issued objects)
over_waits numbers issued objects other =
    subst (λ (b : Bool). AllWait numbers issued (cond b (filter (λ held. not (matches held.view.object issued)) objects) (map (awaiting issued) objects))) (sym other) (all_awaiting numbers issued objects)

pub given_tested : (beginning : Beginning) (before between behind : List Entry) (ban entry : Entry) (words : BanWords) (query : Query) (view : ObjectView) (number : ℕ) → IsSound beginning.base
    → Legal beginning (before ++ ban ∷ (between ++ entry ∷ behind)) → ban.call ≡ Ban words → object_only words ≡ false
    → WasStored number before → has_number (heirs (number ∷ []) between) view.number ≡ true
    → entry.call ≡ Lookup query → given entry.reply ≡ Some view
    → (meets view.object query.request (issued_in (reached beginning before) ban words) ≡ false)
    ⊎ WasTested beginning.params (reached beginning (before ++ ban ∷ [])) (number ∷ []) (issued_in (reached beginning before) ban words) between
given_tested beginning before between behind ban entry words query view number sound legal called other stored own asked told =
    let params : Params = beginning.params in
    let state : State = reached beginning before in
    let issued : Issued = issued_in state ban words in
    let next : State = next_state params state ban in
    let follows = follows_from params beginning.base before (between ++ entry ∷ behind) ban legal.follow in
    let shut = shut_once_stored params beginning.base number before (ban ∷ (between ++ entry ∷ behind)) legal.follow (once_of_sound number beginning.base sound) stored in
    let waits : AllWait (number ∷ []) issued next.objects =
    subst (AllWait (number ∷ []) issued) (sym (banned_after params state ban words follows called)) (over_waits (number ∷ []) issued (at_moment ban.moment state).objects other) in
    let tracked : Tracked (number ∷ []) issued next = record { waits = waits; shut = (shut_later params state (ban ∷ []) number shut, tt) } in
    let is = legal_looked_up beginning (before ++ ban ∷ between) behind entry (subst (Legal beginning) (sym (append_behind before between ban (entry ∷ behind))) legal) (given_says entry.reply view told) in
    let rest = follow_behind params beginning.base before (ban ∷ (between ++ entry ∷ behind)) legal.follow in
    let there : reached beginning (before ++ ban ∷ between) ≡ reached_from params next between = reached-append beginning before (ban ∷ between) in
    let pushed : reached beginning (before ++ ban ∷ []) ≡ next = reached-push beginning before ban in
    subst (λ (s : State). (meets view.object query.request issued ≡ false) ⊎ WasTested params s (number ∷ []) issued between) (sym pushed)
    (by_tracked params next issued (subst (λ (s : State). IsLookedUp s entry) there is)
    (track_from params next between (entry ∷ behind) (number ∷ []) issued rest.1 (λ n. once_after n params state ban.caller ban.moment ban.call ban.reply (once_from n params beginning.base before (once_of_sound n beginning.base sound))) tracked))
  where
    by_tracked : (params : Params) (next : State) (issued : Issued) → IsLookedUp (reached_from params next between) entry
        → Tracked (heirs (number ∷ []) between) issued (reached_from params next between) ⊎ WasTested params next (number ∷ []) issued between
        → (meets view.object query.request issued ≡ false) ⊎ WasTested params next (number ∷ []) issued between
    by_tracked params next issued is (inl tracked) = inl (given_unmet (reached_from params next between) entry query view (heirs (number ∷ []) between) issued is asked told tracked.waits own)
    by_tracked params next issued is (inr tested) = inr tested
