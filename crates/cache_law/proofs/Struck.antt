-- An object that is given was spared by each ban on objects alone that was issued behind its insertion.
use Rattle.std.proofs.Common.{◌≡◌, ℕ, Bool, true, false, not, cond, List, [], ◌∷◌, ◌++◌, ◌<◌, ◌≤◌, ◌==◌, ◌⊎◌, Some, filter, map, refl, arith, sym, ap, ◌∙◌, subst, inl, inr}
use Rattle.std.specs.List.{AllByRecursion}
use Rattle.std.proofs.lemmas.Bool.{true≢false, false≢true, eq-eqb, eqb-true}
use Rattle.std.proofs.Math.Nat.{lt_of_not-le}
use Rattle.cache_law.specs.declared.setting.Params.{Params}
use Rattle.cache_law.specs.declared.ban.Ban.{Ban as BanWords}
use Rattle.cache_law.specs.declared.ban.Issued.{Issued}
use Rattle.cache_law.specs.declared.object.ObjectView.{ObjectView}
use Rattle.cache_law.specs.declared.call.Call.{Call}
use Rattle.cache_law.specs.declared.call.Call.TheVariants.{Begin, Draw, Lookup, Pick, Insert, Ban, BanList, Purge, Xkey, SetHealth, Load, Switch, Discard, VclList, Drop, End}
use Rattle.cache_law.specs.declared.call.Reply.{Reply}
use Rattle.cache_law.specs.declared.call.Reply.TheVariants.{Hit, Grace, Stored, Banned, Bans}
use Rattle.cache_law.specs.declared.call.Entry.{Entry}
use Rattle.cache_law.specs.State.{State, Held, at_moment, has_round, has_fetch, is_open}
use Rattle.cache_law.specs.Bans.{matches, object_only}
use Rattle.cache_law.specs.BansAtOnce.{issued_behind, awaiting, ban_over}
use Rattle.cache_law.specs.Beginning.{Beginning}
use Rattle.cache_law.specs.Law.{Step, answered, after, step_of, MayAnswer, IsBanList}
use Rattle.cache_law.specs.History.{FollowAll, Follows, Legal, next_state, reached_from, reached}
use Rattle.cache_law.specs.LookedUp.{IsLookedUp, says_found}
use Rattle.cache_law.specs.Bases.{IsSound}
use Rattle.cache_law.specs.BanHistories.{IsAmong, WasSpared, WasStored, given, issued_in}
use Rattle.cache_law.proofs.Growth.{after_grows}
use Rattle.cache_law.proofs.Numbers.{reached-append, rises_from, shut_from}
use Rattle.cache_law.proofs.Leaves.{either, looked_leaf, known_leaf, picked_leaf, health_leaf, loaded_leaf, switched_leaf, discarded_leaf}
use Rattle.cache_law.proofs.Serving.{follows_from}
use Rattle.cache_law.proofs.LookedUp.{legal_looked_up}
use Rattle.cache_law.proofs.Given.{looked_gives}
use Rattle.cache_law.proofs.Held.{all-weaken}
use Rattle.cache_law.proofs.Present.{count, one_if, count_at, count_from, HeldOnce, once_after, opened_by, shut_without}
use Rattle.cache_law.proofs.Sound.{once_of_sound}

-- the number was drawn and its fetch is closed
pub record IsShut (n : ℕ) (state : State) : Type 0 where
  pub drawn : n < state.next
  pub shut : is_open state.fetches n ≡ false

-- the token that a reply says an object is stored under is that of an open fetch, which is closed behind it
abbrev StoresOpen : State → ℕ → Step → Type 0
StoresOpen state n step = step.reply ≡ Stored n → (is_open state.fetches n ≡ true) × (is_open step.state.fetches n ≡ false)

stores_open : (n room : ℕ) (state : State) (caller : ℕ) (call : Call) → StoresOpen state n (answered room state caller call)
stores_open n room state caller Begin = either (StoresOpen state n) (has_round state.rounds caller) _ _ (λ e. cc) (λ e. cc)
stores_open n room state caller Draw = either (StoresOpen state n) (has_round state.rounds caller) _ _ (λ e. cc) (λ e. cc)
stores_open n room state caller (Lookup query) =
    looked_leaf (StoresOpen state n) state caller query (λ e. cc) (record {
      misses = λ objects stale e. cc;
      hits = λ objects view e. cc;
      hits_miss = λ objects view e. cc;
      passes = λ objects view e. cc;
      graces = λ objects view e. cc;
      graces_alone = λ objects view e. cc;
      waits = λ objects token e. cc;
    })
stores_open n room state caller (Pick vcl target word) = picked_leaf (StoresOpen state n) state vcl target word (λ e. cc) (λ place e. cc)
stores_open n room state caller (Insert token object stale) =
    known_leaf (StoresOpen state n) room state caller token object stale (record {
      opens_not = λ e. cc;
      gone = λ e. cc;
      late = λ e. cc;
      full = λ e. cc;
      stores = λ opened stays e.
          let same : token ≡ n = cc in (
            subst (λ (k : ℕ). is_open state.fetches k ≡ true) same (opened_by state.fetches caller token opened),
            subst (λ (k : ℕ). is_open (filter (λ fetch. not (fetch.token == token)) state.fetches) k ≡ false) same (shut_without token state.fetches),
          );
    })
stores_open n room state caller (Ban ban) = λ e. cc
stores_open n room state caller BanList = λ e. cc
stores_open n room state caller (Purge key) = λ e. cc
stores_open n room state caller (Xkey keys soft) = λ e. cc
stores_open n room state caller (SetHealth backend given) = health_leaf (StoresOpen state n) state backend given (λ e. cc) (λ e. cc)
stores_open n room state caller (Load source) = loaded_leaf (StoresOpen state n) state source (λ e. cc) (λ e. cc)
stores_open n room state caller (Switch name) = switched_leaf (StoresOpen state n) state name (λ e. cc) (λ vcl e. cc)
stores_open n room state caller (Discard name) = discarded_leaf (StoresOpen state n) state name (λ e. cc) (λ e. cc) (λ number e. cc)
stores_open n room state caller VclList = λ e. cc
stores_open n room state caller (Drop token) = either (StoresOpen state n) (has_fetch state.fetches caller token) _ _ (λ e. cc) (λ e. cc)
stores_open n room state caller End = either (StoresOpen state n) (has_round state.rounds caller) _ _ (λ e. cc) (λ e. cc)

is_stored : Reply → Bool
is_stored (Stored number) = true
is_stored reply = false

no_list : (state : State) (answer : Reply) (n : ℕ) → IsBanList state answer → answer ≡ Stored n → ⊥
no_list state (Bans lines) n shows e = cc
no_list state answer n shows e = shows

-- what is answered to be stored is stored by the law
stored_by_law : (state : State) (call : Call) (law answer : Reply) (n : ℕ) → MayAnswer state call law answer → answer ≡ Stored n → law ≡ Stored n
stored_by_law state (Insert token object stale) law answer n (inl same) e = sym same ∙ e
stored_by_law state (Insert token object stale) law answer n (inr free) e = cc
stored_by_law state BanList law answer n may e = absurd (no_list state answer n may e)
stored_by_law state call law answer n may e = sym may ∙ e

drawn_of : (next n : ℕ) (open_ : Bool) → (next ≤ n → open_ ≡ false) → open_ ≡ true → n < next
drawn_of next n true none_ e = lt_of_not-le (λ above. true≢false (none_ above))
drawn_of next n false none_ e = absurd (false≢true e)

-- behind an entry that stored an object, its number was drawn and its fetch is closed
pub shut_behind_stored : (params : Params) (state : State) (entry : Entry) (n : ℕ) → Follows params state entry → entry.reply ≡ Stored n → HeldOnce n state → IsShut n (next_state params state entry)
shut_behind_stored params state entry n follows told held =
    let now : State = at_moment entry.moment state in
    let law = stored_by_law now entry.call (step_of params state entry.caller entry.moment entry.call).reply entry.reply n follows.answer told in
    let open_ = stores_open n params.room now entry.caller entry.call law in
    let grows = after_grows params state entry.caller entry.moment entry.call entry.reply in
    record {
      drawn = omega (arith, grows.rises, drawn_of state.next n (is_open state.fetches n) held.unopened open_.0);
      shut = subst (λ (r : Reply). is_open (after params state entry.caller entry.moment entry.call r).fetches n ≡ false) (sym told) open_.1;
    }

pub shut_later : (params : Params) (state : State) (entries : List Entry) (n : ℕ) → IsShut n state → IsShut n (reached_from params state entries)
shut_later params state entries n is =
    record { drawn = omega (arith, is.drawn, rises_from params state entries); shut = shut_from params state entries n is.drawn is.shut }

-- once an object was stored under a number, its fetch is closed
pub shut_once_stored : (params : Params) (state : State) (n : ℕ) (entries behind : List Entry) → FollowAll params state (entries ++ behind) → HeldOnce n state → WasStored n entries → IsShut n (reached_from params state entries)
shut_once_stored params state n [] behind legal held stored = absurd stored
shut_once_stored params state n (e ∷ es) behind legal held (inl here) =
    shut_later params (next_state params state e) es n (shut_behind_stored params state e n legal.0 here held)
shut_once_stored params state n (e ∷ es) behind legal held (inr later) =
    shut_once_stored params (next_state params state e) n es behind legal.1 (once_after n params state e.caller e.moment e.call e.reply held) later

-- an object of the number that the ban doesn't match
abbrev Spared : ℕ → Issued → List Held → Type 0
Spared n issued objects = (held : Held) × IsAmong held objects × (held.view.number ≡ n) × (matches held.view.object issued ≡ false)

spared_later : (n : ℕ) (issued : Issued) (held : Held) (objects : List Held) → Spared n issued objects → Spared n issued (held ∷ objects)
spared_later n issued held objects spared = (spared.0, inr spared.1, spared.2, spared.3)

spare_step : (n : ℕ) (issued : Issued) (held : Held) (objects kept : List Held) (own met : Bool) → own ≡ (held.view.number == n) → met ≡ matches held.view.object issued
    → (count n kept ≤ 0) ⊎ Spared n issued objects → (count n (cond (not met) (held ∷ kept) kept) ≤ 0) ⊎ Spared n issued (held ∷ objects)
spare_step n issued held objects kept own met a b (inr spared) = inr (spared_later n issued held objects spared)
spare_step n issued held objects kept own true a b (inl none_) = inl none_
spare_step n issued held objects kept false false a b (inl none_) =
    let none_here : one_if (held.view.number == n) ≡ one_if false = ap one_if (sym a) in inl (omega (arith, none_here, none_))
spare_step n issued held objects kept true false a b (inl none_) = inr (held, inl refl, eqb-true held.view.number n (sym a), sym b)

struck_or_spared : (n : ℕ) (issued : Issued) (objects : List Held) → (count n (filter (λ held. not (matches held.view.object issued)) objects) ≤ 0) ⊎ Spared n issued objects
struck_or_spared n issued [] = inl (omega arith)
struck_or_spared n issued (held ∷ objects) =
    spare_step n issued held objects _ (held.view.number == n) (matches held.view.object issued) refl refl (struck_or_spared n issued objects)

over_or_spared : (n : ℕ) (issued : Issued) (objects : List Held) → object_only issued.ban ≡ true → (count n (ban_over issued objects) ≤ 0) ⊎ Spared n issued objects
over_or_spared n issued objects alone =
    by_count (struck_or_spared n issued objects)
  where
    same : ban_over issued objects ≡ filter (λ held. not (matches held.view.object issued)) objects
    same = ap (λ (b : Bool). cond b (filter (λ held. not (matches held.view.object issued)) objects) (map (awaiting issued) objects)) alone

    by_count : (count n (filter (λ held. not (matches held.view.object issued)) objects) ≤ 0) ⊎ Spared n issued objects → (count n (ban_over issued objects) ≤ 0) ⊎ Spared n issued objects
    by_count (inl none_) = inl (omega (arith, none_, ap (count n) same))
    by_count (inr spared) = inr spared

-- no object has the number
none_step : (n : ℕ) (held : Held) (own : Bool) → own ≡ (held.view.number == n) → one_if own ≤ 0 → held.view.number ≡ n → ⊥
none_step n held true a none_ e = omega (arith, none_)
none_step n held false a none_ e = true≢false (sym (eq-eqb held.view.number n e) ∙ sym a)

pub none_numbered : (n : ℕ) (objects : List Held) → count n objects ≤ 0 → AllByRecursion (λ (held : Held). held.view.number ≡ n → ⊥) objects
none_numbered n [] none_ = tt
none_numbered n (held ∷ objects) none_ =
    (none_step n held (held.view.number == n) refl (omega (arith, none_)), none_numbered n objects (omega (arith, none_)))

pub given_says : (reply : Reply) (view : ObjectView) → given reply ≡ Some view → says_found reply ≡ true
given_says (Hit own) view e = refl
given_says (Grace own token) view e = refl
given_says reply view e = cc

-- no object is given whose number none has
pub given_is_held : (state : State) (entry : Entry) (view : ObjectView) → IsLookedUp state entry → given entry.reply ≡ Some view → count view.number state.objects ≤ 0 → ⊥
given_is_held state entry view is told none_ =
    let now : State = at_moment entry.moment state in
    let here = none_numbered view.number now.objects (omega (arith, none_, count_at view.number entry.moment state)) in
    looked_gives (λ (own : ObjectView). own.number ≡ view.number → ⊥) (λ own p. p) now entry.caller is.query view
    (all-weaken _ _ (λ held p met. p) now.objects here) (ap given (sym is.looked) ∙ told) refl

pub append_behind : (before between : List Entry) (ban : Entry) (behind : List Entry) → (before ++ ban ∷ between) ++ behind ≡ before ++ ban ∷ (between ++ behind)
append_behind [] between ban behind = refl
append_behind (e ∷ es) between ban behind = ap (λ (l : List Entry). e ∷ l) (append_behind es between ban behind)

-- what follows a state, behind some entries
pub follow_behind : (params : Params) (state : State) (entries behind : List Entry) → FollowAll params state (entries ++ behind) → FollowAll params (reached_from params state entries) behind
follow_behind params state [] behind follow = follow
follow_behind params state (e ∷ es) behind follow = follow_behind params (next_state params state e) es behind follow.1

-- behind a ban the objects are those that it leaves
pub banned_after : (params : Params) (state : State) (entry : Entry) (words : BanWords) → Follows params state entry → entry.call ≡ Ban words
    → (next_state params state entry).objects ≡ ban_over (issued_in state entry words) (at_moment entry.moment state).objects
banned_after params state entry words follows called =
    let told : entry.reply ≡ Banned = subst (λ (call : Call). MayAnswer (at_moment entry.moment state) call (step_of params state entry.caller entry.moment call).reply entry.reply) called follows.answer in
    subst (λ (call : Call). (after params state entry.caller entry.moment call entry.reply).objects ≡ ban_over (issued_in state entry words) (at_moment entry.moment state).objects) (sym called)
    (subst (λ (reply : Reply). (after params state entry.caller entry.moment (Ban words) reply).objects ≡ ban_over (issued_in state entry words) (at_moment entry.moment state).objects) (sym told) refl)

pub given_spared : (beginning : Beginning) (before between behind : List Entry) (ban entry : Entry) (words : BanWords) (view : ObjectView) → IsSound beginning.base
    → Legal beginning (before ++ ban ∷ (between ++ entry ∷ behind)) → ban.call ≡ Ban words → object_only words ≡ true
    → WasStored view.number before → given entry.reply ≡ Some view
    → WasSpared (reached beginning before) ban words view.number
given_spared beginning before between behind ban entry words view sound legal called alone stored told =
    let params : Params = beginning.params in
    let state : State = reached beginning before in
    let now : State = at_moment ban.moment state in
    let issued : Issued = issued_behind state.issued ban.moment words in
    let next : State = next_state params state ban in
    let follows = follows_from params beginning.base before (between ++ entry ∷ behind) ban legal.follow in
    let shut = shut_once_stored params beginning.base view.number before (ban ∷ (between ++ entry ∷ behind)) legal.follow (once_of_sound view.number beginning.base sound) stored in
    let shut_next = shut_later params state (ban ∷ []) view.number shut in
    let is = legal_looked_up beginning (before ++ ban ∷ between) behind entry (subst (Legal beginning) (sym (append_behind before between ban (entry ∷ behind))) legal) (given_says entry.reply view told) in
    let there : reached beginning (before ++ ban ∷ between) ≡ reached_from params next between = reached-append beginning before (ban ∷ between) in
    let less = count_from view.number params next between shut_next.drawn shut_next.shut in
    let held = given_is_held (reached beginning (before ++ ban ∷ between)) entry view is told in
    let found : Spared view.number issued now.objects = by_ban state now issued next less (ap (λ (s : State). count view.number s.objects) there) held
    (ap (count view.number) (banned_after params state ban words follows called))
    (over_or_spared view.number issued now.objects alone) in
    record { held = found.0; there = found.1; numbered = found.2; spared = found.3 }
  where
    by_ban : (state now : State) (issued : Issued) (next : State) → count view.number (reached_from beginning.params next between).objects ≤ count view.number next.objects
        → count view.number (reached beginning (before ++ ban ∷ between)).objects ≡ count view.number (reached_from beginning.params next between).objects
        → (count view.number (reached beginning (before ++ ban ∷ between)).objects ≤ 0 → ⊥)
        → count view.number next.objects ≡ count view.number (ban_over issued now.objects)
        → (count view.number (ban_over issued now.objects) ≤ 0) ⊎ Spared view.number issued now.objects → Spared view.number issued now.objects
    by_ban state now issued next less same held is (inl none_) = absurd (held (omega (arith, less, same, is, none_)))
    by_ban state now issued next less same held is (inr spared) = spared
