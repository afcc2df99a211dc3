-- What is reserved behind a call, by what it finds and by what was open before it.
use Rattle.std.proofs.Common.{◌≡◌, ℕ, Bool, true, false, cond, List, ◌∷◌, ◌+◌, ◌*◌, length, Option, Some, None, ◌≤◌, refl, arith, ap, sym, ◌∙◌, subst}
use Rattle.std.proofs.lemmas.Bool.{false≢true, true≢false}
use Rattle.std.proofs.lemmas.List.{length-map}
use Rattle.cache_law.specs.declared.call.Call.{Call}
use Rattle.cache_law.specs.declared.call.Call.TheVariants.{Begin, Draw, Lookup, Pick, Insert, Ban, BanList, Purge, Xkey, SetHealth, Load, Switch, Discard, VclList, Drop, End}
use Rattle.cache_law.specs.declared.vcl.LoadedVcl.{LoadedVcl}
use Rattle.directors.specs.declared.target.Target.{Target}
use Rattle.cache_law.specs.Targets.{chosen}
use Rattle.cache_law.specs.Vcls.{called}
use Rattle.cache_law.proofs.Leaves as leaves
use Rattle.cache_law.specs.declared.object.Object.{Object}
use Rattle.cache_law.specs.declared.call.Query.{Query}
use Rattle.cache_law.specs.declared.call.Reply.TheVariants.{Began, NoRound, Drawn, NotOpen, StaleGone, NotInTime, NoRoom, Dropped, Ended}
use Rattle.cache_law.specs.Object.{in_time, size_of}
use Rattle.cache_law.specs.State.{State, at_moment, has_round, has_fetch, remembering, with_wait, without_fetch, without_fetches_of, without_round_of, without_stale, is_gone, reserve}
use Rattle.cache_law.specs.Room.{has_no_room}
use Rattle.cache_law.specs.Law.{Step, answered, closed_of, discarded_of, ended, looked_up, begun, drawn, leaving, closing, picked_at, stored, inserted, dropped, refused, switched_to, wait_in}
use Rattle.cache_law.specs.declared.state.OpenFetch.{OpenFetch}
use Rattle.cache_law.specs.declared.state.OpenRound.{OpenRound}
use Rattle.cache_law.specs.declared.call.Entry.{Entry}
use Rattle.cache_law.specs.Beginning.{Beginning}
use Rattle.cache_law.specs.History.{reached}
use Rattle.cache_frame.specs.declared.finding.Asked.{Asked}
use Rattle.cache_frame.specs.declared.finding.Asked.TheVariants as asks
use Rattle.cache_frame.specs.declared.finding.StaleObject.TheVariants.{There, Gone, Untested}
use Rattle.cache_frame.specs.declared.finding.Found.{Found}
use Rattle.cache_desk.specs.Desk.{DeskState, bare}
use Rattle.cache_desk.specs.Stock.{without_stock}
use Rattle.cache_frame.specs.Asked.{is_untested, judged, says_gone}
use Rattle.cache_frame.specs.Found.{FindsStale, opens_fetch, opens_more, reply_of, told_so}
use Rattle.cache_frame.specs.Framed.{StandFor}
use Rattle.cache_desk.specs.Opening.{opened_for}

by_round : (state : State) (caller : ℕ) (opened : Bool) → 64 * (length state.rounds + length state.fetches + cond opened 0 1) ≡ reserve (cond opened (leaving state NoRound) (record { reply = Began state.next state.active.number state.active.text; state = record state { next = state.next + 1; rounds = record { caller = caller; vcl = state.active.number; waits = None } ∷ state.rounds } })).state
by_round state caller true = omega arith
by_round state caller false = omega arith

pub begin_reserve : (state : State) (caller : ℕ) → 64 * (length state.rounds + length state.fetches + cond (has_round state.rounds caller) 0 1) ≡ reserve (begun state caller).state
begin_reserve state caller = by_round state caller (has_round state.rounds caller)

by_draw : (state : State) (opened : Bool) → 64 * (length state.rounds + length state.fetches) ≡ reserve (cond opened (record { reply = Drawn state.next; state = record state { next = state.next + 1 } }) (leaving state NoRound)).state
by_draw state true = refl
by_draw state false = refl

pub draw_reserve : (state : State) (caller : ℕ) → 64 * (length state.rounds + length state.fetches) ≡ reserve (drawn state caller).state
draw_reserve state caller = by_draw state (has_round state.rounds caller)

by_drop : (state : State) (token : ℕ) (opened : Bool) → 64 * (length state.rounds + cond opened (length (without_fetch token state.fetches)) (length state.fetches)) ≡ reserve (cond opened (closing token state Dropped) (leaving state NotOpen)).state
by_drop state token true = refl
by_drop state token false = refl

pub drop_reserve : (state : State) (caller token : ℕ) → 64 * (length state.rounds + cond (has_fetch state.fetches caller token) (length (without_fetch token state.fetches)) (length state.fetches)) ≡ reserve (dropped state caller token).state
drop_reserve state caller token = by_drop state token (has_fetch state.fetches caller token)

-- a fetch more is open where one was opened
one_opened : (rounds : List OpenRound) (fetches : List OpenFetch) (opens : Bool) (token caller : ℕ) (key : List (List ℕ)) (waits : Option ℕ) → 64 * (length rounds + length fetches + cond opens 1 0) ≡ 64 * (length (with_wait caller waits rounds) + length (opened_for opens token caller key fetches))
one_opened rounds fetches true token caller key waits = omega (arith, length-map rounds (remembering caller waits))
one_opened rounds fetches false token caller key waits = omega (arith, length-map rounds (remembering caller waits))

pub lookup_reserve : {M : Type 0} (old : State) (now caller : ℕ) (query : Query) (found : Option (Found M)) → 64 * (length old.rounds + length old.fetches + cond (opens_more found) 1 0) ≡ reserve (told_so old now caller query found).state
lookup_reserve old now caller query None = omega arith
lookup_reserve old now caller query (Some found) =
    one_opened old.rounds old.fetches (opens_fetch found.finding) old.next caller query.key (wait_in (reply_of old.next found.finding))

by_tests : (room : ℕ) (state : State) (token : ℕ) (object : Object) (stale : Option ℕ) (opened gone lives full : Bool) → 64 * (length state.rounds + cond gone (length state.fetches) (cond opened (length (without_fetch token state.fetches)) (length state.fetches))) ≡ reserve (cond opened (cond gone (leaving state StaleGone) (cond lives (cond full (closing token state NoRoom) (stored room state token object stale)) (closing token state NotInTime))) (leaving state NotOpen)).state
by_tests room state token object stale false false lives full = refl
by_tests room state token object stale false true lives full = refl
by_tests room state token object stale true true lives full = refl
by_tests room state token object stale true false false full = refl
by_tests room state token object stale true false true false = refl
by_tests room state token object stale true false true true = refl

-- an insertion of an open fetch closes it, unless the stale object is gone
pub insert_reserve : (room : ℕ) (state : State) (caller token : ℕ) (object : Object) (stale : Option ℕ) → 64 * (length state.rounds + cond (is_gone stale state.objects) (length state.fetches) (cond (has_fetch state.fetches caller token) (length (without_fetch token state.fetches)) (length state.fetches))) ≡ reserve (inserted room state caller token object stale).state
insert_reserve room state caller token object stale =
    by_tests room state token object stale (has_fetch state.fetches caller token) (is_gone stale state.objects) (in_time state.moment object) (has_no_room room (size_of object) (without_stale stale state.objects))

by_end : (state : State) (caller : ℕ) (opened : Bool) → 64 * cond opened (length (without_round_of caller state.rounds) + length (without_fetches_of caller state.fetches)) (length state.rounds + length state.fetches) ≡ reserve (cond opened (record { reply = Ended; state = closed_of state caller }) (leaving state NoRound)).state
by_end state caller true = refl
by_end state caller false = refl

-- the call opens and closes nothing
abbrev pub is_quiet : Call → Bool
is_quiet Begin = false
is_quiet Draw = false
is_quiet (Lookup query) = false
is_quiet (Insert token object stale) = false
is_quiet (Drop token) = false
is_quiet End = false
is_quiet call = true

quiet_pick : (state : State) (vcl : ℕ) (target : Target) (place : Option ℕ) → reserve (picked_at state vcl target place).state ≡ reserve state
quiet_pick state vcl target None = refl
quiet_pick state vcl target (Some place) = refl

quiet_switch : (state : State) (found : Option LoadedVcl) → reserve (switched_to state found).state ≡ reserve state
quiet_switch state None = refl
quiet_switch state (Some found) = refl

quiet_discard : (state : State) (found : Option LoadedVcl) → reserve (discarded_of state found).state ≡ reserve state
quiet_discard state None = refl
quiet_discard state (Some found) = leaves.either (λ (s : Step). reserve s.state ≡ reserve state) _ _ _ refl refl

quiet : (room : ℕ) (state : State) (caller : ℕ) (call : Call) → is_quiet call ≡ true → reserve (answered room state caller call).state ≡ reserve state
quiet room state caller (Pick vcl target word) e = quiet_pick state vcl target (chosen state.health state.counters vcl target word)
quiet room state caller (Ban ban) e = refl
quiet room state caller BanList e = refl
quiet room state caller (Purge key) e = refl
quiet room state caller (Xkey keys soft) e = refl
quiet room state caller (SetHealth backend given) e = leaves.either (λ (s : Step). reserve s.state ≡ reserve state) _ _ _ refl refl
quiet room state caller (Load source) e = leaves.either (λ (s : Step). reserve s.state ≡ reserve state) _ _ _ refl refl
quiet room state caller (Switch name) e = quiet_switch state (called name state.vcls)
quiet room state caller (Discard name) e = quiet_discard state (called name state.vcls)
quiet room state caller VclList e = refl
quiet room state caller call e = absurd (false≢true e)

-- ---- by what is on the desk, where a desk and a shelf stand for the state

same_open : (desk : DeskState) (state : State) → bare desk ≡ without_stock state → (f : List OpenRound → List OpenFetch → ℕ) → f desk.rounds desk.fetches ≡ f state.rounds state.fetches
same_open desk state o f = ap (λ (s : State). f s.rounds s.fetches) o

module _ (desk : DeskState) (state : State) (now caller : ℕ) (o : bare desk ≡ without_stock state) where
  pub desk_begin : 64 * (length desk.rounds + length desk.fetches + cond (has_round desk.rounds caller) 0 1) ≡ reserve (begun (at_moment now state) caller).state
  desk_begin = same_open desk state o (λ rs fs. 64 * (length rs + length fs + cond (has_round rs caller) 0 1)) ∙ begin_reserve (at_moment now state) caller

  pub desk_draw : 64 * (length desk.rounds + length desk.fetches) ≡ reserve (drawn (at_moment now state) caller).state
  desk_draw = same_open desk state o (λ rs fs. 64 * (length rs + length fs)) ∙ draw_reserve (at_moment now state) caller

  pub desk_drop : (token : ℕ) → 64 * (length desk.rounds + cond (has_fetch desk.fetches caller token) (length (without_fetch token desk.fetches)) (length desk.fetches)) ≡ reserve (dropped (at_moment now state) caller token).state
  desk_drop token = same_open desk state o (λ rs fs. 64 * (length rs + cond (has_fetch fs caller token) (length (without_fetch token fs)) (length fs))) ∙ drop_reserve (at_moment now state) caller token

  pub desk_lookup : {M : Type 0} (query : Query) (found : Option (Found M)) → looked_up (at_moment now state) caller query ≡ told_so state now caller query found
      → 64 * (length desk.rounds + length desk.fetches + cond (opens_more found) 1 0) ≡ reserve (looked_up (at_moment now state) caller query).state
  desk_lookup query found is_ =
      same_open desk state o (λ rs fs. 64 * (length rs + length fs + cond (opens_more found) 1 0)) ∙ lookup_reserve state now caller query found ∙ ap (λ (step : Step). reserve step.state) (sym is_)

  pub desk_insert : (room token : ℕ) (object : Object) (stale : Option ℕ) → 64 * (length desk.rounds + cond (is_gone stale (at_moment now state).objects) (length desk.fetches) (cond (has_fetch desk.fetches caller token) (length (without_fetch token desk.fetches)) (length desk.fetches))) ≡ reserve (inserted room (at_moment now state) caller token object stale).state
  desk_insert room token object stale =
      same_open desk state o (λ rs fs. 64 * (length rs + cond (is_gone stale (at_moment now state).objects) (length fs) (cond (has_fetch fs caller token) (length (without_fetch token fs)) (length fs))))
      ∙ insert_reserve room (at_moment now state) caller token object stale

  pub desk_end : 64 * cond (has_round desk.rounds caller) (length (without_round_of caller desk.rounds) + length (without_fetches_of caller desk.fetches)) (length desk.rounds + length desk.fetches) ≡ reserve (ended (at_moment now state) caller).state
  desk_end =
      same_open desk state o (λ rs fs. 64 * cond (has_round rs caller) (length (without_round_of caller rs) + length (without_fetches_of caller fs)) (length rs + length fs))
      ∙ by_end (at_moment now state) caller (has_round state.rounds caller)

  -- a call that opens and closes nothing
  pub desk_quiet : (room : ℕ) (call : Call) → is_quiet call ≡ true → 64 * (length desk.rounds + length desk.fetches) ≡ reserve (answered room (at_moment now state) caller call).state
  desk_quiet room call e = same_open desk state o (λ rs fs. 64 * (length rs + length fs)) ∙ sym (quiet room (at_moment now state) caller call e)

-- ---- an insertion, by what it asked

closed_same : (gone opened : Bool) (one two : ℕ) → opened ≡ false → cond opened one two ≡ cond gone two (cond opened one two)
closed_same gone true one two shut = absurd (true≢false shut)
closed_same true false one two shut = refl
closed_same false false one two shut = refl

-- where its stale object couldn't be tested it is judged by a refusal
pub insert_judged : {S M : Type 0} (Stands : S → Beginning → List Entry → Type 0) (desk : DeskState) (shelf : S) (now caller room token : ℕ) (object : Object) (stale : Option ℕ) (asked : Asked M) → FindsStale Stands desk shelf now caller token stale asked
    → (beginning : Beginning) (entries : List Entry) → StandFor Stands desk shelf beginning entries → (reached beginning entries).moment ≤ now
    → 64 * (length desk.rounds + cond (says_gone asked) (length desk.fetches) (cond (has_fetch desk.fetches caller token) (length (without_fetch token desk.fetches)) (length desk.fetches)))
    ≡ reserve (judged (Insert token object stale) (is_untested asked) (refused (at_moment now (reached beginning entries)) (Insert token object stale)) (inserted room (at_moment now (reached beginning entries)) caller token object stale).state)
insert_judged Stands desk shelf now caller room token object stale (asks.Insert There) finds beginning entries stands later =
    let state : State = reached beginning entries in
    subst (λ (gone : Bool). 64 * (length desk.rounds + cond gone (length desk.fetches) (cond (has_fetch desk.fetches caller token) (length (without_fetch token desk.fetches)) (length desk.fetches))) ≡ reserve (inserted room (at_moment now state) caller token object stale).state)
    (finds.1 beginning entries stands.sound stands.shelf later) (desk_insert desk state now caller stands.desk room token object stale)
insert_judged Stands desk shelf now caller room token object stale (asks.Insert Gone) finds beginning entries stands later =
    let state : State = reached beginning entries in
    subst (λ (gone : Bool). 64 * (length desk.rounds + cond gone (length desk.fetches) (cond (has_fetch desk.fetches caller token) (length (without_fetch token desk.fetches)) (length desk.fetches))) ≡ reserve (inserted room (at_moment now state) caller token object stale).state)
    (finds.1 beginning entries stands.sound stands.shelf later) (desk_insert desk state now caller stands.desk room token object stale)
insert_judged Stands desk shelf now caller room token object stale (asks.Insert Untested) opened beginning entries stands later =
    let state : State = reached beginning entries in
    subst (λ (open_ : Bool). 64 * (length desk.rounds + cond open_ (length (without_fetch token desk.fetches)) (length desk.fetches)) ≡ 64 * (length state.rounds + length (without_fetch token state.fetches)))
    (sym opened) (same_open desk state stands.desk (λ rs fs. 64 * (length rs + length (without_fetch token fs))))
insert_judged Stands desk shelf now caller room token object stale asks.Nothing shut beginning entries stands later =
    let state : State = reached beginning entries in
    ap (λ (n : ℕ). 64 * (length desk.rounds + n)) (closed_same (is_gone stale (at_moment now state).objects) (has_fetch desk.fetches caller token) (length (without_fetch token desk.fetches)) (length desk.fetches) shut)
    ∙ desk_insert desk state now caller stands.desk room token object stale
insert_judged Stands desk shelf now caller room token object stale (asks.Lookup found) finds beginning entries stands later = absurd finds
