-- What one call does to open rounds and fetches.
use Rattle.std.proofs.Common.{◌≡◌, ◌≢◌, ℕ, Bool, true, false, cond, List, ◌∷◌, ◌||◌, ◌==◌, filter, not, Option, Some, None, inl, inr, ◌⊎◌, refl, sym, ap, ◌∙◌, subst}
use Rattle.std.specs.List.{AllByRecursion, list_any}
use Rattle.std.specs.Str.{bytes_eq}
use Rattle.std.proofs.lemmas.Bool.{ne_eqb}
use Rattle.directors.specs.declared.target.Target.{Target}
use Rattle.cache_law.specs.declared.setting.Params.{Params}
use Rattle.cache_law.specs.declared.object.Object.{Object}
use Rattle.cache_law.specs.declared.object.Object.TheVariants.{Ordinary, HitForMiss, HitForPass}
use Rattle.cache_law.specs.declared.object.ObjectView.{ObjectView}
use Rattle.cache_law.specs.declared.call.Query.{Query}
use Rattle.cache_law.specs.declared.call.Call.{Call}
use Rattle.cache_law.specs.declared.call.Call.TheVariants.{Begin, Draw, Lookup, Pick, Insert, Ban, BanList, Purge, Xkey, SetHealth, Load, Switch, Discard, VclList, Drop, End}
use Rattle.cache_law.specs.declared.call.Reply.{Reply}
use Rattle.cache_law.specs.declared.call.Reply.TheVariants.{Refused}
use Rattle.cache_law.specs.declared.state.OpenFetch.{OpenFetch}
use Rattle.cache_law.specs.declared.state.OpenRound.{OpenRound}
use Rattle.cache_law.specs.declared.vcl.LoadedVcl.{LoadedVcl}
use Rattle.cache_law.specs.Object.{in_time, size_of}
use Rattle.cache_law.specs.State.{State, Held, at_moment, has_fetch, has_round, is_gone, least_token, with_wait, without_fetches_of, without_round_of, without_stale}
use Rattle.cache_law.specs.Room.{has_no_room}
use Rattle.cache_law.specs.Lookup.{Scan, scanned}
use Rattle.cache_law.specs.Targets.{chosen}
use Rattle.cache_law.specs.Vcls.{called, is_taken}
use Rattle.cache_law.specs.Law.{Step, after, answered, behind, busy, discarded_of, found, found_fresh, found_grace, found_other, picked_at, refused, sought, switched_to, waited_or_missed}
use Rattle.idle_laws.specs.Idle.{HaveRounds}
use Rattle.idle_laws.proofs.Lists.{all_filter, all_map, fetches_left, has_waiting, has_without, one_more_round}

-- What a call of this caller does: fetches stay those of open rounds, and no other caller's round is opened.
pub record Keeps (caller : ℕ) (state after : State) : Type 0 where
  pub rounds : HaveRounds state → HaveRounds after
  pub others : (other : ℕ) → other ≢ caller → has_round state.rounds other ≡ false → has_round after.rounds other ≡ false

-- nothing that is open changes
still : (caller : ℕ) (state after : State) → after.rounds ≡ state.rounds → after.fetches ≡ state.fetches → Keeps caller state after
still caller state after same all = record {
  rounds = λ have. subst (λ (rounds : List OpenRound). AllByRecursion (λ (f : OpenFetch). has_round rounds f.caller ≡ true) after.fetches) (sym same)
      (subst (λ (fetches : List OpenFetch). AllByRecursion (λ (f : OpenFetch). has_round state.rounds f.caller ≡ true) fetches) (sym all) have);
  others = λ other apart none. subst (λ (rounds : List OpenRound). has_round rounds other ≡ false) (sym same) none;
}

-- fetches are closed
fewer : (caller : ℕ) (state after : State) (stays : OpenFetch → Bool) → after.rounds ≡ state.rounds → after.fetches ≡ filter stays state.fetches → Keeps caller state after
fewer caller state after stays same all = record {
  rounds = λ have. subst (λ (rounds : List OpenRound). AllByRecursion (λ (f : OpenFetch). has_round rounds f.caller ≡ true) after.fetches) (sym same)
      (subst (λ (fetches : List OpenFetch). AllByRecursion (λ (f : OpenFetch). has_round state.rounds f.caller ≡ true) fetches) (sym all)
      (all_filter (λ (f : OpenFetch). has_round state.rounds f.caller ≡ true) stays state.fetches have));
  others = λ other apart none. subst (λ (rounds : List OpenRound). has_round rounds other ≡ false) (sym same) none;
}

-- a round is begun
begins : (caller : ℕ) (state after : State) (round : OpenRound) → round.caller ≡ caller → after.rounds ≡ round ∷ state.rounds → after.fetches ≡ state.fetches → Keeps caller state after
begins caller state after round own more all = record {
  rounds = λ have. subst (λ (rounds : List OpenRound). AllByRecursion (λ (f : OpenFetch). has_round rounds f.caller ≡ true) after.fetches) (sym more)
      (subst (λ (fetches : List OpenFetch). AllByRecursion (λ (f : OpenFetch). has_round (round ∷ state.rounds) f.caller ≡ true) fetches) (sym all)
      (all_map (λ (f : OpenFetch). has_round state.rounds f.caller ≡ true) (λ (f : OpenFetch). has_round (round ∷ state.rounds) f.caller ≡ true) state.fetches
      (λ f has. one_more_round (round.caller == f.caller) (has_round state.rounds f.caller) has) have));
  others = λ other apart none. subst (λ (rounds : List OpenRound). has_round rounds other ≡ false) (sym more)
      (ap (λ (own : Bool). own || has_round state.rounds other) (ne_eqb round.caller other (λ same. apart (sym same ∙ own))) ∙ none);
}

-- a round ends, with its fetches
ends : (caller : ℕ) (state after : State) → after.rounds ≡ without_round_of caller state.rounds → after.fetches ≡ without_fetches_of caller state.fetches → Keeps caller state after
ends caller state after fewer all = record {
  rounds = λ have. subst (λ (rounds : List OpenRound). AllByRecursion (λ (f : OpenFetch). has_round rounds f.caller ≡ true) after.fetches) (sym fewer)
      (subst (λ (fetches : List OpenFetch). AllByRecursion (λ (f : OpenFetch). has_round (without_round_of caller state.rounds) f.caller ≡ true) fetches) (sym all)
      (fetches_left caller state.rounds state.fetches have));
  others = λ other apart none. subst (λ (rounds : List OpenRound). has_round rounds other ≡ false) (sym fewer) (has_without caller other state.rounds apart ∙ none);
}

-- what a lookup in an open round does before its round remembers it: rounds stay, and one fetch is opened at most, for its caller
abbrev OneMore : ℕ → List OpenFetch → List OpenFetch → Type 0
OneMore caller before behind_ = (behind_ ≡ before) ⊎ ((fetch : OpenFetch) × (fetch.caller ≡ caller) × (behind_ ≡ fetch ∷ before))

record Opens (caller : ℕ) (state after : State) : Type 0 where
  pub rounds : after.rounds ≡ state.rounds
  pub fetches : OneMore caller state.fetches after.fetches

stays : (caller : ℕ) (state after : State) → after.rounds ≡ state.rounds → after.fetches ≡ state.fetches → Opens caller state after
stays caller state after rounds fetches = record { rounds = rounds; fetches = inl fetches }

opens : (caller : ℕ) (state after : State) (fetch : OpenFetch) → fetch.caller ≡ caller → after.rounds ≡ state.rounds → after.fetches ≡ fetch ∷ state.fetches → Opens caller state after
opens caller state after fetch own rounds fetches = record { rounds = rounds; fetches = inr (fetch, own, fetches) }

have_one_more : (caller : ℕ) (rounds : List OpenRound) (before behind_ : List OpenFetch) → has_round rounds caller ≡ true → OneMore caller before behind_
    → AllByRecursion (λ (f : OpenFetch). has_round rounds f.caller ≡ true) before → AllByRecursion (λ (f : OpenFetch). has_round rounds f.caller ≡ true) behind_
have_one_more caller rounds before behind_ has (inl same) have = subst (λ (fetches : List OpenFetch). AllByRecursion (λ (f : OpenFetch). has_round rounds f.caller ≡ true) fetches) (sym same) have
have_one_more caller rounds before behind_ has (inr one) have =
    subst (λ (fetches : List OpenFetch). AllByRecursion (λ (f : OpenFetch). has_round rounds f.caller ≡ true) fetches) (sym one.2)
    (subst (λ (own : ℕ). has_round rounds own ≡ true) (sym one.1) has, have)

-- a caller's open round remembers what its lookup was told
remembers : (caller : ℕ) (token : Option ℕ) (state mid after : State) → has_round state.rounds caller ≡ true → Opens caller state mid → after.rounds ≡ with_wait caller token mid.rounds
    → after.fetches ≡ mid.fetches → Keeps caller state after
remembers caller token state mid after has opened waiting all =
    let has_still : (other : ℕ) → has_round after.rounds other ≡ has_round state.rounds other =
    λ other. ap (λ (rounds : List OpenRound). has_round rounds other) waiting ∙ (has_waiting caller token mid.rounds other ∙ ap (λ (rounds : List OpenRound). has_round rounds other) opened.rounds) in
    record {
      rounds = λ have. subst (λ (fetches : List OpenFetch). AllByRecursion (λ (f : OpenFetch). has_round after.rounds f.caller ≡ true) fetches) (sym all)
          (all_map (λ (f : OpenFetch). has_round state.rounds f.caller ≡ true) (λ (f : OpenFetch). has_round after.rounds f.caller ≡ true) mid.fetches
          (λ f own. has_still f.caller ∙ own) (have_one_more caller state.rounds state.fetches mid.fetches has opened.fetches have));
      others = λ other apart none. has_still other ∙ none;
    }

-- ---- by the rules of a call

either : (P : Step → Type 0) (b : Bool) (one two : Step) → P one → P two → P (cond b one two)
either P true one two p q = p
either P false one two p q = q

either_known : (P : Step → Type 0) (b : Bool) (one two : Step) → (b ≡ true → P one) → P two → P (cond b one two)
either_known P true one two p q = p refl
either_known P false one two p q = q

module _ (caller : ℕ) (state : State) where
  abbrev O : Step → Type 0
  O step = Opens caller state step.state

  fresh_opens : (objects : List Held) (key : List (List ℕ)) (view : ObjectView) (object : Object) → O (found_fresh (record state { objects = objects }) caller key view object)
  fresh_opens objects key view (Ordinary response) = stays caller state _ refl refl
  fresh_opens objects key view (HitForMiss marker) = opens caller state _ _ refl refl refl
  fresh_opens objects key view (HitForPass marker) = stays caller state _ refl refl

  grace_opens : (objects : List Held) (key : List (List ℕ)) (view : ObjectView) (open_ : Option ℕ) → O (found_grace (record state { objects = objects }) caller key view open_)
  grace_opens objects key view None = opens caller state _ _ refl refl refl
  grace_opens objects key view (Some token) = stays caller state _ refl refl

  wait_opens : (objects : List Held) (key : List (List ℕ)) (stale : Option ObjectView) (open_ : Option ℕ) → O (waited_or_missed (record state { objects = objects }) caller key stale open_)
  wait_opens objects key stale None = opens caller state _ _ refl refl refl
  wait_opens objects key stale (Some token) = stays caller state _ refl refl

  other_opens : (objects : List Held) (query : Query) (grace stale : Option ObjectView) → O (found_other (record state { objects = objects }) caller query grace stale)
  other_opens objects query (Some view) stale = grace_opens objects query.key view (least_token query.key state.fetches)
  other_opens objects query None stale = wait_opens objects query.key stale (busy query (least_token query.key state.fetches))

  found_opens : (objects : List Held) (query : Query) (fresh grace stale : Option ObjectView) → O (found (record state { objects = objects }) caller query fresh grace stale)
  found_opens objects query (Some view) grace stale = fresh_opens objects query.key view view.object
  found_opens objects query None grace stale = other_opens objects query grace stale

  sought_opens : (query : Query) → O (sought state caller query)
  sought_opens query =
      let scan : Scan Held = scanned state.moment query state.objects in
      either O query.options.always_miss _ _ (opens caller state _ _ refl refl refl) (found_opens scan.objects query scan.fresh scan.grace scan.stale)

  abbrev K : Step → Type 0
  K step = Keeps caller state step.state

  same : (after : State) → after.rounds ≡ state.rounds → after.fetches ≡ state.fetches → Keeps caller state after
  same after rounds fetches = still caller state after rounds fetches

  without : (token : ℕ) (after : State) → after.rounds ≡ state.rounds → after.fetches ≡ filter (λ (f : OpenFetch). not (f.token == token)) state.fetches → Keeps caller state after
  without token after rounds fetches = fewer caller state after (λ (f : OpenFetch). not (f.token == token)) rounds fetches

  picked_keeps : (vcl : ℕ) (target : Target) (place : Option ℕ) → K (picked_at state vcl target place)
  picked_keeps vcl target None = same _ refl refl
  picked_keeps vcl target (Some place) = same _ refl refl

  switched_keeps : (found_ : Option LoadedVcl) → K (switched_to state found_)
  switched_keeps None = same _ refl refl
  switched_keeps (Some found_) = same _ refl refl

  discarded_keeps : (found_ : Option LoadedVcl) → K (discarded_of state found_)
  discarded_keeps None = same _ refl refl
  discarded_keeps (Some found_) = either K (found_.vcl.number == state.active.number) _ _ (same _ refl refl) (same _ refl refl)

  pub keeps : (room : ℕ) (call : Call) → K (answered room state caller call)
  keeps room Begin = either K (has_round state.rounds caller) _ _ (same _ refl refl) (begins caller state _ _ refl refl refl)
  keeps room Draw = either K (has_round state.rounds caller) _ _ (same _ refl refl) (same _ refl refl)
  keeps room (Lookup query) =
      either_known K (has_round state.rounds caller) _ _ (λ has. remembers caller _ state _ _ has (sought_opens query) refl refl) (same _ refl refl)
  keeps room (Pick vcl target word) = picked_keeps vcl target (chosen state.health state.counters vcl target word)
  keeps room (Insert token object stale) =
      either K (has_fetch state.fetches caller token) _ _
      (either K (is_gone stale state.objects) _ _ (same _ refl refl)
      (either K (in_time state.moment object) _ _
      (either K (has_no_room room (size_of object) (without_stale stale state.objects)) _ _ (without token _ refl refl) (without token _ refl refl)) (without token _ refl refl))) (same _ refl refl)
  keeps room (Ban ban) = same _ refl refl
  keeps room BanList = same _ refl refl
  keeps room (Purge key) = same _ refl refl
  keeps room (Xkey keys soft) = same _ refl refl
  keeps room (SetHealth backend given) = either K (list_any (bytes_eq backend) state.active.backends) _ _ (same _ refl refl) (same _ refl refl)
  keeps room (Load source) = either K (is_taken source.name state.vcls) _ _ (same _ refl refl) (same _ refl refl)
  keeps room (Switch name) = switched_keeps (called name state.vcls)
  keeps room (Discard name) = discarded_keeps (called name state.vcls)
  keeps room VclList = same _ refl refl
  keeps room (Drop token) = either K (has_fetch state.fetches caller token) _ _ (without token _ refl refl) (same _ refl refl)
  keeps room End = either K (has_round state.rounds caller) _ _ (ends caller state _ refl refl) (same _ refl refl)

  pub refused_keeps : (call : Call) → Keeps caller state (refused state call)
  refused_keeps (Insert token object stale) = without token _ refl refl
  refused_keeps call = same _ refl refl

behind_either : (P : State → Type 0) (reply : Reply) (refusal law : State) → P refusal → P law → P (behind reply refusal law)
behind_either P Refused refusal law r l = r
behind_either P reply refusal law r l = l

-- a call keeps so, whatever it is answered
pub call_keeps : (params : Params) (state : State) (caller moment : ℕ) (call : Call) (reply : Reply) → Keeps caller state (after params state caller moment call reply)
call_keeps params state caller moment call reply =
    let now = at_moment moment state in
    let keeps' = behind_either (Keeps caller now) reply _ _ (refused_keeps caller now call) (keeps caller now params.room call) in
    record { rounds = keeps'.rounds; others = keeps'.others }
