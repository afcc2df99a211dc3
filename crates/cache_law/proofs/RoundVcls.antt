-- A round runs under the VCL that its beginning was told.
use Rattle.std.proofs.Common.{◌≡◌, ℕ, Bool, true, false, not, cond, List, [], ◌∷◌, ◌++◌, ◌==◌, ◌&&◌, ◌||◌, Option, Some, None, filter, map, find, refl, sym, ap, ◌∙◌, subst, inl, inr}
use Rattle.std.specs.List.{list_any}
use Rattle.std.proofs.lemmas.Bool.{true≢false, false≢true, eq-eqb, eqb-true, and_parts, or_right}
use Rattle.cache_law.specs.declared.setting.Params.{Params}
use Rattle.cache_law.specs.declared.state.OpenRound.{OpenRound}
use Rattle.cache_law.specs.declared.vcl.Vcl.{Vcl}
use Rattle.cache_law.specs.declared.vcl.LoadedVcl.{LoadedVcl}
use Rattle.cache_law.specs.declared.call.Call.{Call}
use Rattle.cache_law.specs.declared.call.Call.TheVariants.{Begin, Draw, Lookup, Pick, Insert, Ban, BanList, Purge, Xkey, SetHealth, Load, Switch, Discard, VclList, Drop, End}
use Rattle.cache_law.specs.declared.call.Reply.{Reply}
use Rattle.cache_law.specs.declared.call.Reply.TheVariants.{Began, Bans}
use Rattle.cache_law.specs.declared.call.Entry.{Entry}
use Rattle.cache_law.specs.State.{State, at_moment, has_round, has_fetch, remembering, with_wait, without_round_of}
use Rattle.cache_law.specs.Vcls.{is_called, called, is_under, stays, those_staying, discarding}
use Rattle.cache_law.specs.Beginning.{Beginning}
use Rattle.cache_law.specs.Law.{Step, answered, refused, after, step_of, switched_to, discarded_of, MayAnswer, IsBanList}
use Rattle.cache_law.specs.History.{Legal, next_state, reached_from, reached}
use Rattle.cache_law.specs.Bases.{IsSound}
use Rattle.cache_law.specs.RoundVcls.{IsOneOf, RunsUnder, StaysOpen, is_end}
use Rattle.cache_law.proofs.Growth.{behind_either}
use Rattle.cache_law.proofs.Numbers.{reached-append}
use Rattle.cache_law.proofs.Leaves.{either, either_known, looked_leaf, inserted_leaf, picked_leaf, health_leaf, loaded_leaf, switched_leaf, discarded_leaf}
use Rattle.cache_law.proofs.Serving.{follows_from}

-- a VCL stays among them
one-append : (loaded : LoadedVcl) (vcls more : List LoadedVcl) → IsOneOf loaded vcls → IsOneOf loaded (vcls ++ more)
one-append loaded [] more one = absurd one
one-append loaded (other ∷ vcls) more (inl same) = inl same
one-append loaded (other ∷ vcls) more (inr one) = inr (one-append loaded vcls more one)

one-map : (f : LoadedVcl → LoadedVcl) (loaded : LoadedVcl) (vcls : List LoadedVcl) → IsOneOf loaded vcls → IsOneOf (f loaded) (map f vcls)
one-map f loaded [] one = absurd one
one-map f loaded (other ∷ vcls) (inl same) = inl (ap f same)
one-map f loaded (other ∷ vcls) (inr one) = inr (one-map f loaded vcls one)

kept_first : (b : Bool) (loaded other : LoadedVcl) (kept : List LoadedVcl) → loaded ≡ other → b ≡ true → IsOneOf loaded (cond b (other ∷ kept) kept)
kept_first true loaded other kept same e = inl same
kept_first false loaded other kept same e = absurd (false≢true e)

kept_later : (b : Bool) (loaded other : LoadedVcl) (kept : List LoadedVcl) → IsOneOf loaded kept → IsOneOf loaded (cond b (other ∷ kept) kept)
kept_later true loaded other kept one = inr one
kept_later false loaded other kept one = one

one-filter : (test : LoadedVcl → Bool) (loaded : LoadedVcl) (vcls : List LoadedVcl) → IsOneOf loaded vcls → test loaded ≡ true → IsOneOf loaded (filter test vcls)
one-filter test loaded [] one passes = absurd one
one-filter test loaded (other ∷ vcls) (inl same) passes = kept_first (test other) loaded other (filter test vcls) same (sym (ap test same) ∙ passes)
one-filter test loaded (other ∷ vcls) (inr one) passes = kept_later (test other) loaded other (filter test vcls) (one-filter test loaded vcls one passes)

find_step : (test : LoadedVcl → Bool) (b : Bool) (own loaded : LoadedVcl) (later : Option LoadedVcl) (vcls : List LoadedVcl) → b ≡ test own → (later ≡ Some loaded → IsOneOf loaded vcls × (test loaded ≡ true)) → cond b (Some own) later ≡ Some loaded
    → IsOneOf loaded (own ∷ vcls) × (test loaded ≡ true)
find_step test true own loaded later vcls a behind e =
    let same : own ≡ loaded = cc in (inl (sym same), sym (ap test same) ∙ sym a)
find_step test false own loaded later vcls a behind e = let there = behind e in (inr there.0, there.1)

-- what is found is one of them and passes
found_one : (test : LoadedVcl → Bool) (loaded : LoadedVcl) (vcls : List LoadedVcl) → find test vcls ≡ Some loaded → IsOneOf loaded vcls × (test loaded ≡ true)
found_one test loaded [] e = cc
found_one test loaded (own ∷ vcls) e = find_step test (test own) own loaded (find test vcls) vcls refl (found_one test loaded vcls) e

any_step : (vcl : ℕ) (own round : OpenRound) (later : Option OpenRound) (rest b : Bool) → round.vcl ≡ vcl → (later ≡ Some round → rest ≡ true) → cond b (Some own) later ≡ Some round → (is_under vcl own || rest) ≡ true
any_step vcl own round later rest true under behind found =
    let same : own ≡ round = cc in
    let here : is_under vcl own ≡ true = eq-eqb own.vcl vcl (ap (λ (r : OpenRound). r.vcl) same ∙ under) in rw (here) refl
any_step vcl own round later rest false under behind found = or_right (is_under vcl own) rest (behind found)

-- a round runs under the VCL of the caller's round
round_any : (caller vcl : ℕ) (round : OpenRound) (rounds : List OpenRound) → round.vcl ≡ vcl → find (λ (r : OpenRound). r.caller == caller) rounds ≡ Some round → list_any (is_under vcl) rounds ≡ true
round_any caller vcl round [] under e = cc
round_any caller vcl round (own ∷ rounds) under e =
    any_step vcl own round (find (λ (r : OpenRound). r.caller == caller) rounds) (list_any (is_under vcl) rounds) (own.caller == caller) under (round_any caller vcl round rounds under) e

has_step : (own round : OpenRound) (later : Option OpenRound) (rest b : Bool) → (later ≡ Some round → rest ≡ true) → cond b (Some own) later ≡ Some round → (b || rest) ≡ true
has_step own round later rest true behind found = refl
has_step own round later rest false behind found = behind found

has_found : (caller : ℕ) (round : OpenRound) (rounds : List OpenRound) → find (λ (r : OpenRound). r.caller == caller) rounds ≡ Some round → has_round rounds caller ≡ true
has_found caller round [] e = cc
has_found caller round (own ∷ rounds) e =
    has_step own round (find (λ (r : OpenRound). r.caller == caller) rounds) (has_round rounds caller) (own.caller == caller) (has_found caller round rounds) e

-- what a round remembers changes neither its caller nor its VCL
remembering_same : (caller : ℕ) (token : Option ℕ) (round : OpenRound) → ((remembering caller token round).caller ≡ round.caller) × ((remembering caller token round).vcl ≡ round.vcl)
remembering_same caller token round = by_own (round.caller == caller)
  where
    by_own : (b : Bool) → ((cond b (record round { waits = token }) round).caller ≡ round.caller) × ((cond b (record round { waits = token }) round).vcl ≡ round.vcl)
    by_own true = (refl, refl)
    by_own false = (refl, refl)

wait_step : (other : ℕ) (token : Option ℕ) (own round : OpenRound) (later late : Option OpenRound) (b : Bool) → (later ≡ Some round → late ≡ Some (remembering other token round)) → cond b (Some own) later ≡ Some round
    → cond b (Some (remembering other token own)) late ≡ Some (remembering other token round)
wait_step other token own round later late true behind found = let same : own ≡ round = cc in ap (λ (r : OpenRound). Some (remembering other token r)) same
wait_step other token own round later late false behind found = behind found

find-wait : (caller other : ℕ) (token : Option ℕ) (round : OpenRound) (rounds : List OpenRound) → find (λ (r : OpenRound). r.caller == caller) rounds ≡ Some round
    → find (λ (r : OpenRound). r.caller == caller) (with_wait other token rounds) ≡ Some (remembering other token round)
find-wait caller other token round [] e = cc
find-wait caller other token round (own ∷ rounds) e =
    rw (ap (λ (k : ℕ). k == caller) (remembering_same other token own).0)
    (wait_step other token own round (find (λ (r : OpenRound). r.caller == caller) rounds) _ (own.caller == caller) (find-wait caller other token round rounds) e)

apart : (own caller other : ℕ) → own ≡ caller → own ≡ other → (other == caller) ≡ false → ⊥
apart own caller other a b e = true≢false (sym (eq-eqb other caller (sym b ∙ a)) ∙ e)

without_step : (caller other : ℕ) (own round : OpenRound) (rounds kept : List OpenRound) (mine theirs : Bool) → mine ≡ (own.caller == caller) → theirs ≡ (own.caller == other) → (other == caller) ≡ false
    → (find (λ (r : OpenRound). r.caller == caller) rounds ≡ Some round → find (λ (r : OpenRound). r.caller == caller) kept ≡ Some round)
    → cond mine (Some own) (find (λ (r : OpenRound). r.caller == caller) rounds) ≡ Some round → find (λ (r : OpenRound). r.caller == caller) (cond (not theirs) (own ∷ kept) kept) ≡ Some round
without_step caller other own round rounds kept true true a b off behind found = absurd (apart own.caller caller other (eqb-true own.caller caller (sym a)) (eqb-true own.caller other (sym b)) off)
without_step caller other own round rounds kept true false a b off behind found = rw (sym a) found
without_step caller other own round rounds kept false true a b off behind found = behind found
without_step caller other own round rounds kept false false a b off behind found = rw (sym a) (behind found)

-- the end of another caller's round leaves the caller's
find-without : (caller other : ℕ) (round : OpenRound) (rounds : List OpenRound) → (other == caller) ≡ false → find (λ (r : OpenRound). r.caller == caller) rounds ≡ Some round
    → find (λ (r : OpenRound). r.caller == caller) (without_round_of other rounds) ≡ Some round
find-without caller other round [] off e = cc
find-without caller other round (own ∷ rounds) off e =
    without_step caller other own round rounds (without_round_of other rounds) (own.caller == caller) (own.caller == other) refl refl off (find-without caller other round rounds off) e

module _ (caller vcl : ℕ) (text : List ℕ) where
  -- where neither the rounds nor the VCLs change
  runs_on : (old new : State) → RunsUnder old caller vcl text → new.rounds ≡ old.rounds → new.vcls ≡ old.vcls → RunsUnder new caller vcl text
  runs_on old new runs rounds vcls =
      record {
        round = runs.round;
        opened = subst (λ (rs : List OpenRound). find (λ (r : OpenRound). r.caller == caller) rs ≡ Some runs.round) (sym rounds) runs.opened;
        under = runs.under;
        loaded = runs.loaded;
        there = subst (IsOneOf runs.loaded) (sym vcls) runs.there;
        numbered = runs.numbered;
        of_text = runs.of_text;
      }

  -- where a lookup is remembered
  runs_waiting : (old new : State) (other : ℕ) (token : Option ℕ) → RunsUnder old caller vcl text → new.rounds ≡ with_wait other token old.rounds → new.vcls ≡ old.vcls → RunsUnder new caller vcl text
  runs_waiting old new other token runs rounds vcls =
      record {
        round = remembering other token runs.round;
        opened = subst (λ (rs : List OpenRound). find (λ (r : OpenRound). r.caller == caller) rs ≡ Some (remembering other token runs.round)) (sym rounds) (find-wait caller other token runs.round old.rounds runs.opened);
        under = (remembering_same other token runs.round).1 ∙ runs.under;
        loaded = runs.loaded;
        there = subst (IsOneOf runs.loaded) (sym vcls) runs.there;
        numbered = runs.numbered;
        of_text = runs.of_text;
      }

  -- where another VCL is discarded or goes
  runs_staying : (old new : State) (f : LoadedVcl → LoadedVcl) → ((l : LoadedVcl) → (f l).vcl ≡ l.vcl) → RunsUnder old caller vcl text
      → find (λ (r : OpenRound). r.caller == caller) new.rounds ≡ find (λ (r : OpenRound). r.caller == caller) old.rounds → new.vcls ≡ those_staying new.rounds (map f old.vcls) → RunsUnder new caller vcl text
  runs_staying old new f same runs rounds vcls =
      let found = rounds ∙ runs.opened in
      let used = round_any caller vcl runs.round new.rounds runs.under found in
      let own : (f runs.loaded).vcl.number ≡ vcl = ap (λ (v : Vcl). v.number) (same runs.loaded) ∙ runs.numbered in
      let passes : stays new.rounds (f runs.loaded) ≡ true = or_right (not (f runs.loaded).is_discarded) _ (ap (λ (n : ℕ). list_any (is_under n) new.rounds) own ∙ used) in
      record {
        round = runs.round;
        opened = found;
        under = runs.under;
        loaded = f runs.loaded;
        there = subst (IsOneOf (f runs.loaded)) (sym vcls) (one-filter (stays new.rounds) (f runs.loaded) (map f old.vcls) (one-map f runs.loaded old.vcls runs.there) passes);
        numbered = own;
        of_text = ap (λ (v : Vcl). v.text) (same runs.loaded) ∙ runs.of_text;
      }

  abbrev Runs : Step → Type 0
  Runs step = RunsUnder step.state caller vcl text

  begun_step : (state : State) (other : ℕ) (own : Bool) → own ≡ (other == caller) → has_round state.rounds other ≡ false → RunsUnder state caller vcl text
      → find (λ (r : OpenRound). r.caller == caller) (record { caller = other; vcl = state.active.number; waits = None } ∷ state.rounds) ≡ find (λ (r : OpenRound). r.caller == caller) state.rounds
  begun_step state other true a none_ runs =
      absurd (true≢false (sym (subst (λ (k : ℕ). has_round state.rounds k ≡ true) (sym (eqb-true other caller (sym a))) (has_found caller runs.round state.rounds runs.opened)) ∙ none_))
  begun_step state other false a none_ runs = rw (sym a) refl

  id_map : (vcls : List LoadedVcl) → map (λ (l : LoadedVcl). l) vcls ≡ vcls
  id_map [] = refl
  id_map (l ∷ ls) = ap (λ (rest : List LoadedVcl). l ∷ rest) (id_map ls)

  discarding_vcl : (number : ℕ) (l : LoadedVcl) → (discarding number l).vcl ≡ l.vcl
  discarding_vcl number l = by_own (l.vcl.number == number)
    where
      by_own : (b : Bool) → (cond b (record l { is_discarded = true }) l).vcl ≡ l.vcl
      by_own true = refl
      by_own false = refl

  -- behind each call but the end of the caller's own round it goes on under its VCL
  runs_behind : (room : ℕ) (state : State) (other : ℕ) (call : Call) → ((other == caller) && is_end call) ≡ false → RunsUnder state caller vcl text → Runs (answered room state other call)
  runs_behind room state other Begin open_ runs =
      either_known Runs (has_round state.rounds other) _ _ (λ has. runs)
      (λ none_. record {
        round = runs.round;
        opened = begun_step state other (other == caller) refl none_ runs ∙ runs.opened;
        under = runs.under;
        loaded = runs.loaded;
        there = runs.there;
        numbered = runs.numbered;
        of_text = runs.of_text;
      })
  runs_behind room state other Draw open_ runs = either Runs (has_round state.rounds other) _ _ (runs_on state _ runs refl refl) runs
  runs_behind room state other (Lookup query) open_ runs =
      looked_leaf Runs state other query runs (record {
        misses = λ objects stale. runs_waiting state _ other _ runs refl refl;
        hits = λ objects view. runs_waiting state _ other _ runs refl refl;
        hits_miss = λ objects view. runs_waiting state _ other _ runs refl refl;
        passes = λ objects view. runs_waiting state _ other _ runs refl refl;
        graces = λ objects view. runs_waiting state _ other _ runs refl refl;
        graces_alone = λ objects view. runs_waiting state _ other _ runs refl refl;
        waits = λ objects token. runs_waiting state _ other _ runs refl refl;
      })
  runs_behind room state other (Pick number target word) open_ runs = picked_leaf Runs state number target word runs (λ place. runs_on state _ runs refl refl)
  runs_behind room state other (Insert token object stale) open_ runs =
      inserted_leaf Runs room state other token object stale (record {
        opens_not = runs;
        gone = runs;
        late = runs_on state _ runs refl refl;
        full = runs_on state _ runs refl refl;
        stores = runs_on state _ runs refl refl;
      })
  runs_behind room state other (Ban ban) open_ runs = runs_on state _ runs refl refl
  runs_behind room state other BanList open_ runs = runs
  runs_behind room state other (Purge key) open_ runs = runs_on state _ runs refl refl
  runs_behind room state other (Xkey keys soft) open_ runs = runs_on state _ runs refl refl
  runs_behind room state other (SetHealth backend given) open_ runs = health_leaf Runs state backend given (runs_on state _ runs refl refl) runs
  runs_behind room state other (Load source) open_ runs =
      loaded_leaf Runs state source runs (record {
        round = runs.round;
        opened = runs.opened;
        under = runs.under;
        loaded = runs.loaded;
        there = one-append runs.loaded state.vcls _ runs.there;
        numbered = runs.numbered;
        of_text = runs.of_text;
      })
  runs_behind room state other (Switch name) open_ runs = switched_leaf Runs state name runs (λ own. runs_on state _ runs refl refl)
  runs_behind room state other (Discard name) open_ runs =
      discarded_leaf Runs state name runs runs (λ number. runs_staying state _ (discarding number) (discarding_vcl number) runs refl refl)
  runs_behind room state other VclList open_ runs = runs
  runs_behind room state other (Drop token) open_ runs = either Runs (has_fetch state.fetches other token) _ _ (runs_on state _ runs refl refl) runs
  runs_behind room state other End open_ runs =
      either Runs (has_round state.rounds other) _ _
      (runs_staying state _ (λ (l : LoadedVcl). l) (λ l. refl) runs
      (find-without caller other runs.round state.rounds (left_false (other == caller) open_) runs.opened ∙ sym runs.opened)
      (ap (those_staying (without_round_of other state.rounds)) (sym (id_map state.vcls)))) runs
    where
      left_false : (b : Bool) → (b && true) ≡ false → b ≡ false
      left_false true e = e
      left_false false e = refl

  runs_refused : (state : State) (call : Call) → RunsUnder state caller vcl text → RunsUnder (refused state call) caller vcl text
  runs_refused state (Insert token object stale) runs = runs_on state _ runs refl refl
  runs_refused state call runs = runs

  runs_from : (params : Params) (state : State) (entries : List Entry) → StaysOpen caller entries → RunsUnder state caller vcl text → RunsUnder (reached_from params state entries) caller vcl text
  runs_from params state [] open_ runs = runs
  runs_from params state (e ∷ es) open_ runs =
      let now : RunsUnder (at_moment e.moment state) caller vcl text = runs_on state _ runs refl refl in
      runs_from params (next_state params state e) es open_.1
      (runs_on _ _ (behind_either (λ (s : State). RunsUnder s caller vcl text) e.reply _ _ (runs_refused (at_moment e.moment state) e.call now) (runs_behind params.room (at_moment e.moment state) e.caller e.call open_.0 now)) refl refl)

-- the active VCL is one of the VCLs, and isn't discarded
pub record ActiveIsThere (state : State) : Type 0 where
  pub loaded : LoadedVcl
  pub there : IsOneOf loaded state.vcls
  pub active : loaded.vcl ≡ state.active
  pub kept : loaded.is_discarded ≡ false

abbrev Active : Step → Type 0
Active step = ActiveIsThere step.state

active_on : (old new : State) → ActiveIsThere old → new.active ≡ old.active → new.vcls ≡ old.vcls → ActiveIsThere new
active_on old new is active vcls =
    record { loaded = is.loaded; there = subst (IsOneOf is.loaded) (sym vcls) is.there; active = is.active ∙ sym active; kept = is.kept }

-- what isn't discarded stays
active_staying : (old new : State) (f : LoadedVcl → LoadedVcl) → (is : ActiveIsThere old) → f is.loaded ≡ is.loaded → new.active ≡ old.active → new.vcls ≡ those_staying new.rounds (map f old.vcls) → ActiveIsThere new
active_staying old new f is same active vcls =
    let passes : stays new.rounds is.loaded ≡ true = rw (is.kept) refl in
    record {
      loaded = is.loaded;
      there = subst (IsOneOf is.loaded) (sym vcls)
          (one-filter (stays new.rounds) is.loaded (map f old.vcls) (subst (λ (l : LoadedVcl). IsOneOf l (map f old.vcls)) same (one-map f is.loaded old.vcls is.there)) passes);
      active = is.active ∙ sym active;
      kept = is.kept;
    }

active_switched : (state : State) (name : List ℕ) (found : Option LoadedVcl) → found ≡ called name state.vcls → ActiveIsThere state → Active (switched_to state found)
active_switched state name None e is = is
active_switched state name (Some own) e is =
    let there = found_one (is_called name) own state.vcls (sym e) in
    record { loaded = own; there = there.0; active = refl; kept = not_true own.is_discarded (and_parts (not own.is_discarded) _ there.1).0 }
  where
    not_true : (b : Bool) → not b ≡ true → b ≡ false
    not_true true e = absurd (false≢true e)
    not_true false e = refl

active_discarded : (state : State) (found : Option LoadedVcl) → ActiveIsThere state → Active (discarded_of state found)
active_discarded state None is = is
active_discarded state (Some own) is =
    either_known Active (own.vcl.number == state.active.number) _ _ (λ same. is)
    (λ other. active_staying state _ (discarding own.vcl.number) is (left_alone other) refl refl)
  where
    left_alone : (own.vcl.number == state.active.number) ≡ false → discarding own.vcl.number is.loaded ≡ is.loaded
    left_alone other = by_own (is.loaded.vcl.number == own.vcl.number) refl
      where
        by_own : (b : Bool) → b ≡ (is.loaded.vcl.number == own.vcl.number) → cond b (record is.loaded { is_discarded = true }) is.loaded ≡ is.loaded
        by_own true a =
            absurd (true≢false (sym (eq-eqb own.vcl.number state.active.number (sym (eqb-true is.loaded.vcl.number own.vcl.number (sym a)) ∙ ap (λ (v : Vcl). v.number) is.active)) ∙ other))
        by_own false a = refl

active_behind : (room : ℕ) (state : State) (caller : ℕ) (call : Call) → ActiveIsThere state → Active (answered room state caller call)
active_behind room state caller Begin is = either Active (has_round state.rounds caller) _ _ is (active_on state _ is refl refl)
active_behind room state caller Draw is = either Active (has_round state.rounds caller) _ _ (active_on state _ is refl refl) is
active_behind room state caller (Lookup query) is =
    looked_leaf Active state caller query is (record {
      misses = λ objects stale. active_on state _ is refl refl;
      hits = λ objects view. active_on state _ is refl refl;
      hits_miss = λ objects view. active_on state _ is refl refl;
      passes = λ objects view. active_on state _ is refl refl;
      graces = λ objects view. active_on state _ is refl refl;
      graces_alone = λ objects view. active_on state _ is refl refl;
      waits = λ objects token. active_on state _ is refl refl;
    })
active_behind room state caller (Pick number target word) is = picked_leaf Active state number target word is (λ place. active_on state _ is refl refl)
active_behind room state caller (Insert token object stale) is =
    inserted_leaf Active room state caller token object stale (record {
      opens_not = is;
      gone = is;
      late = active_on state _ is refl refl;
      full = active_on state _ is refl refl;
      stores = active_on state _ is refl refl;
    })
active_behind room state caller (Ban ban) is = active_on state _ is refl refl
active_behind room state caller BanList is = is
active_behind room state caller (Purge key) is = active_on state _ is refl refl
active_behind room state caller (Xkey keys soft) is = active_on state _ is refl refl
active_behind room state caller (SetHealth backend given) is = health_leaf Active state backend given (active_on state _ is refl refl) is
active_behind room state caller (Load source) is =
    loaded_leaf Active state source is (record { loaded = is.loaded; there = one-append is.loaded state.vcls _ is.there; active = is.active; kept = is.kept })
active_behind room state caller (Switch name) is = active_switched state name (called name state.vcls) refl is
active_behind room state caller (Discard name) is = active_discarded state (called name state.vcls) is
active_behind room state caller VclList is = is
active_behind room state caller (Drop token) is = either Active (has_fetch state.fetches caller token) _ _ (active_on state _ is refl refl) is
active_behind room state caller End is =
    either Active (has_round state.rounds caller) _ _ (active_staying state _ (λ (l : LoadedVcl). l) is refl refl (ap (those_staying (without_round_of caller state.rounds)) (sym (same_vcls state.vcls)))) is
  where
    same_vcls : (vcls : List LoadedVcl) → map (λ (l : LoadedVcl). l) vcls ≡ vcls
    same_vcls [] = refl
    same_vcls (l ∷ ls) = ap (λ (rest : List LoadedVcl). l ∷ rest) (same_vcls ls)

active_refused : (state : State) (call : Call) → ActiveIsThere state → ActiveIsThere (refused state call)
active_refused state (Insert token object stale) is = active_on state _ is refl refl
active_refused state call is = is

pub active_from : (params : Params) (state : State) (entries : List Entry) → ActiveIsThere state → ActiveIsThere (reached_from params state entries)
active_from params state [] is = is
active_from params state (e ∷ es) is =
    let now : ActiveIsThere (at_moment e.moment state) = active_on state _ is refl refl in
    active_from params (next_state params state e) es
    (active_on _ _ (behind_either ActiveIsThere e.reply _ _ (active_refused (at_moment e.moment state) e.call now) (active_behind params.room (at_moment e.moment state) e.caller e.call now)) refl refl)

-- a step that says that a round began left it under the VCL that it names
abbrev BeginsUnder : ℕ → ℕ → ℕ → List ℕ → Step → Type 0
BeginsUnder caller number vcl text step = step.reply ≡ Began number vcl text → RunsUnder step.state caller vcl text

begins_under : (room : ℕ) (state : State) (caller : ℕ) (call : Call) (number vcl : ℕ) (text : List ℕ) → ActiveIsThere state → BeginsUnder caller number vcl text (answered room state caller call)
begins_under room state caller Begin number vcl text is =
    either (BeginsUnder caller number vcl text) (has_round state.rounds caller) _ _ (λ e. cc)
    (λ e.
    let own : state.active.number ≡ vcl = cc in
    let its : state.active.text ≡ text = cc in
    record {
      round = record { caller = caller; vcl = state.active.number; waits = None };
      opened = rw (eq-eqb caller caller refl) refl;
      under = own;
      loaded = is.loaded;
      there = is.there;
      numbered = ap (λ (v : Vcl). v.number) is.active ∙ own;
      of_text = ap (λ (v : Vcl). v.text) is.active ∙ its;
    })
begins_under room state caller Draw number vcl text is = either (BeginsUnder caller number vcl text) (has_round state.rounds caller) _ _ (λ e. cc) (λ e. cc)
begins_under room state caller (Lookup query) number vcl text is =
    looked_leaf (BeginsUnder caller number vcl text) state caller query (λ e. cc) (record {
      misses = λ objects stale e. cc;
      hits = λ objects view e. cc;
      hits_miss = λ objects view e. cc;
      passes = λ objects view e. cc;
      graces = λ objects view e. cc;
      graces_alone = λ objects view e. cc;
      waits = λ objects token e. cc;
    })
begins_under room state caller (Pick own target word) number vcl text is = picked_leaf (BeginsUnder caller number vcl text) state own target word (λ e. cc) (λ place e. cc)
begins_under room state caller (Insert token object stale) number vcl text is =
    inserted_leaf (BeginsUnder caller number vcl text) room state caller token object stale (record { opens_not = λ e. cc; gone = λ e. cc; late = λ e. cc; full = λ e. cc; stores = λ e. cc })
begins_under room state caller (Ban ban) number vcl text is = λ e. cc
begins_under room state caller BanList number vcl text is = λ e. cc
begins_under room state caller (Purge key) number vcl text is = λ e. cc
begins_under room state caller (Xkey keys soft) number vcl text is = λ e. cc
begins_under room state caller (SetHealth backend given) number vcl text is = health_leaf (BeginsUnder caller number vcl text) state backend given (λ e. cc) (λ e. cc)
begins_under room state caller (Load source) number vcl text is = loaded_leaf (BeginsUnder caller number vcl text) state source (λ e. cc) (λ e. cc)
begins_under room state caller (Switch name) number vcl text is = switched_leaf (BeginsUnder caller number vcl text) state name (λ e. cc) (λ own e. cc)
begins_under room state caller (Discard name) number vcl text is = discarded_leaf (BeginsUnder caller number vcl text) state name (λ e. cc) (λ e. cc) (λ own e. cc)
begins_under room state caller VclList number vcl text is = λ e. cc
begins_under room state caller (Drop token) number vcl text is = either (BeginsUnder caller number vcl text) (has_fetch state.fetches caller token) _ _ (λ e. cc) (λ e. cc)
begins_under room state caller End number vcl text is = either (BeginsUnder caller number vcl text) (has_round state.rounds caller) _ _ (λ e. cc) (λ e. cc)

no_list : (state : State) (answer : Reply) (number vcl : ℕ) (text : List ℕ) → IsBanList state answer → answer ≡ Began number vcl text → ⊥
no_list state (Bans lines) number vcl text shows e = cc
no_list state answer number vcl text shows e = shows

began_by_law : (state : State) (call : Call) (law answer : Reply) (number vcl : ℕ) (text : List ℕ) → MayAnswer state call law answer → answer ≡ Began number vcl text → law ≡ Began number vcl text
began_by_law state (Insert token object stale) law answer number vcl text (inl same) e = sym same ∙ e
began_by_law state (Insert token object stale) law answer number vcl text (inr free) e = cc
began_by_law state BanList law answer number vcl text may e = absurd (no_list state answer number vcl text may e)
began_by_law state call law answer number vcl text may e = sym may ∙ e

pub round_keeps : (beginning : Beginning) (before between behind : List Entry) (begin : Entry) (number vcl : ℕ) (text : List ℕ) → IsSound beginning.base
    → Legal beginning (before ++ begin ∷ (between ++ behind)) → begin.reply ≡ Began number vcl text → StaysOpen begin.caller between
    → RunsUnder (reached beginning (before ++ begin ∷ between)) begin.caller vcl text
round_keeps beginning before between behind begin number vcl text sound legal told open_ =
    let params : Params = beginning.params in
    let state : State = reached beginning before in
    let now : State = at_moment begin.moment state in
    let follows = follows_from params beginning.base before (between ++ behind) begin legal.follow in
    let is : ActiveIsThere state = active_from params beginning.base before (record { loaded = record { vcl = beginning.base.active; is_discarded = false }; there = sound.active; active = refl; kept = refl }) in
    let law = began_by_law now begin.call (step_of params state begin.caller begin.moment begin.call).reply begin.reply number vcl text follows.answer told in
    let here = begins_under params.room now begin.caller begin.call number vcl text (active_on state _ is refl refl) law in
    let next : RunsUnder (next_state params state begin) begin.caller vcl text =
    subst (λ (r : Reply). RunsUnder (after params state begin.caller begin.moment begin.call r) begin.caller vcl text) (sym told) (runs_on begin.caller vcl text _ _ here refl refl) in
    subst (λ (s : State). RunsUnder s begin.caller vcl text) (sym (reached-append beginning before (begin ∷ between)))
    (runs_from begin.caller vcl text params (next_state params state begin) between open_ next)
