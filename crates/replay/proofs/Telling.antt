-- What a call does to what clients were told to wait for.
use Rattle.std.proofs.Common.{◌≡◌, ◌⊎◌, inl, inr, ℕ, Bool, true, false, not, cond, ◌||◌, ◌==◌, List, [], ◌∷◌, Option, Some, None, option_and_then, refl, sym, ◌∙◌, ap, subst}
use Rattle.std.proofs.lemmas.Bool.{ne_eqb, eq-eqb, eqb-true}
use Rattle.cache_law.specs.declared.object.Object.{Object}
use Rattle.cache_law.specs.declared.call.Call.{Call}
use Rattle.cache_law.specs.declared.call.Call.TheVariants.{Begin, Draw, Lookup, Pick, Insert, Ban, BanList, Purge, Xkey, SetHealth, Load, Switch, Discard, VclList, Drop, End}
use Rattle.cache_law.specs.declared.call.Query.{Query}
use Rattle.cache_law.specs.declared.call.Reply.{Reply}
use Rattle.cache_law.specs.declared.call.Reply.TheVariants.{Refused, Bans}
use Rattle.cache_law.specs.declared.call.Entry.{Entry}
use Rattle.cache_law.specs.declared.state.OpenRound.{OpenRound}
use Rattle.cache_law.specs.Beginning.{Beginning}
use Rattle.cache_law.specs.History.{next_state}
use Rattle.cache_law.specs.Law.{Step, MayAnswer, IsBanList, answered, refused, behind, sought, wait_in}
use Rattle.cache_law.specs.State.{State, at_moment, has_round, has_fetch, told_to_wait, with_wait, without_round_of}
use Rattle.cache_law.proofs.Growth.{behind_either}
use Rattle.cache_law.proofs.Leaves.{either, looked_leaf, inserted_leaf, sought_leaf, picked_leaf, health_leaf, loaded_leaf, switched_leaf, discarded_leaf}
use Rattle.replay.specs.Policy.{ends_wait, is_reply_to}
use Rattle.replay.proofs.Replies.{lawful_reply}

abbrev waits_in : Option OpenRound → Option ℕ
waits_in found = option_and_then (λ (round : OpenRound). round.waits) found

-- the first that is found, or one behind it
or_behind : (b : Bool) (round : OpenRound) (one two : Option OpenRound) → waits_in one ≡ waits_in two → waits_in (cond b (Some round) one) ≡ waits_in (cond b (Some round) two)
or_behind true round one two e = refl
or_behind false round one two e = e

passed_by : (b : Bool) (round : OpenRound) (one : Option OpenRound) → b ≡ false → cond b (Some round) one ≡ one
passed_by true round one e = absurd (cc)
passed_by false round one e = refl

first_here : (b : Bool) (round : OpenRound) (one : Option OpenRound) → b ≡ true → cond b (Some round) one ≡ Some round
first_here true round one e = refl
first_here false round one e = absurd (cc)

told_first : (caller : ℕ) (round : OpenRound) (rounds : List OpenRound) → (round.caller == caller) ≡ true → told_to_wait (round ∷ rounds) caller ≡ round.waits
told_first caller round rounds e = ap waits_in (first_here (round.caller == caller) round _ e)

told_behind : (caller : ℕ) (round : OpenRound) (rounds : List OpenRound) → (round.caller == caller) ≡ false → told_to_wait (round ∷ rounds) caller ≡ told_to_wait rounds caller
told_behind caller round rounds e = ap waits_in (passed_by (round.caller == caller) round _ e)

-- a number that is one isn't the other
not_both : (n one other : ℕ) → (other ≡ one → ⊥) → (n == one) ≡ true → (n == other) ≡ false
not_both n one other apart e = ne_eqb n other (λ same. apart (sym same ∙ eqb-true n one e))

module _ (caller other : ℕ) (apart : other ≡ caller → ⊥) where
  remembered_there : (b : Bool) (word : Option ℕ) (round : OpenRound) (more rounds : List OpenRound) → (round.caller == caller) ≡ b → told_to_wait more other ≡ told_to_wait rounds other → told_to_wait (cond b (record round { waits = word }) round ∷ more) other ≡ told_to_wait (round ∷ rounds) other
  remembered_there true word round more rounds e rest =
      told_behind other (record round { waits = word }) more (not_both round.caller caller other apart e) ∙ (rest ∙ sym (told_behind other round rounds (not_both round.caller caller other apart e)))
  remembered_there false word round more rounds e rest = or_behind (round.caller == other) round _ _ rest

  pub others_remembered : (word : Option ℕ) (rounds : List OpenRound) → told_to_wait (with_wait caller word rounds) other ≡ told_to_wait rounds other
  others_remembered word [] = refl
  others_remembered word (round ∷ rounds) = remembered_there (round.caller == caller) word round (with_wait caller word rounds) rounds refl (others_remembered word rounds)

  ended_there : (b : Bool) (round : OpenRound) (more rounds : List OpenRound) → (round.caller == caller) ≡ b → told_to_wait more other ≡ told_to_wait rounds other → told_to_wait (cond (not b) (round ∷ more) more) other ≡ told_to_wait (round ∷ rounds) other
  ended_there true round more rounds e rest = rest ∙ sym (told_behind other round rounds (not_both round.caller caller other apart e))
  ended_there false round more rounds e rest = or_behind (round.caller == other) round _ _ rest

  others_ended : (rounds : List OpenRound) → told_to_wait (without_round_of caller rounds) other ≡ told_to_wait rounds other
  others_ended [] = refl
  others_ended (round ∷ rounds) = ended_there (round.caller == caller) round (without_round_of caller rounds) rounds refl (others_ended rounds)

module _ (caller : ℕ) where
  remembered_here : (b : Bool) (word : Option ℕ) (round : OpenRound) (more rounds : List OpenRound) → (round.caller == caller) ≡ b → (b || has_round rounds caller) ≡ true → (has_round rounds caller ≡ true → told_to_wait more caller ≡ word) → told_to_wait (cond b (record round { waits = word }) round ∷ more) caller ≡ word
  remembered_here true word round more rounds e any rest = told_first caller (record round { waits = word }) more e
  remembered_here false word round more rounds e any rest = told_behind caller round more e ∙ rest any

  own_remembered : (word : Option ℕ) (rounds : List OpenRound) → has_round rounds caller ≡ true → told_to_wait (with_wait caller word rounds) caller ≡ word
  own_remembered word [] any = absurd (cc)
  own_remembered word (round ∷ rounds) any = remembered_here (round.caller == caller) word round (with_wait caller word rounds) rounds refl any (own_remembered word rounds)

  none_here : (b : Bool) (round : OpenRound) (rounds : List OpenRound) → (round.caller == caller) ≡ b → (b || has_round rounds caller) ≡ false → (has_round rounds caller ≡ false → told_to_wait rounds caller ≡ None) → told_to_wait (round ∷ rounds) caller ≡ None
  none_here true round rounds e any rest = absurd (cc)
  none_here false round rounds e any rest = told_behind caller round rounds e ∙ rest any

  own_none : (rounds : List OpenRound) → has_round rounds caller ≡ false → told_to_wait rounds caller ≡ None
  own_none [] any = refl
  own_none (round ∷ rounds) any = none_here (round.caller == caller) round rounds refl any (own_none rounds)

  ended_here : (b : Bool) (round : OpenRound) (more : List OpenRound) → (round.caller == caller) ≡ b → told_to_wait more caller ≡ None → told_to_wait (cond (not b) (round ∷ more) more) caller ≡ None
  ended_here true round more e rest = rest
  ended_here false round more e rest = told_behind caller round more e ∙ rest

  own_ended : (rounds : List OpenRound) → told_to_wait (without_round_of caller rounds) caller ≡ None
  own_ended [] = refl
  own_ended (round ∷ rounds) = ended_here (round.caller == caller) round (without_round_of caller rounds) refl (own_ended rounds)

-- what others were told stays
module _ (state : State) (caller other : ℕ) (apart : other ≡ caller → ⊥) where
  abbrev Others : Step → Type 0
  Others step = told_to_wait step.state.rounds other ≡ told_to_wait state.rounds other

  others_begun : told_to_wait (record { caller = caller; vcl = state.active.number; waits = None } ∷ state.rounds) other ≡ told_to_wait state.rounds other
  others_begun = told_behind other _ state.rounds (ne_eqb caller other (λ same. apart (sym same)))

  others_answered : (room : ℕ) (call : Call) → Others (answered room state caller call)
  others_answered room Begin = either Others (has_round state.rounds caller) _ _ refl others_begun
  others_answered room Draw = either Others (has_round state.rounds caller) _ _ refl refl
  others_answered room (Lookup query) =
      looked_leaf Others state caller query refl (record {
        misses = λ objects stale. others_remembered caller other apart _ state.rounds;
        hits = λ objects view. others_remembered caller other apart _ state.rounds;
        hits_miss = λ objects view. others_remembered caller other apart _ state.rounds;
        passes = λ objects view. others_remembered caller other apart _ state.rounds;
        graces = λ objects view. others_remembered caller other apart _ state.rounds;
        graces_alone = λ objects view. others_remembered caller other apart _ state.rounds;
        waits = λ objects token. others_remembered caller other apart _ state.rounds;
      })
  others_answered room (Pick vcl target word) = picked_leaf Others state vcl target word refl (λ place. refl)
  others_answered room (Ban ban) = refl
  others_answered room BanList = refl
  others_answered room (Purge key) = refl
  others_answered room (Xkey keys soft) = refl
  others_answered room (SetHealth backend given) = health_leaf Others state backend given refl refl
  others_answered room (Load source) = loaded_leaf Others state source refl refl
  others_answered room (Switch name) = switched_leaf Others state name refl (λ vcl. refl)
  others_answered room (Discard name) = discarded_leaf Others state name refl refl (λ number. refl)
  others_answered room VclList = refl
  others_answered room (Insert token object stale) =
      inserted_leaf Others room state caller token object stale (record { opens_not = refl; gone = refl; late = refl; full = refl; stores = refl })
  others_answered room (Drop token) = either Others (has_fetch state.fetches caller token) _ _ refl refl
  others_answered room End = either Others (has_round state.rounds caller) _ _ (others_ended caller other apart state.rounds) refl

  others_refused : (call : Call) → told_to_wait (refused state call).rounds other ≡ told_to_wait state.rounds other
  others_refused (Insert token object stale) = refl
  others_refused call = refl

pub others_kept : (beginning : Beginning) (state : State) (entry : Entry) (other : ℕ) → (other ≡ entry.caller → ⊥) → told_to_wait (next_state beginning.params state entry).rounds other ≡ told_to_wait state.rounds other
others_kept beginning state entry other apart =
    behind_either (λ (s : State). told_to_wait s.rounds other ≡ told_to_wait state.rounds other) entry.reply _ _
    (others_refused (at_moment entry.moment state) entry.caller other apart entry.call)
    (others_answered (at_moment entry.moment state) entry.caller other apart beginning.params.room entry.call)

-- what the caller is told itself
either_by : (P : Step → Type 0) (b : Bool) (one two : Step) → (b ≡ true → P one) → (b ≡ false → P two) → P (cond b one two)
either_by P true one two p q = p refl
either_by P false one two p q = q refl

-- a law's reply isn't that memory was wanting
law_stays : (answer : Reply) (refusal law : State) → (answer ≡ Refused → ⊥) → behind answer refusal law ≡ law
law_stays Refused refusal law calm = absurd (calm refl)
law_stays answer refusal law calm = refl

module _ (state : State) (caller : ℕ) where
  abbrev Own : Step → Type 0
  Own step = told_to_wait step.state.rounds caller ≡ wait_in step.reply

  sought_rounds : (query : Query) → (sought state caller query).state.rounds ≡ state.rounds
  sought_rounds query =
      sought_leaf (λ (step : Step). step.state.rounds ≡ state.rounds) state caller query (record {
        misses = λ objects stale. refl;
        hits = λ objects view. refl;
        hits_miss = λ objects view. refl;
        passes = λ objects view. refl;
        graces = λ objects view. refl;
        graces_alone = λ objects view. refl;
        waits = λ objects token. refl;
      })

  looked : (query : Query) → has_round state.rounds caller ≡ true → told_to_wait (with_wait caller (wait_in (sought state caller query).reply) (sought state caller query).state.rounds) caller ≡ wait_in (sought state caller query).reply
  looked query any =
      ap (λ (rounds : List OpenRound). told_to_wait (with_wait caller (wait_in (sought state caller query).reply) rounds) caller) (sought_rounds query) ∙ own_remembered caller _ state.rounds any

  -- by a call that ends a wait
  own_anew : (room : ℕ) (call : Call) → ends_wait call ≡ true → Own (answered room state caller call)
  own_anew room (Lookup query) ends = either_by Own (has_round state.rounds caller) _ _ (looked query) (own_none caller state.rounds)
  own_anew room End ends = either_by Own (has_round state.rounds caller) _ _ (λ any. own_ended caller state.rounds) (own_none caller state.rounds)
  own_anew room Begin ends = absurd (cc)
  own_anew room Draw ends = absurd (cc)
  own_anew room (Pick vcl target word) ends = absurd (cc)
  own_anew room (Ban ban) ends = absurd (cc)
  own_anew room BanList ends = absurd (cc)
  own_anew room (Purge key) ends = absurd (cc)
  own_anew room (Xkey keys soft) ends = absurd (cc)
  own_anew room (SetHealth backend given) ends = absurd (cc)
  own_anew room (Load source) ends = absurd (cc)
  own_anew room (Switch name) ends = absurd (cc)
  own_anew room (Discard name) ends = absurd (cc)
  own_anew room VclList ends = absurd (cc)
  own_anew room (Insert token object stale) ends = absurd (cc)
  own_anew room (Drop token) ends = absurd (cc)

  begun_none : told_to_wait (record { caller = caller; vcl = state.active.number; waits = None } ∷ state.rounds) caller ≡ None
  begun_none = told_first caller _ state.rounds (eq-eqb caller caller refl)

  -- by any call of a caller that was told nothing
  own_answered : (room : ℕ) (call : Call) → told_to_wait state.rounds caller ≡ None → Own (answered room state caller call)
  own_answered room Begin none = either Own (has_round state.rounds caller) _ _ none begun_none
  own_answered room Draw none = either Own (has_round state.rounds caller) _ _ none none
  own_answered room (Lookup query) none = own_anew room (Lookup query) refl
  own_answered room (Pick vcl target word) none = picked_leaf Own state vcl target word none (λ place. none)
  own_answered room (Ban ban) none = none
  own_answered room BanList none = none
  own_answered room (Purge key) none = none
  own_answered room (Xkey keys soft) none = none
  own_answered room (SetHealth backend given) none = health_leaf Own state backend given none none
  own_answered room (Load source) none = loaded_leaf Own state source none none
  own_answered room (Switch name) none = switched_leaf Own state name none (λ vcl. none)
  own_answered room (Discard name) none = discarded_leaf Own state name none none (λ number. none)
  own_answered room VclList none = none
  own_answered room (Insert token object stale) none =
      inserted_leaf Own room state caller token object stale (record { opens_not = none; gone = none; late = none; full = none; stores = none })
  own_answered room (Drop token) none = either Own (has_fetch state.fetches caller token) _ _ none none
  own_answered room End none = own_anew room End refl

-- where the reply is the law's
own_lawful : (room : ℕ) (state : State) (caller : ℕ) (call : Call) (answer : Reply) (refusal : State) → (answer ≡ Refused → ⊥) → answer ≡ (answered room state caller call).reply → told_to_wait (answered room state caller call).state.rounds caller ≡ wait_in (answered room state caller call).reply → told_to_wait (behind answer refusal (answered room state caller call).state).rounds caller ≡ wait_in answer
own_lawful room state caller call answer refusal calm same own =
    ap (λ (s : State). told_to_wait s.rounds caller) (law_stays answer refusal _ calm) ∙ (own ∙ ap wait_in (sym same))

module _ (room : ℕ) (state : State) (caller : ℕ) where
  not_refused : (call : Call) (answer : Reply) → is_reply_to call answer ≡ true → is_reply_to call Refused ≡ false → answer ≡ Refused → ⊥
  not_refused call answer fits other same = absurd (cc)

  -- no reply to an insertion tells to wait
  insertion_waits_not : (token : ℕ) (object : Object) (stale : Option ℕ) (answer : Reply) → answer ≡ (answered room state caller (Insert token object stale)).reply → wait_in answer ≡ None
  insertion_waits_not token object stale answer same =
      ap wait_in same ∙ inserted_leaf (λ (step : Step). wait_in step.reply ≡ None) room state caller token object stale (record { opens_not = refl; gone = refl; late = refl; full = refl; stores = refl })

  -- a list of bans tells nothing
  own_listed : (answer : Reply) → told_to_wait state.rounds caller ≡ None → IsBanList state answer → told_to_wait (behind answer state state).rounds caller ≡ wait_in answer
  own_listed (Bans lines) none shows = none
  own_listed answer none shows = absurd shows

  own_may : (call : Call) (answer : Reply) → (told_to_wait state.rounds caller ≡ None) ⊎ (ends_wait call ≡ true) → MayAnswer state call (answered room state caller call).reply answer → told_to_wait (behind answer (refused state call) (answered room state caller call).state).rounds caller ≡ wait_in answer
  own_may Begin answer (inl none) may = own_lawful room state caller Begin answer _ (not_refused Begin answer (lawful_reply room state caller Begin answer may) refl) may (own_answered state caller room Begin none)
  own_may Begin answer (inr ends) may = absurd (cc)
  own_may Draw answer (inl none) may = own_lawful room state caller Draw answer _ (not_refused Draw answer (lawful_reply room state caller Draw answer may) refl) may (own_answered state caller room Draw none)
  own_may Draw answer (inr ends) may = absurd (cc)
  own_may (Lookup query) answer how may = own_lawful room state caller (Lookup query) answer _ (not_refused (Lookup query) answer (lawful_reply room state caller (Lookup query) answer may) refl) may (own_anew state caller room (Lookup query) refl)
  own_may (Pick vcl target word) answer (inl none) may = own_lawful room state caller (Pick vcl target word) answer _ (not_refused (Pick vcl target word) answer (lawful_reply room state caller (Pick vcl target word) answer may) refl) may (own_answered state caller room (Pick vcl target word) none)
  own_may (Pick vcl target word) answer (inr ends) may = absurd (cc)
  own_may (Ban ban) answer (inl none) may = own_lawful room state caller (Ban ban) answer _ (not_refused (Ban ban) answer (lawful_reply room state caller (Ban ban) answer may) refl) may (own_answered state caller room (Ban ban) none)
  own_may (Ban ban) answer (inr ends) may = absurd (cc)
  own_may BanList answer (inl none) may = own_listed answer none may
  own_may BanList answer (inr ends) may = absurd (cc)
  own_may (Purge key) answer (inl none) may = own_lawful room state caller (Purge key) answer _ (not_refused (Purge key) answer (lawful_reply room state caller (Purge key) answer may) refl) may (own_answered state caller room (Purge key) none)
  own_may (Purge key) answer (inr ends) may = absurd (cc)
  own_may (Xkey keys soft) answer (inl none) may = own_lawful room state caller (Xkey keys soft) answer _ (not_refused (Xkey keys soft) answer (lawful_reply room state caller (Xkey keys soft) answer may) refl) may (own_answered state caller room (Xkey keys soft) none)
  own_may (Xkey keys soft) answer (inr ends) may = absurd (cc)
  own_may (SetHealth backend given) answer (inl none) may = own_lawful room state caller (SetHealth backend given) answer _ (not_refused (SetHealth backend given) answer (lawful_reply room state caller (SetHealth backend given) answer may) refl) may (own_answered state caller room (SetHealth backend given) none)
  own_may (SetHealth backend given) answer (inr ends) may = absurd (cc)
  own_may (Load source) answer (inl none) may = own_lawful room state caller (Load source) answer _ (not_refused (Load source) answer (lawful_reply room state caller (Load source) answer may) refl) may (own_answered state caller room (Load source) none)
  own_may (Load source) answer (inr ends) may = absurd (cc)
  own_may (Switch name) answer (inl none) may = own_lawful room state caller (Switch name) answer _ (not_refused (Switch name) answer (lawful_reply room state caller (Switch name) answer may) refl) may (own_answered state caller room (Switch name) none)
  own_may (Switch name) answer (inr ends) may = absurd (cc)
  own_may (Discard name) answer (inl none) may = own_lawful room state caller (Discard name) answer _ (not_refused (Discard name) answer (lawful_reply room state caller (Discard name) answer may) refl) may (own_answered state caller room (Discard name) none)
  own_may (Discard name) answer (inr ends) may = absurd (cc)
  own_may VclList answer (inl none) may = own_lawful room state caller VclList answer _ (not_refused VclList answer (lawful_reply room state caller VclList answer may) refl) may (own_answered state caller room VclList none)
  own_may VclList answer (inr ends) may = absurd (cc)
  own_may (Insert token object stale) answer (inl none) (inl same) =
      behind_either (λ (s : State). told_to_wait s.rounds caller ≡ wait_in answer) answer _ _ (none ∙ sym (insertion_waits_not token object stale answer same)) (own_answered state caller room (Insert token object stale) none ∙ ap wait_in (sym same))
  own_may (Insert token object stale) answer (inl none) (inr both) =
      subst (λ (a : Reply). told_to_wait (behind a (refused state (Insert token object stale)) (answered room state caller (Insert token object stale)).state).rounds caller ≡ wait_in a) (sym both.0) none
  own_may (Insert token object stale) answer (inr ends) may = absurd (cc)
  own_may (Drop token) answer (inl none) may = own_lawful room state caller (Drop token) answer _ (not_refused (Drop token) answer (lawful_reply room state caller (Drop token) answer may) refl) may (own_answered state caller room (Drop token) none)
  own_may (Drop token) answer (inr ends) may = absurd (cc)
  own_may End answer how may = own_lawful room state caller End answer _ (not_refused End answer (lawful_reply room state caller End answer may) refl) may (own_anew state caller room End refl)

pub own_told : (beginning : Beginning) (state : State) (entry : Entry) → (told_to_wait state.rounds entry.caller ≡ None) ⊎ (ends_wait entry.call ≡ true) → MayAnswer (at_moment entry.moment state) entry.call (answered beginning.params.room (at_moment entry.moment state) entry.caller entry.call).reply entry.reply → told_to_wait (next_state beginning.params state entry).rounds entry.caller ≡ wait_in entry.reply
own_told beginning state entry how may = own_may beginning.params.room (at_moment entry.moment state) entry.caller entry.call entry.reply how may
