-- An answer of a lookup stands at a lookup, where the law gives it.
use Rattle.std.proofs.Common.{◌≡◌, ℕ, Bool, true, false, List, ◌∷◌, ◌++◌, inl, inr, refl, sym, ap, ◌∙◌}
use Rattle.std.proofs.lemmas.Bool.{true≢false}
use Rattle.cache_law.specs.declared.call.Call.{Call}
use Rattle.cache_law.specs.declared.call.Call.TheVariants.{Begin, Draw, Lookup, Pick, Insert, Ban, BanList, Purge, Xkey, SetHealth, Load, Switch, Discard, VclList, Drop, End}
use Rattle.cache_law.specs.declared.call.Reply.{Reply}
use Rattle.cache_law.specs.declared.call.Reply.TheVariants.{Bans}
use Rattle.cache_law.specs.declared.call.Entry.{Entry}
use Rattle.cache_law.specs.State.{State, at_moment, has_round, has_fetch}
use Rattle.cache_law.specs.declared.setting.Params.{Params}
use Rattle.cache_law.specs.Beginning.{Beginning}
use Rattle.cache_law.specs.Law.{Step, answered, MayAnswer, IsBanList}
use Rattle.cache_law.specs.History.{Legal, Follows, reached}
use Rattle.cache_law.specs.LookedUp.{IsLookedUp, says_found}
use Rattle.cache_law.proofs.Leaves.{either, inserted_leaf, picked_leaf, health_leaf, loaded_leaf, switched_leaf, discarded_leaf}
use Rattle.cache_law.proofs.Serving.{follows_from}

abbrev Quiet : Step → Type 0
Quiet step = says_found step.reply ≡ false

abbrev pub looks : Call → Bool
looks (Lookup query) = true
looks call = false

-- no other call is answered so
quiet : (room : ℕ) (state : State) (caller : ℕ) (call : Call) → looks call ≡ false → Quiet (answered room state caller call)
quiet room state caller Begin other = either Quiet (has_round state.rounds caller) _ _ refl refl
quiet room state caller Draw other = either Quiet (has_round state.rounds caller) _ _ refl refl
quiet room state caller (Lookup query) other = absurd (true≢false other)
quiet room state caller (Pick vcl target word) other = picked_leaf Quiet state vcl target word refl (λ place. refl)
quiet room state caller (Insert token object stale) other =
    inserted_leaf Quiet room state caller token object stale (record { opens_not = refl; gone = refl; late = refl; full = refl; stores = refl })
quiet room state caller (Ban ban) other = refl
quiet room state caller BanList other = refl
quiet room state caller (Purge key) other = refl
quiet room state caller (Xkey keys soft) other = refl
quiet room state caller (SetHealth backend given) other = health_leaf Quiet state backend given refl refl
quiet room state caller (Load source) other = loaded_leaf Quiet state source refl refl
quiet room state caller (Switch name) other = switched_leaf Quiet state name refl (λ vcl. refl)
quiet room state caller (Discard name) other = discarded_leaf Quiet state name refl refl (λ number. refl)
quiet room state caller VclList other = refl
quiet room state caller (Drop token) other = either Quiet (has_fetch state.fetches caller token) _ _ refl refl
quiet room state caller End other = either Quiet (has_round state.rounds caller) _ _ refl refl

quiet_list : (state : State) (answer : Reply) → IsBanList state answer → says_found answer ≡ false
quiet_list state (Bans lines) shows = refl
quiet_list state answer shows = absurd shows

quiet_law : (room : ℕ) (state : State) (caller : ℕ) (call : Call) (answer : Reply) → looks call ≡ false → answer ≡ (answered room state caller call).reply → says_found answer ≡ false
quiet_law room state caller call answer other e = ap says_found e ∙ quiet room state caller call other

-- no other call may be answered so
quiet_answer : (room : ℕ) (state : State) (caller : ℕ) (call : Call) (answer : Reply) → looks call ≡ false → MayAnswer state call (answered room state caller call).reply answer → says_found answer ≡ false
quiet_answer room state caller (Insert token object stale) answer other (inl e) = quiet_law room state caller (Insert token object stale) answer other e
quiet_answer room state caller (Insert token object stale) answer other (inr free) = ap says_found free.0
quiet_answer room state caller BanList answer other may = quiet_list state answer may
quiet_answer room state caller call answer other may = quiet_law room state caller call answer other may

is_looked_up : (room : ℕ) (state : State) (moment caller : ℕ) (call : Call) (answer : Reply) → MayAnswer (at_moment moment state) call (answered room (at_moment moment state) caller call).reply answer → says_found answer ≡ true
    → IsLookedUp state (record { caller = caller; moment = moment; call = call; reply = answer })
is_looked_up room state moment caller (Lookup query) answer may says = record { query = query; called = refl; looked = may }
is_looked_up room state moment caller call answer may says = absurd (true≢false (sym says ∙ quiet_answer room (at_moment moment state) caller call answer refl may))

pub entry_looked_up : (params : Params) (state : State) (entry : Entry) → Follows params state entry → says_found entry.reply ≡ true → IsLookedUp state entry
entry_looked_up params state entry follows says = is_looked_up params.room state entry.moment entry.caller entry.call entry.reply follows.answer says

pub legal_looked_up : (beginning : Beginning) (before behind : List Entry) (entry : Entry) → Legal beginning (before ++ entry ∷ behind) → says_found entry.reply ≡ true → IsLookedUp (reached beginning before) entry
legal_looked_up beginning before behind entry legal says =
    entry_looked_up beginning.params (reached beginning before) entry (follows_from beginning.params beginning.base before behind entry legal.follow) says
