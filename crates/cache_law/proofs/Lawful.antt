-- The law's own replies, which never say that memory was wanting, and what may be answered beside them.
use Rattle.std.proofs.Common.{◌≡◌, ◌≢◌, ℕ, Bool, true, false, cond, ◌+◌, inl, inr, refl, ap, ◌∙◌}
use Rattle.std.proofs.lemmas.Bool.{true≢false}
use Rattle.cache_law.specs.declared.call.Call.{Call}
use Rattle.cache_law.specs.declared.call.Call.TheVariants.{Begin, Draw, Lookup, Pick, Insert, Ban, BanList, Purge, Xkey, SetHealth, Load, Switch, Discard, VclList, Drop, End}
use Rattle.cache_law.specs.declared.call.Reply.{Reply}
use Rattle.cache_law.specs.declared.call.Reply.TheVariants.{NotOpen, Refused, Bans}
use Rattle.cache_law.specs.State.{State, at_moment, has_round, has_fetch}
use Rattle.cache_law.specs.declared.setting.Params.{Params}
use Rattle.cache_law.specs.Law.{Step, step_of, answered, leaving, after, behind, MayAnswer, IsBanList}
use Rattle.cache_law.proofs.Leaves.{either, looked_leaf, inserted_leaf, picked_leaf, health_leaf, loaded_leaf, switched_leaf, discarded_leaf}

-- the law never answers that memory was wanting
abbrev pub is_refusal : Reply → Bool
is_refusal Refused = true
is_refusal reply = false

abbrev IsLawful : Step → Type 0
IsLawful step = is_refusal step.reply ≡ false

pub answers_lawfully : (room : ℕ) (state : State) (caller : ℕ) (call : Call) → is_refusal (answered room state caller call).reply ≡ false
answers_lawfully room state caller Begin = either IsLawful (has_round state.rounds caller) _ _ refl refl
answers_lawfully room state caller Draw = either IsLawful (has_round state.rounds caller) _ _ refl refl
answers_lawfully room state caller (Lookup query) =
    looked_leaf IsLawful state caller query refl (record {
      misses = λ objects stale. refl;
      hits = λ objects view. refl;
      hits_miss = λ objects view. refl;
      passes = λ objects view. refl;
      graces = λ objects view. refl;
      graces_alone = λ objects view. refl;
      waits = λ objects token. refl;
    })
answers_lawfully room state caller (Pick vcl target word) = picked_leaf IsLawful state vcl target word refl (λ place. refl)
answers_lawfully room state caller (Insert token object stale) =
    inserted_leaf IsLawful room state caller token object stale (record { opens_not = refl; gone = refl; late = refl; full = refl; stores = refl })
answers_lawfully room state caller (Ban ban) = refl
answers_lawfully room state caller BanList = refl
answers_lawfully room state caller (Purge key) = refl
answers_lawfully room state caller (Xkey keys soft) = refl
answers_lawfully room state caller (SetHealth backend given) = health_leaf IsLawful state backend given refl refl
answers_lawfully room state caller (Load source) = loaded_leaf IsLawful state source refl refl
answers_lawfully room state caller (Switch name) = switched_leaf IsLawful state name refl (λ vcl. refl)
answers_lawfully room state caller (Discard name) = discarded_leaf IsLawful state name refl refl (λ number. refl)
answers_lawfully room state caller VclList = refl
answers_lawfully room state caller (Drop token) = either IsLawful (has_fetch state.fetches caller token) _ _ refl refl
answers_lawfully room state caller End = either IsLawful (has_round state.rounds caller) _ _ refl refl

-- behind a reply of the law is the law's state
pub behind_lawful : (reply : Reply) (refusal law : State) → is_refusal reply ≡ false → behind reply refusal law ≡ law
behind_lawful Refused refusal law h = absurd (true≢false h)
behind_lawful reply refusal law h = refl

-- behind the law's reply is the law's state, with one more entry
pub after-lawful : (params : Params) (state : State) (caller moment : ℕ) (call : Call) (answer : Reply) → answer ≡ (step_of params state caller moment call).reply → after params state caller moment call answer ≡ record (step_of params state caller moment call).state { entries = state.entries + 1 }
after-lawful params state caller moment call answer e =
    ap (λ (s : State). record s { entries = state.entries + 1 }) (behind_lawful answer _ _ (ap is_refusal e ∙ answers_lawfully params.room (at_moment moment state) caller call))

-- the insertion of a fetch that isn't open is answered so
pub not_open : (state : State) (opened : Bool) (step : Step) → (cond opened step (leaving state NotOpen)).reply ≢ NotOpen → opened ≡ true
not_open state true step other = refl
not_open state false step other = absurd (other refl)

-- the call asks for the list of bans, to which several replies may be given
abbrev pub asks_bans : Call → Bool
asks_bans BanList = true
asks_bans call = false

-- what the law answers may be answered
pub MayAnswer-lawful : (state : State) (call : Call) (law answer : Reply) → asks_bans call ≡ false → answer ≡ law → MayAnswer state call law answer
MayAnswer-lawful state (Insert token object stale) law answer one e = inl e
MayAnswer-lawful state BanList law answer one e = absurd (true≢false one)
MayAnswer-lawful state call law answer one e = e

-- an answer that isn't Refused is the law's
pub lawful_if_not_refused : (state : State) (call : Call) (law answer : Reply) → asks_bans call ≡ false → MayAnswer state call law answer → answer ≢ Refused → answer ≡ law
lawful_if_not_refused state (Insert token object stale) law answer one (inl e) other = e
lawful_if_not_refused state (Insert token object stale) law answer one (inr free) other = absurd (other free.0)
lawful_if_not_refused state BanList law answer one may other = absurd (true≢false one)
lawful_if_not_refused state call law answer one may other = may

-- behind a list of bans is the law's state, with one more entry
pub after-listed : (params : Params) (state : State) (caller moment : ℕ) (answer : Reply) → IsBanList (at_moment moment state) answer → after params state caller moment BanList answer ≡ record (step_of params state caller moment BanList).state { entries = state.entries + 1 }
after-listed params state caller moment (Bans lines) shows = refl
after-listed params state caller moment answer shows = absurd shows
