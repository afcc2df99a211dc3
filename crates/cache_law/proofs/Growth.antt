-- An answer leaves the moment as it is, and draws one number at most.
use Rattle.std.proofs.Common.{◌≡◌, ℕ, ◌+◌, ◌≤◌, refl, arith}
use Rattle.cache_law.specs.declared.call.Call.{Call}
use Rattle.cache_law.specs.declared.call.Call.TheVariants.{Begin, Draw, Lookup, Pick, Insert, Ban, BanList, Purge, Xkey, SetHealth, Load, Switch, Discard, VclList, Drop, End}
use Rattle.cache_law.specs.declared.call.Reply.{Reply}
use Rattle.cache_law.specs.declared.call.Reply.TheVariants.{Refused}
use Rattle.cache_law.specs.State.{State, at_moment, has_round, has_fetch}
use Rattle.cache_law.specs.declared.setting.Params.{Params}
use Rattle.cache_law.specs.Law.{Step, answered, refused, behind, after}
use Rattle.cache_law.proofs.Leaves.{either, looked_leaf, inserted_leaf, picked_leaf, health_leaf, loaded_leaf, switched_leaf, discarded_leaf}

pub record Grows (old new : State) : Type 0 where
  pub moment : new.moment ≡ old.moment
  pub rises : old.next ≤ new.next
  pub next : new.next ≤ old.next + 1

-- with the same moment and number
still : (old new : State) → new.moment ≡ old.moment → new.next ≡ old.next → Grows old new
still old new at_ same = record { moment = at_; rises = omega (arith, same); next = omega (arith, same) }

-- with one number drawn
draws : (old new : State) → new.moment ≡ old.moment → new.next ≡ old.next + 1 → Grows old new
draws old new at_ more = record { moment = at_; rises = omega (arith, more); next = omega (arith, more) }

-- a step that leaves such a state
abbrev StepGrows : State → Step → Type 0
StepGrows state step = Grows state step.state

pub answered_grows : (room : ℕ) (state : State) (caller : ℕ) (call : Call) → Grows state (answered room state caller call).state
answered_grows room state caller Begin = either (StepGrows state) (has_round state.rounds caller) _ _ (still state _ refl refl) (draws state _ refl refl)
answered_grows room state caller Draw = either (StepGrows state) (has_round state.rounds caller) _ _ (draws state _ refl refl) (still state _ refl refl)
answered_grows room state caller (Lookup query) =
    looked_leaf (StepGrows state) state caller query (still state _ refl refl) (record {
      misses = λ objects stale. draws state _ refl refl;
      hits = λ objects view. still state _ refl refl;
      hits_miss = λ objects view. draws state _ refl refl;
      passes = λ objects view. still state _ refl refl;
      graces = λ objects view. draws state _ refl refl;
      graces_alone = λ objects view. still state _ refl refl;
      waits = λ objects token. still state _ refl refl;
    })
answered_grows room state caller (Pick vcl target word) = picked_leaf (StepGrows state) state vcl target word (still state _ refl refl) (λ place. still state _ refl refl)
answered_grows room state caller (Insert token object stale) =
    inserted_leaf (StepGrows state) room state caller token object stale (record {
      opens_not = still state _ refl refl;
      gone = still state _ refl refl;
      late = still state _ refl refl;
      full = still state _ refl refl;
      stores = still state _ refl refl;
    })
answered_grows room state caller (Ban ban) = still state _ refl refl
answered_grows room state caller BanList = still state _ refl refl
answered_grows room state caller (Purge key) = still state _ refl refl
answered_grows room state caller (Xkey keys soft) = still state _ refl refl
answered_grows room state caller (SetHealth backend given) = health_leaf (StepGrows state) state backend given (still state _ refl refl) (still state _ refl refl)
answered_grows room state caller (Load source) = loaded_leaf (StepGrows state) state source (still state _ refl refl) (still state _ refl refl)
answered_grows room state caller (Switch name) = switched_leaf (StepGrows state) state name (still state _ refl refl) (λ vcl. still state _ refl refl)
answered_grows room state caller (Discard name) = discarded_leaf (StepGrows state) state name (still state _ refl refl) (still state _ refl refl) (λ number. still state _ refl refl)
answered_grows room state caller VclList = still state _ refl refl
answered_grows room state caller (Drop token) = either (StepGrows state) (has_fetch state.fetches caller token) _ _ (still state _ refl refl) (still state _ refl refl)
answered_grows room state caller End = either (StepGrows state) (has_round state.rounds caller) _ _ (still state _ refl refl) (still state _ refl refl)

refused_grows : (state : State) (call : Call) → Grows state (refused state call)
refused_grows state (Insert token object stale) = still state _ refl refl
refused_grows state call = still state _ refl refl

pub behind_either : (P : State → Type 0) (reply : Reply) (refusal law : State) → P refusal → P law → P (behind reply refusal law)
behind_either P Refused refusal law r l = r
behind_either P reply refusal law r l = l

pub after_grows : (params : Params) (state : State) (caller moment : ℕ) (call : Call) (answer : Reply) → Grows (at_moment moment state) (after params state caller moment call answer)
after_grows params state caller moment call answer =
    let grows = behind_either (Grows (at_moment moment state)) answer _ _ (refused_grows (at_moment moment state) call) (answered_grows params.room (at_moment moment state) caller call) in
    record { moment = grows.moment; rises = grows.rises; next = grows.next }
