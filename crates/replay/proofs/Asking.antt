-- What the answer to a call does to a scene.
use Rattle.std.proofs.Common.{◌≡◌, ◌⊎◌, inr, ℕ, true, List, [], ◌∷◌, ◌+◌, ◌≤◌, Some, None, refl, sym, ◌∙◌, ap, subst, arith}
use Rattle.cache_law.specs.declared.call.Call.{Call}
use Rattle.cache_law.specs.declared.call.Reply.{Reply}
use Rattle.cache_law.specs.declared.call.Reply.TheVariants.{Wait}
use Rattle.cache_law.specs.declared.call.Entry.{Entry}
use Rattle.cache_law.specs.declared.cache.Told.{Told as Answer}
use Rattle.cache_law.specs.Beginning.{Beginning}
use Rattle.cache_law.specs.Core.{Entered, FitsBehind, entry_of, moment_of}
use Rattle.cache_law.specs.History.{reached, next_state, bytes_of, bytes_of_all}
use Rattle.cache_law.specs.Law.{wait_in}
use Rattle.cache_law.specs.State.{State, at_moment, told_to_wait}
use Rattle.cache_law.proofs.Histories.{reached-push, bytes_of_all-push}
use Rattle.replay.specs.declared.policy.Request.{Request}
use Rattle.replay.specs.declared.policy.Given.{Given}
use Rattle.replay.specs.declared.policy.Given.TheVariants.{Told}
use Rattle.replay.specs.declared.policy.Want.{Want}
use Rattle.replay.specs.declared.policy.Want.TheVariants.{Ask}
use Rattle.replay.specs.Policy.{IsDue, answers, ends_wait}
use Rattle.replay.specs.Waits.{KeepsOthers, wait_of}
use Rattle.replay.specs.Plan.{plan_of}
use Rattle.replay.specs.Scene.{Scene, Round, calls, gave}
use Rattle.replay.specs.Endings.{WantsTooMuch}
use Rattle.replay.specs.Went.{Went, Leads, CanLead, HasTurn, IsAt, IsInStep, Met, spare}
use Rattle.replay.proofs.Replies.{lawful_reply, entered_moment}
use Rattle.replay.proofs.Runs.{went-one}
use Rattle.replay.proofs.Telling.{others_kept, own_told}

-- the round that was given more goes on to what it wants then
pub leads_on : {P : Type 0} (wants : Request → List Given → Want → Type 0) (stands : P → Request → List Given → Type 0) (old new : P) (client : ℕ) (before want : Want) (round : Round) (given : Given) → Leads wants stands old client before round → ((request : Request) (givens : List Given) → stands old request givens → stands new request (given ∷ givens)) → ((request : Request) (givens : List Given) → stands old request givens → wants request (given ∷ givens) want) → Leads wants stands new client want (gave round given)
leads_on wants stands old new client before want round given leads stands_on wanted =
    record {
      client_is = leads.client_is;
      stands_at = stands_on round.request round.givens leads.stands_at;
      wanted = wanted round.request round.givens leads.stands_at;
    }

pub can_on : {P : Type 0} (wants : Request → List Given → Want → Type 0) (stands : P → Request → List Given → Type 0) (old new : P) (client : ℕ) (before want : Want) (given : Given) → CanLead wants stands old client before → ((request : Request) (givens : List Given) → stands old request givens → stands new request (given ∷ givens)) → ((request : Request) (givens : List Given) → stands old request givens → wants request (given ∷ givens) want) → CanLead wants stands new client want
can_on wants stands old new client before want given can stands_on wanted =
    record { round = gave can.round given; leads = leads_on wants stands old new client before want can.round given can.leads stands_on wanted }

-- what answers the want may be given
pub due : {P : Type 0} (wants : Request → List Given → Want → Type 0) (stands : P → Request → List Given → Type 0) (policy : P) (client : ℕ) (want : Want) (given : Given) → CanLead wants stands policy client want → answers want given ≡ true → IsDue wants stands policy given
due wants stands policy client want given can fits =
    record { request = can.round.request; givens = can.round.givens; stands_at = can.leads.stands_at; due = inr (want, can.leads.wanted, fits) }

pub in_step_moment : (beginning : Beginning) (old : List Entry) (moment : ℕ) → IsInStep beginning old moment → moment_of beginning old moment ≡ moment
in_step_moment beginning old moment in_step = let le = in_step.no_later in omega arith

-- a call that doesn't fit
pub too_much : {P : Type 0} (wants : Request → List Given → Want → Type 0) (stands : P → Request → List Given → Type 0) (policy : P) (beginning : Beginning) (old new : List Entry) (client moment : ℕ) (call : Call) (scene : Scene) → IsInStep beginning old moment → new ≡ old → (FitsBehind beginning old client (moment_of beginning old moment) call → ⊥) → IsAt beginning old moment scene → HasTurn wants stands policy client (Ask call) scene → WantsTooMuch (plan_of wants beginning) new scene
too_much wants stands policy beginning old new client moment call scene in_step same full at turn =
    record {
      round = turn.round;
      call = call;
      runs = record { turn = turn.turn; wanted = turn.leads.wanted };
      full = λ fits. full
          (subst (λ (m : ℕ). FitsBehind beginning old client m call) (sym at.moment_is ∙ sym (in_step_moment beginning old moment in_step))
          (subst (λ (n : ℕ). FitsBehind beginning old n scene.moment call) turn.leads.client_is
          (subst (λ (es : List Entry). FitsBehind beginning es turn.round.request.client scene.moment call) same fits)));
    }

waits_by : (reply : Reply) (token : ℕ) → wait_in reply ≡ Some token → reply ≡ Wait token
waits_by (Wait one) token e = cc
waits_by reply token e = absurd (cc)

module _ (beginning : Beginning) (old new : List Entry) (client moment : ℕ) (call : Call) (told : Answer) (in_step : IsInStep beginning old moment) (entered : Entered beginning old new client moment call told) where
  -- the answer's moment is the session's
  pub told_moment : told.moment ≡ moment
  told_moment = entered.moment ∙ in_step_moment beginning old moment in_step

  reached_new : reached beginning new ≡ next_state beginning.params (reached beginning old) (entry_of client call told)
  reached_new = ap (λ (es : List Entry). reached beginning es) entered.joined ∙ reached-push beginning old (entry_of client call told)

  pub still_in_step : (after : Beginning) → after ≡ beginning → IsInStep after new moment
  still_in_step after same =
      let e : (reached beginning new).moment ≡ told.moment = ap (λ (s : State). s.moment) reached_new ∙ entered_moment beginning (reached beginning old) (entry_of client call told) in
      subst (λ (b : Beginning). IsInStep b new moment) (sym same) (record { no_later = omega (arith, e, told_moment); unsegmented = in_step.unsegmented })

  -- an entry takes 64 bytes at least, and is within the limit
  pub grown : bytes_of_all new ≡ bytes_of_all old + bytes_of call
  grown = ap bytes_of_all entered.joined ∙ bytes_of_all-push old (entry_of client call told)

  pub spent : (after : Beginning) → after ≡ beginning → spare after new + 64 ≤ spare beginning old
  spent after same =
      let more = grown in
      let limit : after.params.history ≡ beginning.params.history = ap (λ (b : Beginning). b.params.history) same in
      let within = entered.fits.within in
      omega arith

  -- what others were told stays
  pub others_as_told : (after : Beginning) → after ≡ beginning → KeepsOthers beginning old after new client
  others_as_told after same other apart =
      ap (λ (b : Beginning). wait_of b new other) same
      ∙ (ap (λ (s : State). told_to_wait s.rounds other) reached_new ∙ others_kept beginning (reached beginning old) (entry_of client call told) other apart)

  -- and the client itself is told to wait by the reply alone
  pub own_as_told : (after : Beginning) → after ≡ beginning → (wait_of beginning old client ≡ None) ⊎ (ends_wait call ≡ true) → (token : ℕ) → wait_of after new client ≡ Some token → Told told.moment told.reply ≡ Told told.moment (Wait token)
  own_as_told after same how token waits =
      let is : wait_of beginning new client ≡ wait_in told.reply = ap (λ (s : State). told_to_wait s.rounds client) reached_new ∙ own_told beginning (reached beginning old) (entry_of client call told) how entered.follows.answer in
      let here : wait_in told.reply ≡ Some token = sym is ∙ (ap (λ (b : Beginning). wait_of b new client) (sym same) ∙ waits) in
      ap (λ (r : Reply). Told told.moment r) (waits_by told.reply token here)

  pub told_answers : answers (Ask call) (Told told.moment told.reply) ≡ true
  told_answers = lawful_reply beginning.params.room (at_moment told.moment (reached beginning old)) client call told.reply entered.follows.answer

  -- the scene behind the entry
  abbrev pub behind : Scene → Round → Scene
  behind scene round = record scene { state = next_state beginning.params scene.state (entry_of client call told); running = Some (gave round (Told told.moment told.reply)) }

  -- the entry is the move that the round wanted
  pub asked : {P : Type 0} (wants : Request → List Given → Want → Type 0) (stands : P → Request → List Given → Type 0) (policy : P) (scene : Scene) → IsAt beginning old moment scene → (turn : HasTurn wants stands policy client (Ask call) scene) → (H : Scene → List ℕ → Type 0) → H (behind scene turn.round) [] → Went (plan_of wants beginning) scene [] old new H
  asked wants stands policy scene at turn H h =
      went-one (plan_of wants beginning) scene (behind scene turn.round) (calls (entry_of client call told)) old new H
      (turn.round, record { turn = turn.turn; wanted = turn.leads.wanted }, sym turn.leads.client_is, told_moment ∙ at.moment_is, refl) entered.joined h

  pub met : {P : Type 0} (wants : Request → List Given → Want → Type 0) (stands : P → Request → List Given → Type 0) (policy after : P) (want : Want) (scene : Scene) → IsAt beginning old moment scene → (turn : HasTurn wants stands policy client (Ask call) scene) → Leads wants stands after client want (gave turn.round (Told told.moment told.reply)) → Met (plan_of wants beginning) stands new moment after client want scene (behind scene turn.round)
  met wants stands policy after want scene at turn leads =
      record {
        has_turn = record { round = gave turn.round (Told told.moment told.reply); turn = refl; leads = leads };
        at = record { moment_is = at.moment_is; state_is = ap (λ (s : State). next_state beginning.params s (entry_of client call told)) at.state_is ∙ sym reached_new };
        keeps = record { waiting_same = refl; parked_same = refl };
      }
