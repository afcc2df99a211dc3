-- What is due to a client's turn.
use Rattle.std.specs.Prelude.{IsSome}
use Rattle.std.proofs.Common.{◌≡◌, ◌⊎◌, inl, inr, ℕ, true, false, List, [], ◌∷◌, Option, Some, None, refl, sym, ◌∙◌, subst}
use Rattle.std.proofs.lemmas.Bool.{true≢false}
use Rattle.vcl_context.specs.declared.turn.Answer.{Answer}
use Rattle.vcl_runs.specs.Runs.{Ran}
use Rattle.cache_law.specs.declared.call.Call.{Call}
use Rattle.cache_law.specs.declared.rounds.Given.{Given as Gift}
use Rattle.cache_law.specs.declared.rounds.Request.{Request as Message}
use Rattle.round_task.specs.declared.want.Want.{Want as RoundWant}
use Rattle.round_task.specs.declared.want.Want.TheVariants as wish
use Rattle.vcl_runs.specs.Languages.{Language}
use Rattle.replay.specs.declared.led.Led.{Led}
use Rattle.replay.specs.declared.policy.Request.{Request}
use Rattle.replay.specs.declared.policy.Message.{Message as Sent_message}
use Rattle.replay.specs.declared.policy.Message.TheVariants.{Whole, Unreadable, Line}
use Rattle.replay.specs.declared.policy.Given.{Given}
use Rattle.replay.specs.declared.policy.Given.TheVariants.{Start, Told, Came, Sent, Closed}
use Rattle.replay.specs.declared.policy.Want.{Want}
use Rattle.replay.specs.declared.policy.Want.TheVariants.{Ask, Exchange, Respond, Await, Done}
use Rattle.replay.specs.declared.turn.Turn.{Turn}
use Rattle.replay.specs.declared.turn.Turn.TheVariants as turns
use Rattle.replay.specs.Policy.{answers, is_response, IsDue}
use Rattle.replay.specs.Rounds.{address, gifts, said, token_in, told_want, Wanted}
use Rattle.replay.specs.Turns.{CanGo, IsAgain, IsLed, IsTold, LedAt, MessageWants, StandsAt, Wants}
use Rattle.replay.specs.OneWant.{IsOneMeaning}
use Rattle.replay.proofs.Calm.{wants-calm}

-- ---- what answers a wait or a response

closed-awaits : (want : Want) → answers want Closed ≡ true → (token : ℕ) × (want ≡ Await token)
closed-awaits (Await token) h = (token, refl)
closed-awaits (Ask call) h = absurd (true≢false (sym h))
closed-awaits (Exchange number backend request) h = absurd (true≢false (sym h))
closed-awaits (Respond text) h = absurd (true≢false (sym h))
closed-awaits Done h = absurd (true≢false (sym h))

sent-responds : (want : Want) → answers want Sent ≡ true → (text : List ℕ) × (want ≡ Respond text)
sent-responds (Respond text) h = (text, refl)
sent-responds (Ask call) h = absurd (true≢false (sym h))
sent-responds (Exchange number backend request) h = absurd (true≢false (sym h))
sent-responds (Await token) h = absurd (true≢false (sym h))
sent-responds Done h = absurd (true≢false (sym h))

-- ---- a round that waits keeps what it asks for then

said-waits-not : (token : ℕ) (want : RoundWant) → Await token ≡ said want → ⊥
said-waits-not token (wish.Cache call) h = cc
said-waits-not token (wish.Exchange number backend request) h = cc
said-waits-not token (wish.Send delivery) h = cc
said-waits-not token wish.Done h = cc

some-is : {A : Type 0} (o : Option A) (a : A) → o ≡ Some a → IsSome o
some-is o a h = subst (λ (x : Option _). IsSome x) (sym h) refl

module _ {P : Type 0} (language : Language P) (message : Message) (peer : List ℕ) where
  told-again : (given : List Gift) (told : Option ℕ) (token : ℕ) (want : RoundWant) (again : Option Call) → Await token ≡ told_want told want
      → IsTold language message peer given told again → IsSome again
  told-again given (Some other) token want again h is = some-is again _ is.2
  told-again given None token want again h is = absurd (said-waits-not token want h)

  waits-again : (givens : List Given) (token : ℕ) (again : Option Call) → Wanted language message peer givens (Await token) → IsAgain language message peer givens again → IsSome again
  waits-again [] token again w is = absurd w
  waits-again (Start moment ∷ before) token again w is = absurd (cc)
  waits-again (Told moment reply ∷ before) token again w is = told-again (gifts (Told moment reply ∷ before)) (token_in reply) token w.0 again w.2 is
  waits-again (Came got ∷ before) token again w is = absurd (said-waits-not token w.0 w.2)
  waits-again (Sent ∷ before) token again w is = absurd (said-waits-not token w.0 w.2)
  waits-again (Closed ∷ before) token again w is = let h = w.2 in absurd (cc)

-- what is due to a client

module _ {P : Type 0} (language : Language P) where
  due-waits : (request : Request) (givens : List Given) (given : Given)
      → (((givens ≡ []) × (moment : ℕ) × (given ≡ Start moment)) ⊎ ((want : Want) × Wants language request givens want × (answers want given ≡ true)))
      → given ≡ Closed → (token : ℕ) × Wants language request givens (Await token)
  due-waits request givens given (inl first) closed = let clash : Start first.1 ≡ Closed = sym first.2 ∙ closed in absurd (cc)
  due-waits request givens given (inr wanted) closed =
      let is = closed-awaits wanted.0 (subst (λ (g : Given). answers wanted.0 g ≡ true) closed wanted.2) in
      (is.0, subst (λ (w : Want). Wants language request givens w) is.1 wanted.1)

  calm-after : IsOneMeaning language → (request : Request) (givens : List Given) (given : Given) (want : Want)
      → (((givens ≡ []) × (moment : ℕ) × (given ≡ Start moment)) ⊎ ((want : Want) × Wants language request givens want × (answers want given ≡ true)))
      → Wants language request (given ∷ givens) want → given ≡ Sent → is_response want ≡ false
  calm-after m request givens given want (inl first) wanted sent = let clash : Start first.1 ≡ Sent = sym first.2 ∙ sent in absurd (cc)
  calm-after m request givens given want (inr before) wanted sent =
      let is = sent-responds before.0 (subst (λ (g : Given). answers before.0 g ≡ true) sent before.2) in
      wants-calm language m request givens is.0 want (subst (λ (w : Want). Wants language request givens w) is.1 before.1) (subst (λ (g : Given). Wants language request (g ∷ givens) want) sent wanted)

module _ {M P L : Type 0} (language : Language P) (stands : M → P → Ran → Type 0) (fits : M → Answer → Type 0) where
  -- what is due to its round
  can-go : (client : ℕ) (message : Sent_message) (givens : List Given) (given : Given) (led : Led M P L) → LedAt language stands fits client message givens led
      → (given ≡ Closed → (token : ℕ) × MessageWants language client message givens (Await token)) → CanGo language stands fits given led
  can-go client (Whole head body) givens given led at waits =
      record {
        message = record { head = head; body = body };
        peer = address client;
        givens = givens;
        led_is = at;
        waited = λ closed. let w = waits closed in waits-again language (record { head = head; body = body }) (address client) givens w.0 led.again w.1 at.again_is;
      }
  can-go client Unreadable givens given led at waits = absurd at
  can-go client (Line instruction) givens given led at waits = absurd at

  pub due-can : (turn : Turn M P L) (led : Led M P L) (given : Given) → turn ≡ turns.Round led → IsDue (Wants language) (StandsAt language stands fits) turn given → CanGo language stands fits given led
  due-can turn led given is due =
      can-go due.request.client due.request.message due.givens given led
      (subst (λ (t : Turn M P L). StandsAt language stands fits t due.request due.givens) is due.stands_at)
      (due-waits language due.request due.givens given due.due)

  -- ---- what its round wants the turn wants

  message-wants : (client : ℕ) (message : Sent_message) (givens : List Given) (given : Given) (led : Led M P L) (want : Want)
      → ((message : Message) (peer : List ℕ) (before : List Given) → IsLed language stands fits message peer before led → Wanted language message peer (given ∷ before) want)
      → LedAt language stands fits client message givens led → MessageWants language client message (given ∷ givens) want
  message-wants client (Whole head body) givens given led want step at = step (record { head = head; body = body }) (address client) givens at
  message-wants client Unreadable givens given led want step at = absurd at
  message-wants client (Line instruction) givens given led want step at = absurd at

  pub turn-wants : (turn : Turn M P L) (given : Given) (led : Led M P L) (want : Want) → turn ≡ turns.Round led
      → ((message : Message) (peer : List ℕ) (before : List Given) → IsLed language stands fits message peer before led → Wanted language message peer (given ∷ before) want)
      → (request : Request) (givens : List Given) → StandsAt language stands fits turn request givens → Wants language request (given ∷ givens) want
  turn-wants turn given led want is step request givens at =
      message-wants request.client request.message givens given led want step (subst (λ (t : Turn M P L). StandsAt language stands fits t request givens) is at)

  -- ---- behind a response

  pub due-calm : IsOneMeaning language → (turn : Turn M P L) (given : Given) (want : Want) → IsDue (Wants language) (StandsAt language stands fits) turn given
      → ((request : Request) (givens : List Given) → StandsAt language stands fits turn request givens → Wants language request (given ∷ givens) want)
      → given ≡ Sent → is_response want ≡ false
  due-calm m turn given want due wanted sent = calm-after language m due.request due.givens given want due.due (wanted due.request due.givens due.stands_at) sent
