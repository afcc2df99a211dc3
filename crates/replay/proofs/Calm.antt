-- A round that was sent its response wants no other at once.
use Rattle.std.proofs.Common.{◌≡◌, ℕ, false, List, [], ◌∷◌, Option, Some, None, refl, ◌∙◌, ap, subst}
use Rattle.cache_law.specs.declared.rounds.Given.{Given as Gift}
use Rattle.cache_law.specs.declared.rounds.Given.TheVariants as gift
use Rattle.cache_law.specs.declared.rounds.Request.{Request as Message}
use Rattle.round_task.specs.declared.want.Want.{Want as RoundWant}
use Rattle.round_task.specs.declared.want.Want.TheVariants as wish
use Rattle.round_task.specs.Laws.{IsSend}
use Rattle.round_task.specs.Responses.{text_in}
use Rattle.vcl_runs.specs.Languages.{Language}
use Rattle.round_task.proofs.Alike.{wants-like}
use Rattle.round_task.proofs.Wholes.{one-response-round}
use Rattle.replay.specs.declared.policy.Request.{Request}
use Rattle.replay.specs.declared.policy.Message.{Message as Sent_message}
use Rattle.replay.specs.declared.policy.Message.TheVariants.{Whole, Unreadable, Line}
use Rattle.replay.specs.declared.policy.Given.{Given}
use Rattle.replay.specs.declared.policy.Given.TheVariants.{Start, Told, Came, Sent, Closed}
use Rattle.replay.specs.declared.policy.Want.{Want}
use Rattle.replay.specs.declared.policy.Want.TheVariants.{Respond}
use Rattle.replay.specs.Policy.{is_response}
use Rattle.replay.specs.Rounds.{address, gifts, said, token_in, told_want, wanted_behind, WantedBy, Wanted}
use Rattle.replay.specs.Turns.{Wants, MessageWants}
use Rattle.replay.specs.OneWant.{IsOneMeaning}

-- what is said as a response is one
said-sends : (want : RoundWant) (text : List ℕ) → Respond text ≡ said want → IsSend want
said-sends (wish.Send delivery) text h = tt
said-sends (wish.Cache call) text h = absurd (cc)
said-sends (wish.Exchange number backend request) text h = absurd (cc)
said-sends wish.Done text h = absurd (cc)

told-sends : (token : Option ℕ) (want : RoundWant) (text : List ℕ) → Respond text ≡ told_want token want → IsSend want
told-sends (Some token) want text h = absurd (cc)
told-sends None want text h = said-sends want text h

behind-sends : (given : Given) (want : RoundWant) (text : List ℕ) → Respond text ≡ wanted_behind given want → IsSend want
behind-sends (Start moment) want text h = absurd (cc)
behind-sends (Told moment reply) want text h = told-sends (token_in reply) want text h
behind-sends (Came got) want text h = said-sends want text h
behind-sends Sent want text h = said-sends want text h
behind-sends Closed want text h = absurd (cc)

said-calm : (want : RoundWant) → (IsSend want → ⊥) → is_response (said want) ≡ false
said-calm (wish.Send delivery) n = absurd (n tt)
said-calm (wish.Cache call) n = refl
said-calm (wish.Exchange number backend request) n = refl
said-calm wish.Done n = refl

module _ {P : Type 0} (language : Language P) (m : IsOneMeaning language) (message : Message) (peer : List ℕ) where
  one-sent : (given : List Gift) (text : Option (List ℕ)) (want later : RoundWant) → IsSend want
      → WantedBy language message peer given text want → WantedBy language message peer (gift.Sent ∷ given) text later → IsSend later → ⊥
  one-sent given None want later is p q again = subst (λ (w : RoundWant). IsSend w) p is
  one-sent given (Some text) want later is p q again =
      one-response-round (language.evaluator p.0) (m.turns p.0) message peer given [] None None want later is p.2
      (wants-like (language.evaluator q.0) (language.evaluator p.0) (m.same text q.0 p.0 q.1 p.1) None message peer (gift.Sent ∷ given) later q.2) again

  sent-calm : (given : List Gift) (want later : RoundWant) → IsSend want
      → WantedBy language message peer given (text_in given) want → WantedBy language message peer (gift.Sent ∷ given) (text_in (gift.Sent ∷ given)) later
      → is_response (said later) ≡ false
  sent-calm [] want later is p q = absurd (subst (λ (w : RoundWant). IsSend w) p is)
  sent-calm (newest ∷ before) want later is p q = said-calm later (one-sent (newest ∷ before) (text_in (newest ∷ before)) want later is p q)

  behind-calm : (given : Given) (before : List Given) (text : List ℕ) (want : Want)
      → ((wanting : RoundWant) × WantedBy language message peer (gifts (given ∷ before)) (text_in (gifts (given ∷ before))) wanting × (Respond text ≡ wanted_behind given wanting))
      → Wanted language message peer (Sent ∷ given ∷ before) want → is_response want ≡ false
  behind-calm given before text want p q =
      ap is_response q.2 ∙ sent-calm (gifts (given ∷ before)) p.0 q.0 (behind-sends given p.0 text p.2) p.1 q.1

  round-calm : (givens : List Given) (text : List ℕ) (want : Want) → Wanted language message peer givens (Respond text) → Wanted language message peer (Sent ∷ givens) want → is_response want ≡ false
  round-calm [] text want p q = absurd p
  round-calm (Start moment ∷ before) text want p q = absurd (cc)
  round-calm (Told moment reply ∷ before) text want p q = behind-calm (Told moment reply) before text want p q
  round-calm (Came got ∷ before) text want p q = behind-calm (Came got) before text want p q
  round-calm (Sent ∷ before) text want p q = behind-calm Sent before text want p q
  round-calm (Closed ∷ before) text want p q = behind-calm Closed before text want p q

module _ {P : Type 0} (language : Language P) (m : IsOneMeaning language) where
  message-calm : (client : ℕ) (message : Sent_message) (givens : List Given) (text : List ℕ) (want : Want)
      → MessageWants language client message givens (Respond text) → MessageWants language client message (Sent ∷ givens) want → is_response want ≡ false
  message-calm client (Whole head body) givens text want p q = round-calm language m (record { head = head; body = body }) (address client) givens text want p q
  message-calm client Unreadable givens text want p q = ap is_response q
  message-calm client (Line instruction) givens text want p q = ap is_response q

  -- behind a response
  pub wants-calm : (request : Request) (givens : List Given) (text : List ℕ) (want : Want)
      → Wants language request givens (Respond text) → Wants language request (Sent ∷ givens) want → is_response want ≡ false
  wants-calm request givens text want p q = message-calm request.client request.message givens text want p q
