-- After the same givens a round wants one thing.
use Rattle.std.proofs.Common.{◌≡◌, ℕ, List, [], ◌∷◌, Option, Some, None, sym, ◌∙◌, ap}
use Rattle.cache_law.specs.declared.rounds.Given.{Given as Gift}
use Rattle.cache_law.specs.declared.rounds.Request.{Request as Message}
use Rattle.fetch_task.proofs.OneWant.{OneTurn}
use Rattle.round_task.specs.declared.want.Want.{Want as RoundWant}
use Rattle.round_task.specs.Responses.{text_in}
use Rattle.vcl_runs.specs.Languages.{Language}
use Rattle.vcl_runs.specs.Evaluators.{IsLike}
use Rattle.round_task.proofs.Alike.{wants-like}
use Rattle.round_task.proofs.OneWant.{wants-one as round-one}
use Rattle.replay.specs.declared.policy.Request.{Request}
use Rattle.replay.specs.declared.policy.Message.{Message as Sent_message}
use Rattle.replay.specs.declared.policy.Message.TheVariants.{Whole, Unreadable, Line}
use Rattle.replay.specs.declared.policy.Given.{Given}
use Rattle.replay.specs.declared.policy.Given.TheVariants.{Start, Told, Came, Sent, Closed}
use Rattle.replay.specs.declared.policy.Want.{Want}
use Rattle.replay.specs.Rounds.{address, gifts, wanted_behind, WantedBy, Wanted}
use Rattle.replay.specs.Turns.{Wants, MessageWants}

-- a language in which the programs of one text mean the same, and a run has one turn
pub record IsOneMeaning {P : Type 0} (language : Language P) : Type 0 where
  pub same : (text : List ℕ) (one other : P) → language.programs text one → language.programs text other → IsLike (language.evaluator one) (language.evaluator other)
  pub turns : (program : P) → OneTurn (language.evaluator program)

wanted-by-one : {P : Type 0} (language : Language P) → IsOneMeaning language → (message : Message) (peer : List ℕ) (given : List Gift) (text : Option (List ℕ)) (one other : RoundWant)
    → WantedBy language message peer given text one → WantedBy language message peer given text other → other ≡ one
wanted-by-one language m message peer given None one other p q = q ∙ sym p
wanted-by-one language m message peer given (Some text) one other p q =
    round-one (language.evaluator p.0) (m.turns p.0) None message peer given one other p.2
    (wants-like (language.evaluator q.0) (language.evaluator p.0) (m.same text q.0 p.0 q.1 p.1) None message peer given other q.2)

wanted-as-one : {P : Type 0} (language : Language P) → IsOneMeaning language → (message : Message) (peer : List ℕ) (given : List Gift) (text : Option (List ℕ)) (newest : Given) (one other : Want)
    → ((wanting : RoundWant) × WantedBy language message peer given text wanting × (one ≡ wanted_behind newest wanting))
    → ((wanting : RoundWant) × WantedBy language message peer given text wanting × (other ≡ wanted_behind newest wanting)) → other ≡ one
wanted-as-one language m message peer given text newest one other p q =
    q.2 ∙ ap (λ (x : RoundWant). wanted_behind newest x) (wanted-by-one language m message peer given text p.0 q.0 p.1 q.1) ∙ sym p.2

wanted-one : {P : Type 0} (language : Language P) → IsOneMeaning language → (message : Message) (peer : List ℕ) (givens : List Given) (one other : Want)
    → Wanted language message peer givens one → Wanted language message peer givens other → other ≡ one
wanted-one language m message peer [] one other p q = absurd p
wanted-one language m message peer (Start moment ∷ before) one other p q = q ∙ sym p
wanted-one language m message peer (Told moment reply ∷ before) one other p q = wanted-as-one language m message peer (gifts (Told moment reply ∷ before)) (text_in (gifts (Told moment reply ∷ before))) (Told moment reply) one other p q
wanted-one language m message peer (Came got ∷ before) one other p q = wanted-as-one language m message peer (gifts (Came got ∷ before)) (text_in (gifts (Came got ∷ before))) (Came got) one other p q
wanted-one language m message peer (Sent ∷ before) one other p q = wanted-as-one language m message peer (gifts (Sent ∷ before)) (text_in (gifts (Sent ∷ before))) Sent one other p q
wanted-one language m message peer (Closed ∷ before) one other p q = wanted-as-one language m message peer (gifts (Closed ∷ before)) (text_in (gifts (Closed ∷ before))) Closed one other p q

message-one : {P : Type 0} (language : Language P) → IsOneMeaning language → (client : ℕ) (message : Sent_message) (givens : List Given) (one other : Want)
    → MessageWants language client message givens one → MessageWants language client message givens other → other ≡ one
message-one language m client (Whole head body) givens one other p q = wanted-one language m (record { head = head; body = body }) (address client) givens one other p q
message-one language m client Unreadable [] one other p q = absurd p
message-one language m client Unreadable (given ∷ before) one other p q = q ∙ sym p
message-one language m client (Line instruction) [] one other p q = absurd p
message-one language m client (Line instruction) (given ∷ before) one other p q = q ∙ sym p

-- after the same givens a client wants the same
pub wants-one : {P : Type 0} (language : Language P) → IsOneMeaning language → (request : Request) (givens : List Given) (one other : Want)
    → Wants language request givens one → Wants language request givens other → other ≡ one
wants-one language m request givens one other p q = message-one language m request.client request.message givens one other p q
