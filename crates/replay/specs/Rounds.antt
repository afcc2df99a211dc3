-- Rounds that are led by the programs of their VCLs.
use Rattle.std.specs.Prelude.{◌≡◌, ℕ, List, [], ◌∷◌, Option, Some, None, min}
use Rattle.cache_law.specs.declared.call.Call.{Call}
use Rattle.cache_law.specs.declared.call.Call.TheVariants.{Begin, Lookup, End}
use Rattle.cache_law.specs.declared.call.Reply.{Reply}
use Rattle.cache_law.specs.declared.call.Reply.TheVariants.{Wait}
use Rattle.cache_law.specs.declared.rounds.Given.{Given as Gift}
use Rattle.cache_law.specs.declared.rounds.Given.TheVariants as gift
use Rattle.cache_law.specs.declared.rounds.Request.{Request as Message}
use Rattle.vcl_runs.specs.Evaluators.{evaluator}
use Rattle.delivery.specs.Sent.{delivery_text}
use Rattle.round_task.specs.declared.want.Want.{Want as RoundWant}
use Rattle.round_task.specs.declared.want.Want.TheVariants as wish
use Rattle.round_task.specs.Responses.{text_in}
use Rattle.vcl_runs.specs.Languages.{Language}
use Rattle.round_task.specs.Rounds.{Wants as RoundWants}
use Rattle.replay.specs.declared.policy.Given.{Given}
use Rattle.replay.specs.declared.policy.Given.TheVariants.{Start, Told, Came, Sent, Closed}
use Rattle.replay.specs.declared.policy.Want.{Want}
use Rattle.replay.specs.declared.policy.Want.TheVariants.{Ask, Exchange, Respond, Await, Done}

-- the address of a session's client
abbrev pub address : ℕ → List ℕ
address client = 10 ∷ 0 ∷ 0 ∷ min client 255 ∷ []

-- What a round was given, newest first: that it begins, and that a fetch is closed, is the schedule's matter.
abbrev pub gifts : List Given → List Gift
gifts [] = []
gifts (Start moment ∷ before) = gifts before
gifts (Told moment reply ∷ before) = gift.Reply (record { moment = moment; place = 0; reply = reply }) ∷ gifts before
gifts (Came got ∷ before) = gift.Exchange got ∷ gifts before
gifts (Sent ∷ before) = gift.Sent ∷ gifts before
gifts (Closed ∷ before) = gifts before

-- what a round's want is for the schedule
abbrev pub said : RoundWant → Want
said (wish.Cache call) = Ask call
said (wish.Exchange number backend request) = Exchange number backend request
said (wish.Send delivery) = Respond (delivery_text delivery)
said wish.Done = Done

-- what a round asks for that waited: its lookup once more
abbrev pub woken : RoundWant → Call
woken (wish.Cache (Lookup query)) = Lookup query
woken want = End

-- the fetch that a reply tells to wait for
abbrev pub token_in : Reply → Option ℕ
token_in (Wait token) = Some token
token_in reply = None

-- behind a reply: a round that was told to wait for a fetch waits for it
abbrev pub told_want : Option ℕ → RoundWant → Want
told_want (Some token) want = Await token
told_want None want = said want

-- its want behind what the schedule gave it
abbrev pub wanted_behind : Given → RoundWant → Want
wanted_behind (Start moment) want = Ask Begin
wanted_behind (Told moment reply) want = told_want (token_in reply) want
wanted_behind (Came got) want = said want
wanted_behind Sent want = said want
wanted_behind Closed want = Ask (woken want)

-- What a round wants by itself after these: what a program of its text leads to. Where its Begin was told none, it's over.
abbrev pub WantedBy : {P : Type 0} → Language P → Message → List ℕ → List Gift → Option (List ℕ) → RoundWant → Type 0
WantedBy language message peer given None want = want ≡ wish.Done
WantedBy language message peer given (Some text) want =
    (program : _) × language.programs text program × RoundWants (language.evaluator program) None message peer given want

-- that, said to the schedule
abbrev pub IsSaid : {P : Type 0} → Language P → Message → List ℕ → List Gift → Want → Type 0
IsSaid language message peer given want =
    (wanting : RoundWant) × WantedBy language message peer given (text_in given) wanting × (want ≡ said wanting)

-- and what a round wants of the schedule
abbrev pub Wanted : {P : Type 0} → Language P → Message → List ℕ → List Given → Want → Type 0
Wanted language message peer [] want = ⊥
Wanted language message peer (Start moment ∷ before) want = want ≡ Ask Begin
Wanted language message peer (given ∷ before) want =
    (wanting : RoundWant) × WantedBy language message peer (gifts (given ∷ before)) (text_in (gifts (given ∷ before))) wanting
    × (want ≡ wanted_behind given wanting)
