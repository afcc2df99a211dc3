-- How what a client sent is answered.
use Rattle.std.specs.Prelude.{◌≡◌, ℕ, Bool, true, false, List, [], ◌∷◌, Option, Some, None, IsSome}
use Rattle.http_heads.specs.Refusal.{bad_request}
use Rattle.vcl_context.specs.declared.turn.Answer.{Answer}
use Rattle.vcl_runs.specs.Runs.{Ran}
use Rattle.cache_law.specs.declared.call.Call.{Call}
use Rattle.cache_law.specs.declared.call.Call.TheVariants.{End}
use Rattle.cache_law.specs.declared.call.Reply.TheVariants.{Wait}
use Rattle.cache_law.specs.declared.rounds.Given.{Given as Gift}
use Rattle.cache_law.specs.declared.rounds.Request.{Request as Message}
use Rattle.round_task.specs.declared.want.Want.{Want as RoundWant}
use Rattle.round_task.specs.declared.round.Round.{Round}
use Rattle.round_task.specs.Responses.{text_in}
use Rattle.vcl_runs.specs.Languages.{Language}
use Rattle.round_task.specs.Standing.{StandsAt as RoundStands}
use Rattle.replay.specs.declared.led.Led.{Led}
use Rattle.replay.specs.declared.policy.Request.{Request}
use Rattle.replay.specs.declared.policy.Message.{Message as Sent_message}
use Rattle.replay.specs.declared.policy.Message.TheVariants.{Whole, Unreadable, Line}
use Rattle.replay.specs.declared.policy.Given.{Given}
use Rattle.replay.specs.declared.policy.Given.TheVariants.{Start, Told, Came, Sent, Closed}
use Rattle.replay.specs.declared.policy.Want.{Want}
use Rattle.replay.specs.declared.policy.Want.TheVariants.{Ask, Respond, Await, Done}
use Rattle.replay.specs.declared.turn.Turn.{Turn}
use Rattle.replay.specs.declared.turn.Turn.TheVariants as turns
use Rattle.replay.specs.declared.console.Instruction.{Instruction}
use Rattle.replay.specs.Console.{console_want}
use Rattle.replay.specs.Rounds.{address, gifts, token_in, woken, WantedBy, Wanted}

-- a request that is no message gets the answer for such a one, with no call made
abbrev pub refusal_want : Given → Want
refusal_want (Start moment) = Respond bad_request
refusal_want (Told moment (Wait token)) = Await token
refusal_want (Told moment reply) = Done
refusal_want (Came got) = Done
refusal_want Sent = Done
refusal_want Closed = Ask End

-- over all givens, newest first
abbrev pub RefusalWants : List Given → Want → Type 0
RefusalWants [] want = ⊥
RefusalWants (given ∷ before) want = want ≡ refusal_want given

abbrev pub ConsoleWants : Instruction → List Given → Want → Type 0
ConsoleWants instruction [] want = ⊥
ConsoleWants instruction (given ∷ before) want = want ≡ console_want instruction given

-- what a client wants after these givens, by what it sent
abbrev pub MessageWants : {P : Type 0} → Language P → ℕ → Sent_message → List Given → Want → Type 0
MessageWants language client (Whole head body) givens want = Wanted language (record { head = head; body = body }) (address client) givens want
MessageWants language client Unreadable givens want = RefusalWants givens want
MessageWants language client (Line instruction) givens want = ConsoleWants instruction givens want

abbrev pub Wants : {P : Type 0} → Language P → Request → List Given → Want → Type 0
Wants language request givens want = MessageWants language request.client request.message givens want

-- ---- what a turn keeps

-- Where the round stands, by the text that its Begin was told: before its Begin on any program, then on one of that text. A round
-- whose Begin was told none has none.
abbrev pub StandsBy : {M P : Type 0} → Language P → (M → P → Ran → Type 0) → (M → Answer → Type 0) → Message → List ℕ → List Gift → Option (List ℕ) → Round M → Option P → Type 0
StandsBy language stands fits message peer given (Some text) round (Some program) =
    language.programs text program × RoundStands (language.evaluator program) (λ run ran. stands run program ran) fits message peer given round.place
StandsBy language stands fits message peer given (Some text) round None = ⊥
StandsBy language stands fits message peer (newest ∷ before) None round program = program ≡ None
StandsBy {P = P} language stands fits message peer [] None round program =
    (program ≡ None) × ((p : P) → RoundStands (language.evaluator p) (λ run ran. stands run p ran) fits message peer [] round.place)

abbrev pub is_begun : List Gift → Bool
is_begun [] = false
is_begun (newest ∷ before) = true

-- the round of this message stands where it was led by what it was given
pub record StandsLed {M P : Type 0} (language : Language P) (stands : M → P → Ran → Type 0) (fits : M → Answer → Type 0) (message : Message) (peer : List ℕ) (given : List Gift) (round : Round M) (begun : Bool) (program : Option P) : Type 0 where
  pub stands_at : StandsBy language stands fits message peer given (text_in given) round program
  pub begun_is : begun ≡ is_begun given

-- and that of some message does
pub record MayGo {M P : Type 0} (language : Language P) (stands : M → P → Ran → Type 0) (fits : M → Answer → Type 0) (round : Round M) (begun : Bool) (program : Option P) : Type 0 where
  pub message : Message
  pub peer : List ℕ
  pub given : List Gift
  pub stood : StandsLed language stands fits message peer given round begun program

-- the program behind what a round is given: one of the text that its Begin is told, and later the same
abbrev pub HasProgram : {P : Type 0} → (List ℕ → P → Type 0) → Bool → Option P → Option (List ℕ) → Option P → Type 0
HasProgram programs true old told new = new ≡ old
HasProgram programs false old (Some text) (Some program) = programs text program
HasProgram programs false old (Some text) None = ⊥
HasProgram programs false old None new = new ≡ old

-- what is asked for once the fetch is closed that it was told to wait for
abbrev pub IsTold : {P : Type 0} → Language P → Message → List ℕ → List Gift → Option ℕ → Option Call → Type 0
IsTold language message peer given (Some token) again =
    (want : RoundWant) × WantedBy language message peer given (text_in given) want × (again ≡ Some (woken want))
IsTold language message peer given None again = again ≡ None

abbrev pub IsAgain : {P : Type 0} → Language P → Message → List ℕ → List Given → Option Call → Type 0
IsAgain language message peer (Told moment reply ∷ before) again = IsTold language message peer (gifts (Told moment reply ∷ before)) (token_in reply) again
IsAgain language message peer givens again = again ≡ None

-- the same for the schedule, which tells the round when a fetch is closed
pub record IsLed {M P L : Type 0} (language : Language P) (stands : M → P → Ran → Type 0) (fits : M → Answer → Type 0) (message : Message) (peer : List ℕ) (givens : List Given) (led : Led M P L) : Type 0 where
  pub stood : StandsLed language stands fits message peer (gifts givens) led.round led.begun led.program
  pub again_is : IsAgain language message peer givens led.again

-- It may be given this. That a fetch is closed, it's told only where it was told to wait for one.
pub record CanGo {M P L : Type 0} (language : Language P) (stands : M → P → Ran → Type 0) (fits : M → Answer → Type 0) (given : Given) (led : Led M P L) : Type 0 where
  pub message : Message
  pub peer : List ℕ
  pub givens : List Given
  pub led_is : IsLed language stands fits message peer givens led
  pub waited : given ≡ Closed → IsSome led.again

-- it is that of the request
abbrev pub LedAt : {M P L : Type 0} → Language P → (M → P → Ran → Type 0) → (M → Answer → Type 0) → ℕ → Sent_message → List Given → Led M P L → Type 0
LedAt language stands fits client (Whole head body) givens led = IsLed language stands fits (record { head = head; body = body }) (address client) givens led
LedAt language stands fits client Unreadable givens led = ⊥
LedAt language stands fits client (Line instruction) givens led = ⊥

abbrev pub StandsAt : {M P L : Type 0} → Language P → (M → P → Ran → Type 0) → (M → Answer → Type 0) → Turn M P L → Request → List Given → Type 0
StandsAt language stands fits turns.Refusal request givens = request.message ≡ Unreadable
StandsAt language stands fits (turns.Console instruction) request givens = request.message ≡ Line instruction
StandsAt language stands fits (turns.Round led) request givens = LedAt language stands fits request.client request.message givens led
