-- A client's round over the answers that it was given: what it wants next (Varnish Reference Manual, VCL-Steps).
use Rattle.std.specs.Prelude.{◌≡◌, List, [], ◌∷◌, Option, Some, None}
use Rattle.vcl_values.specs.declared.value.Backend.{Backend}
use Rattle.vcl_context.specs.declared.context.Context.{Context}
use Rattle.vcl_context.specs.declared.turn.Answer.{Answer}
use Rattle.vcl_context.specs.declared.turn.Answer.TheVariants.{Done}
use Rattle.vcl_context.specs.declared.turn.Return.{Return}
use Rattle.vcl_context.specs.declared.turn.Command.{Command}
use Rattle.vcl_context.specs.declared.turn.Turn.{Turn}
use Rattle.vcl_context.specs.declared.turn.Turn.TheVariants as turn
use Rattle.vcl_runs.specs.Runs.{Ran, begun, answered}
use Rattle.cache_law.specs.declared.call.Call.{Call}
use Rattle.directors.specs.declared.target.Target.{Target}
use Rattle.cache_law.specs.declared.rounds.Given.{Given}
use Rattle.cache_law.specs.declared.rounds.Given.TheVariants as given
use Rattle.client_graph.specs.declared.round.Round.{Round}
use Rattle.client_graph.specs.declared.round.State.{State}
use Rattle.client_graph.specs.declared.round.WaitPoint.{WaitPoint}
use Rattle.client_graph.specs.declared.round.Next.{Next}
use Rattle.client_graph.specs.declared.round.Next.TheVariants.{Enter, Rest}
use Rattle.client_graph.specs.declared.round.ClientWant.{ClientWant}
use Rattle.client_graph.specs.declared.round.ClientWant.TheVariants.{Cache}
use Rattle.client_graph.specs.Graph.{subroutine_of, leads}
use Rattle.client_graph.specs.Wants.{asks}
use Rattle.client_graph.specs.Answers.{takes, over}
use Rattle.client_task.specs.declared.place.Asked.{Asked}
use Rattle.client_task.specs.Commands.{Asks, AsksNothing, answer_to}

-- where a round stands: before its start; in a subroutine that asked for something; or between subroutines
pub data Node : Type 0 where
  Before : Next → Node
  Inside : Asked → State → Ran → Round → Node
  Between : WaitPoint → Round → Node

-- how it goes on: a subroutine goes on as far as it was answered, or something comes next
pub data Step : Type 0 where
  Runs : State → Ran → Round → Step
  Moves : Next → Step

-- An evaluator's turns, and what its program takes a backend for.
pub record Evaluator : Type 1 where
  pub turns : Ran → Turn → Type 0
  pub target : Backend → Option Target

abbrev pub evaluator : {P : Type 0} → (P → Ran → Turn → Type 0) → (P → Backend → Option Target) → P → Evaluator
evaluator turns targets program = record { turns = turns program; target = targets program }

-- A step settles where something is wanted. A subroutine that asks for nothing goes on at once.
pub data Settles (e : Evaluator) : Step → Node → ClientWant → Type 0 where
  rests : (point : WaitPoint) (round : Round) → Settles e (Moves (Rest point round)) (Between point round) (asks e.target round point)
  enters : {state : State} {context : Context} {round : Round} {node : Node} {want : ClientWant}
      → Settles e (Runs state (begun (subroutine_of state) context) round) node want
      → Settles e (Moves (Enter state context round)) node want
  ends : {state : State} {ran : Ran} {round : Round} {node : Node} {want : ClientWant} (word : Return) (context : Context)
      → e.turns ran (turn.End word context)
      → Settles e (Moves (leads state word context round)) node want
      → Settles e (Runs state ran round) node want
  stops : {state : State} {ran : Ran} {round : Round} (command : Command) (asked : Asked) (call : Call)
      → e.turns ran (turn.Need command) → Asks command asked call
      → Settles e (Runs state ran round) (Inside asked state ran round) (Cache call)
  skips : {state : State} {ran : Ran} {round : Round} {node : Node} {want : ClientWant} (command : Command)
      → e.turns ran (turn.Need command) → AsksNothing command
      → Settles e (Runs state (answered Done ran) round) node want
      → Settles e (Runs state ran round) node want

-- a subroutine is answered; what doesn't answer it ends the round
abbrev pub goes_on : State → Ran → Round → Option Answer → Step
goes_on state ran round (Some answer) = Runs state (answered answer ran) round
goes_on state ran round None = Moves (over round)

-- how a round goes on where it is given this; what it is given first begins it
abbrev pub step_of : Node → Given → Step
step_of (Before next) given = Moves next
step_of (Inside asked state ran round) (given.Reply told) = goes_on state ran round (answer_to asked told.reply)
step_of (Between point round) given = Moves (takes point given round)
step_of (Inside asked state ran round) given = Moves (over round)

-- After these givens, the newest first, a round that opens so stands here.
abbrev pub Reaches : Evaluator → Next → List Given → Node → Type 0
Reaches e opening [] node = node ≡ Before opening
Reaches e opening (given ∷ givens) node =
    (before : Node) × (want : ClientWant) × Reaches e opening givens before × Settles e (step_of before given) node want

-- And this is what it wants.
abbrev pub Wants : Evaluator → Next → List Given → ClientWant → Type 0
Wants e opening [] want = ⊥
Wants e opening (given ∷ givens) want =
    (before : Node) × (node : Node) × Reaches e opening givens before × Settles e (step_of before given) node want
