-- A fetch over the answers that it was given: what it wants next (Varnish Reference Manual, VCL-Steps, "Backend side").
use Rattle.std.specs.Prelude.{◌≡◌, ℕ, List, [], ◌∷◌, Option}
use Rattle.std.specs.Option.{option_and_then, unwrap_or}
use Rattle.vcl_values.specs.declared.value.Backend.{Backend}
use Rattle.vcl_context.specs.declared.context.Context.{Context}
use Rattle.vcl_context.specs.declared.turn.Command.{Command}
use Rattle.vcl_context.specs.declared.turn.Return.{Return}
use Rattle.vcl_context.specs.declared.turn.Turn.TheVariants as turn
use Rattle.vcl_runs.specs.Evaluators.{Evaluator}
use Rattle.vcl_runs.specs.Runs.{begun}
use Rattle.directors.specs.declared.target.Target.{Target}
use Rattle.cache_law.specs.declared.rounds.Given.{Given}
use Rattle.fetch_graph.specs.declared.fetch.Fetch.{Fetch}
use Rattle.fetch_graph.specs.declared.fetch.State.{State}
use Rattle.fetch_graph.specs.declared.fetch.WaitPoint.{WaitPoint}
use Rattle.fetch_graph.specs.declared.fetch.WaitPoint.TheVariants as point
use Rattle.fetch_graph.specs.declared.fetch.Next.{Next}
use Rattle.fetch_graph.specs.declared.fetch.Next.TheVariants.{Enter, Rest}
use Rattle.fetch_graph.specs.declared.fetch.FetchWant.{FetchWant}
use Rattle.fetch_graph.specs.Graph.{subroutine_of, leads, without_response}
use Rattle.fetch_graph.specs.Answers.{takes}
use Rattle.fetch_graph.specs.Wants.{asks}

-- What comes next settles where the fetch rests. A subroutine of a fetch has nothing to ask of the cache: where one asks for
-- something, the fetch is given up.
pub data Settles (e : Evaluator) : Next → Next → Type 0 where
  rests : (point : WaitPoint) (fetch : Fetch) → Settles e (Rest point fetch) (Rest point fetch)
  ends : {state : State} {context : Context} {fetch : Fetch} {place : Next} (word : Return) (left : Context)
      → e.turns (begun (subroutine_of state) context) (turn.End word left)
      → Settles e (leads state word left fetch) place
      → Settles e (Enter state context fetch) place
  asked : {state : State} {context : Context} {fetch : Fetch} {place : Next} (command : Command)
      → e.turns (begun (subroutine_of state) context) (turn.Need command)
      → Settles e (without_response fetch) place
      → Settles e (Enter state context fetch) place

-- how a fetch goes on where it is given this; what it is given first begins it
abbrev pub goes_on : Next → Given → Next
goes_on (Enter state context fetch) given = Enter state context fetch
goes_on (Rest point fetch) given = takes point given fetch

-- After these givens, the newest first, a fetch that opens so stands here.
abbrev pub Reaches : Evaluator → Next → List Given → Next → Type 0
Reaches e opening [] place = place ≡ opening
Reaches e opening (given ∷ givens) place = (before : Next) × Reaches e opening givens before × Settles e (goes_on before given) place

-- what a request is sent to
abbrev pub target_of : Evaluator → Option Backend → Target
target_of e backend = unwrap_or (option_and_then e.target backend) e.otherwise

abbrev pub target_at : Evaluator → WaitPoint → Target
target_at e (point.Pick context) = target_of e context.fetch_request.backend
target_at e point = e.otherwise

-- And this is what it wants where it rests, a director of kind random choosing by this word.
abbrev pub Wants : Evaluator → ℕ → Next → List Given → FetchWant → Type 0
Wants e drawn opening givens want =
    (point : WaitPoint) × (fetch : Fetch) × Reaches e opening givens (Rest point fetch) × (want ≡ asks (target_at e point) drawn fetch point)
