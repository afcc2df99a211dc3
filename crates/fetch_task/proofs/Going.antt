-- How what settles a later step settles an earlier one.
use Rattle.std.proofs.Common.{◌≡◌, Result, Ok, Err, IfOk, subst}
use Rattle.vcl_language.specs.declared.scope.Subroutine.{Subroutine}
use Rattle.vcl_context.specs.declared.context.Context.{Context}
use Rattle.vcl_context.specs.declared.turn.Command.{Command}
use Rattle.vcl_context.specs.declared.turn.Return.{Return}
use Rattle.vcl_context.specs.declared.turn.Turn.{Turn}
use Rattle.vcl_context.specs.declared.turn.Turn.TheVariants as turn
use Rattle.vcl_runs.specs.Runs.{begun}
use Rattle.fetch_graph.specs.declared.fetch.Fetch.{Fetch}
use Rattle.fetch_graph.specs.declared.fetch.State.{State}
use Rattle.fetch_graph.specs.declared.fetch.Next.{Next}
use Rattle.fetch_graph.specs.declared.fetch.Next.TheVariants.{Enter}
use Rattle.fetch_graph.specs.Graph.{subroutine_of, leads, without_response}
use Rattle.fetch_task.specs.Fetches.{Settles, ends, asked}
use Rattle.vcl_runs.specs.Evaluators.{Evaluator}
use Rattle.fetch_task.specs.Standing.{LeadsTo}

-- the turn of the subroutine that runs in a state
turned : (e : Evaluator) (state : State) (context : Context) (ran : Subroutine) (heard told : Turn)
    → ran ≡ subroutine_of state → heard ≡ told → e.turns (begun ran context) heard → e.turns (begun (subroutine_of state) context) told
turned e state context ran heard told same is t =
    subst (λ (u : Turn). e.turns (begun (subroutine_of state) context) u) is (subst (λ (s : Subroutine). e.turns (begun s context) heard) same t)

-- it ended
pub ending : (e : Evaluator) (state : State) (context : Context) (fetch : Fetch) (ran : Subroutine) (heard : Turn) (word : Return) (left : Context) (next : Next)
    → ran ≡ subroutine_of state → heard ≡ turn.End word left → e.turns (begun ran context) heard → next ≡ leads state word left fetch
    → LeadsTo e (Enter state context fetch) next
ending e state context fetch ran heard word left next same is t h = λ place x.
    ends word left (turned e state context ran heard (turn.End word left) same is t) (subst (λ (n : Next). Settles e n place) h x)

-- or it asked for something
pub asking : (e : Evaluator) (state : State) (context : Context) (fetch : Fetch) (ran : Subroutine) (heard : Turn) (command : Command) (next : Next)
    → ran ≡ subroutine_of state → heard ≡ turn.Need command → e.turns (begun ran context) heard → next ≡ without_response fetch
    → LeadsTo e (Enter state context fetch) next
asking e state context fetch ran heard command next same is t h = λ place x.
    asked command (turned e state context ran heard (turn.Need command) same is t) (subst (λ (n : Next). Settles e n place) h x)

-- what comes now is this
pub at-next : (e : Evaluator) (first now other : Next) → now ≡ other → LeadsTo e first now → LeadsTo e first other
at-next e first now other same h = subst (λ (n : Next). LeadsTo e first n) same h

-- a call's result, given what each result has
pub if_ok : {A E : Type 0} (P Q : A → Type 0) (result : Result A E) → ((x : A) → P x → Q x) → IfOk result P → IfOk result Q
if_ok P Q (Ok x) f h = f x h
if_ok P Q (Err error) f h = tt
