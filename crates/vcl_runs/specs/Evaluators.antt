-- What steers rounds without knowing what runs: evaluators, and when a round can't tell two of them apart.
use Rattle.std.specs.Prelude.{◌≡◌, Option}
use Rattle.directors.specs.declared.target.Target.{Target}
use Rattle.vcl_values.specs.declared.value.Backend.{Backend}
use Rattle.vcl_context.specs.declared.turn.Turn.{Turn}
use Rattle.vcl_runs.specs.Runs.{Ran}

-- An evaluator's turns, what its program takes a backend for, and what a request is sent to where VCL chose nothing.
pub record Evaluator : Type 1 where
  pub turns : Ran → Turn → Type 0
  pub target : Backend → Option Target
  pub otherwise : Target

abbrev pub evaluator : {P : Type 0} → (P → Ran → Turn → Type 0) → (P → Backend → Option Target) → (P → Target) → P → Evaluator
evaluator turns targets otherwise program = record { turns = turns program; target = targets program; otherwise = otherwise program }

-- each turn of the one is one of the other, and they take each backend for the same
pub record IsLike (one other : Evaluator) : Type 0 where
  pub turns : (ran : Ran) (turn : Turn) → one.turns ran turn → other.turns ran turn
  pub targets : (backend : Backend) → other.target backend ≡ one.target backend
  pub otherwise : other.otherwise ≡ one.otherwise
