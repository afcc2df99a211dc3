-- Languages that steer rounds.
use Rattle.std.specs.Prelude.{ℕ, List, Option}
use Rattle.http_heads.specs.declared.exchange.Backend.{Backend}
use Rattle.directors.specs.declared.target.Target.{Target}
use Rattle.vcl_values.specs.declared.value.Backend.{Backend as Chosen}
use Rattle.vcl_context.specs.declared.turn.Turn.{Turn}
use Rattle.vcl_runs.specs.Runs.{Ran}
use Rattle.vcl_runs.specs.Evaluators.{Evaluator, evaluator}

-- A language: which programs a text has, how one runs, and where the backends are that it names.
pub record Language (P : Type 0) : Type 1 where
  pub programs : List ℕ → P → Type 0
  pub evaluator : P → Evaluator
  pub backends : P → List ℕ → Backend

-- what is known of programs of texts, as a language
abbrev pub language_of : {P : Type 0} → (List ℕ → P → Type 0) → (P → Ran → Turn → Type 0) → (P → Chosen → Option Target) → (P → Target) → (P → List ℕ → Backend) → Language P
language_of programs turns targets default_of backends = record { programs = programs; evaluator = evaluator turns targets default_of; backends = backends }
