-- Steps of an evaluation: what is done next, and what waits for values then. There is none where no sound text comes.
use Rattle.std.specs.Prelude.{ℕ, Bool, List, [], ◌∷◌, ◌++◌, Option, Some, None, option_map, option_and_then, slice_get, if◌then◌else◌}
use Rattle.std.specs.Bool.{beq}
use Rattle.vcl_values.specs.declared.value.Value.{Value}
use Rattle.vcl_values.specs.declared.value.Value.TheVariants as value
use Rattle.vcl_values.specs.Values.{truth_of}
use Rattle.vcl_code.specs.declared.node.Arguments.{Arguments}
use Rattle.vcl_code.specs.declared.node.Arguments.TheVariants.{Zero, One, Two, Three, More}
use Rattle.vmod_host.specs.declared.signature.Stored.{Stored}
use Rattle.vcl_program.specs.declared.code.Code.{Code}
use Rattle.vcl_operands.specs.declared.frame.Doing.{Doing}
use Rattle.vcl_operands.specs.declared.frame.Doing.TheVariants as doing
use Rattle.vcl_operands.specs.declared.frame.Frame.{Frame}
use Rattle.vcl_operands.specs.declared.frame.Frame.TheVariants as frame
use Rattle.vcl_operands.specs.declared.frame.Plan.{Plan}
use Rattle.vcl_operands.specs.declared.frame.Plan.TheVariants as plan
use Rattle.vcl_operands.specs.declared.frame.Unary.TheVariants as unary
use Rattle.vcl_operands.specs.Nodes.{World, changed, combined, leaf, plan_of, given_if}
use Rattle.vcl_operands.specs.Values.{as_text, applied}

pub record Step : Type 0 where
  pub next : Doing
  pub waiting : List Frame

abbrev pub step : Doing → List Frame → Step
step next waiting = record { next = next; waiting = waiting }

abbrev pub stay : List Frame → Doing → Step
stay fs next = step next fs

-- a value that is made, or the end where a range or a limit is passed
abbrev pub given_due : Option (Option Value) → Option Doing
given_due o = option_map given_if o

-- a stored function with some of its arguments: the next one, or its value
abbrev pub called_step : List Stored → ℕ → List Value → Arguments → List Frame → Option Step
called_step stored k given Zero fs = option_map (stay fs) (given_due (applied stored k given))
called_step stored k given (One x) fs = Some (step (doing.Evaluate x) (frame.Apply k given Zero ∷ fs))
called_step stored k given (Two x y) fs = Some (step (doing.Evaluate x) (frame.Apply k given (One y) ∷ fs))
called_step stored k given (Three x y z) fs = Some (step (doing.Evaluate x) (frame.Apply k given (Two y z) ∷ fs))
called_step stored k given More fs = None

-- the right side, unless the left one decides
abbrev pub decided_step : Bool → ℕ → Option Bool → List Frame → Option Step
decided_step decided right None fs = None
decided_step decided right (Some left) fs =
    if beq left decided then Some (step (doing.Give (value.Bool decided)) fs) else Some (step (doing.Evaluate right) (frame.One unary.Truth ∷ fs))

-- a purge by these keys
abbrev pub purge_due : Bool → Option (List ℕ) → Doing
purge_due soft (Some keys) = doing.Need keys soft
purge_due soft None = doing.Fail

-- a value for what waits on top
abbrev pub given_step : Code → List Stored → Frame → Value → List Frame → Option Step
given_step code stored (frame.One what) v fs = option_map (stay fs) (given_due (changed code what v))
given_step code stored (frame.Left what right) v fs = Some (step (doing.Evaluate right) (frame.Right what v ∷ fs))
given_step code stored (frame.Right what u) v fs = option_map (stay fs) (given_due (combined code what u v))
given_step code stored (frame.Decide decided right) v fs = decided_step decided right (truth_of v) fs
given_step code stored (frame.Purge soft) v fs = Some (step (purge_due soft (as_text v)) fs)
given_step code stored (frame.Apply k given rest) v fs = called_step stored k (given ++ v ∷ []) rest fs

-- a node: what comes first of it
abbrev pub planned_step : World → Plan → List Frame → Option Step
planned_step w (plan.First x waiting) fs = Some (step (doing.Evaluate x) (waiting ∷ fs))
planned_step w (plan.Calls k arguments) fs = called_step w.stored k [] arguments fs
planned_step w (plan.Leaf n) fs = option_map (stay fs) (given_due (leaf w.code w.context n))

abbrev pub entered_step : World → ℕ → List Frame → Option Step
entered_step w i fs = option_and_then (λ n. planned_step w (plan_of n) fs) (slice_get w.code.arena.nodes i)
