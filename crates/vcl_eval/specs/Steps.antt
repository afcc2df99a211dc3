-- Steps of a run: what it does next, and where it is then. There is none where no sound text comes.
use Rattle.std.specs.Prelude.{ℕ, Bool, true, false, nat_lt, List, [], ◌∷◌, ◌+◌, Option, Some, None, option_map, option_and_then, slice_get, if◌then◌else◌}
use Rattle.vcl_values.specs.declared.value.Value.{Value}
use Rattle.vcl_values.specs.Values.{truth_of}
use Rattle.vcl_context.specs.declared.context.Context.{Context}
use Rattle.vcl_context.specs.declared.turn.Return.TheVariants.{Fail}
use Rattle.vcl_context.specs.declared.variable.Message.{Message}
use Rattle.vcl_context.specs.Fields.{field_unset}
use Rattle.vcl_code.specs.declared.node.Action.{Action}
use Rattle.vcl_code.specs.declared.node.Block.{Block}
use Rattle.vcl_code.specs.declared.node.Block.TheVariants.{End, Then}
use Rattle.vcl_code.specs.declared.node.Branch.{Branch}
use Rattle.vcl_code.specs.declared.node.Choice.{Choice}
use Rattle.vcl_code.specs.declared.node.Choice.TheVariants as choice
use Rattle.vcl_code.specs.declared.node.ReturnWord.{ReturnWord}
use Rattle.vcl_program.specs.declared.code.Code.{Code}
use Rattle.vcl_operands.specs.Values.{as_text}
use Rattle.vcl_eval.specs.declared.finish.Finish.{Finish}
use Rattle.vcl_eval.specs.declared.finish.Finish.TheVariants as finish
use Rattle.vcl_eval.specs.declared.finish.Plan.{Plan}
use Rattle.vcl_eval.specs.declared.finish.Plan.TheVariants as plan
use Rattle.vcl_eval.specs.declared.run_state.RunState.{RunState}
use Rattle.vcl_eval.specs.declared.task.Task.{Task}
use Rattle.vcl_eval.specs.declared.task.Task.TheVariants as task
use Rattle.vcl_eval.specs.RunStates.{ended}
use Rattle.vcl_eval.specs.Returns.{plain, with_one, with_two}
use Rattle.vcl_eval.specs.Runs.{plan_of}
use Rattle.vcl_eval.specs.States.{most_statements}
use Rattle.vcl_eval.specs.Statements.{set_to, field_to, append_to, append_field, key_given, body_given}

pub record Step : Type 0 where
  pub next : Task
  pub live : RunState

abbrev pub step : Task → RunState → Step
step next live = record { next = next; live = live }

abbrev pub with_ahead : RunState → List ℕ → RunState
with_ahead live blocks = record live { ahead = blocks }

-- the context that is set, or the end where it is refused
abbrev pub set_step : RunState → Option Context → Step
set_step live (Some c) = step task.Run (record live { context = c })
set_step live None = step (task.End Fail) live

-- something else to do, and nothing changed
abbrev pub stay : RunState → Task → Step
stay live next = step next live

-- what is taken where no condition before it held
abbrev pub chosen_step : Code → Choice → RunState → Option Step
chosen_step code choice.Nothing live = Some (step task.Run live)
chosen_step code (choice.Block block) live = Some (step task.Run (with_ahead live (block ∷ live.ahead)))
chosen_step code (choice.Branch k) live = option_map (λ (b : Branch). step (task.Evaluate b.condition (finish.Choose k)) live) (slice_get code.arena.branches k)

-- a branch by its condition's value
abbrev pub taken_step : Code → Option Branch → Option Bool → RunState → Option Step
taken_step code None truth live = None
taken_step code (Some branch) None live = None
taken_step code (Some branch) (Some true) live = Some (step task.Run (with_ahead live (branch.block ∷ live.ahead)))
taken_step code (Some branch) (Some false) live = chosen_step code branch.otherwise live

-- a ban of this text
abbrev pub banned : Option (List ℕ) → Task
banned (Some text) = task.Ban text
banned None = task.End Fail

-- the end by a word alone, with one value and with two
abbrev pub ends_plain : ReturnWord → Option Task
ends_plain word = option_map ended (plain word)

abbrev pub ends_with_one : ReturnWord → Value → Option Task
ends_with_one word v = option_map ended (with_one word v)

abbrev pub ends_with_two : ReturnWord → Value → Value → Option Task
ends_with_two word v w = option_map ended (with_two word v w)

-- a field by the number of its name
abbrev pub assigned_step : Code → Message → ℕ → Value → RunState → Option Step
assigned_step code message k v live = option_map (set_step live) (option_and_then (λ name. field_to message name v live.context) (slice_get code.arena.texts k))

abbrev pub appended_step : Code → Message → ℕ → Value → RunState → Option Step
appended_step code message k v live = option_map (set_step live) (option_and_then (λ name. append_field message name v live.context) (slice_get code.arena.texts k))

-- what is done with an expression's value
abbrev pub finished_step : Code → Finish → Value → RunState → Option Step
finished_step code (finish.Assign variable) v live = option_map (set_step live) (set_to variable v live.context)
finished_step code (finish.Append variable) v live = option_map (set_step live) (append_to variable v live.context)
finished_step code (finish.AssignField message k) v live = assigned_step code message k v live
finished_step code (finish.AppendField message k) v live = appended_step code message k v live
finished_step code finish.HashData v live = Some (set_step live (key_given v live.context))
finished_step code finish.Synthetic v live = Some (set_step live (body_given v live.context))
finished_step code finish.Ban v live = Some (step (banned (as_text v)) live)
finished_step code finish.Forget v live = Some (step task.Run live)
finished_step code (finish.Choose k) v live = taken_step code (slice_get code.arena.branches k) (truth_of v) live
finished_step code (finish.Return word) v live = option_map (stay live) (ends_with_one word v)
finished_step code (finish.ReturnFirst word e) v live = Some (step (task.Evaluate e (finish.ReturnSecond word v)) live)
finished_step code (finish.ReturnSecond word first) v live = option_map (stay live) (ends_with_two word first v)

-- a statement begins
abbrev pub begun_step : Code → Plan → RunState → Option Step
begun_step code (plan.Evaluate e what) live = Some (step (task.Evaluate e what) live)
begun_step code (plan.Unset message k) live = option_map (λ name. step task.Run (record live { context = field_unset message name live.context })) (slice_get code.arena.texts k)
begun_step code (plan.Call k) live = option_map (λ block. step task.Run (with_ahead live (block ∷ live.ahead))) (slice_get code.customs k)
begun_step code (plan.Choose other) live = chosen_step code other live
begun_step code (plan.Return word) live = option_map (stay live) (ends_plain word)

-- a statement, which is counted, before the block behind it; the one after the most ends the run
abbrev pub statement_step : Code → Action → ℕ → RunState → Option Step
statement_step code what next live =
    if nat_lt live.statements most_statements
    then option_and_then (λ p. begun_step code p (record live { statements = live.statements + 1; ahead = next ∷ live.ahead })) (plan_of what)
    else Some (step (task.End Fail) live)

abbrev pub block_step : Code → Option Block → RunState → Option Step
block_step code None live = None
block_step code (Some End) live = Some (step task.Run live)
block_step code (Some (Then what next)) live = statement_step code what next live

-- the block on top; where there is none the run ends as `fail`
abbrev pub next_step : Code → List ℕ → RunState → Option Step
next_step code [] live = Some (step (task.End Fail) (with_ahead live []))
next_step code (block ∷ blocks) live = block_step code (slice_get code.arena.blocks block) (with_ahead live blocks)
