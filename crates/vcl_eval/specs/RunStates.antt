-- What is left of a run under way.
use Rattle.std.specs.Prelude.{ℕ, ℤ, List, Option, Some, None}
use Rattle.vmod_host.specs.declared.signature.Stored.{Stored}
use Rattle.vcl_program.specs.declared.code.Code.{Code}
use Rattle.vcl_context.specs.declared.turn.Answer.{Answer}
use Rattle.vcl_context.specs.declared.turn.Answer.TheVariants.{Number}
use Rattle.vcl_context.specs.declared.turn.Command.TheVariants.{Ban}
use Rattle.vcl_context.specs.declared.turn.Return.{Return}
use Rattle.vcl_context.specs.declared.turn.Return.TheVariants.{Fail}
use Rattle.vcl_operands.specs.declared.evaluation.Outcome.{Outcome}
use Rattle.vcl_operands.specs.declared.evaluation.Outcome.TheVariants as outcome
use Rattle.vcl_operands.specs.Outs.{Out, Ends, and_then, ask}
use Rattle.vcl_operands.specs.Nodes.{world, given_number, came_to}
use Rattle.vcl_context.specs.declared.context.Context.{Context}
use Rattle.vcl_context.specs.declared.setting.Setting.{Setting}
use Rattle.vcl_context.specs.declared.setting.Setting.TheVariants.{Done, Refused}
use Rattle.vcl_eval.specs.declared.run_state.RunState.{RunState}
use Rattle.vcl_eval.specs.declared.finish.Finish.{Finish}
use Rattle.vcl_eval.specs.declared.task.Stop.{Stop}
use Rattle.vcl_eval.specs.declared.task.Stop.TheVariants as stop
use Rattle.vcl_eval.specs.declared.task.Task.{Task}
use Rattle.vcl_eval.specs.declared.task.Task.TheVariants as task
use Rattle.vcl_values.specs.declared.value.Value.{Value}
use Rattle.vcl_eval.specs.States.{State, state, Doing, in_state}
use Rattle.vcl_eval.specs.Runs.{finished, block_at, blocks_at, with_operand}

-- the state that a run under way is in, with the answers that are still to come
abbrev pub state_of : RunState → List Answer → State
state_of live answers = state live.context live.statements answers

-- the rest of a run behind something
abbrev pub behind : Code → List Stored → List ℕ → Unit {0} → Doing
behind code stored blocks done = blocks_at code stored blocks

-- what is done with the value that an expression comes to
abbrev pub given_to : Code → List Stored → RunState → Finish → Value → Doing
given_to code stored live what v s = and_then (finished code stored (block_at code stored) what v s) (behind code stored live.ahead)

-- an evaluation under way, by what it has come to
abbrev pub evaluated_on : Code → List Stored → RunState → Finish → Outcome → List Answer → Out State (Unit {0})
evaluated_on code stored live what came answers = and_then (in_state (state_of live answers) (came_to (world code stored live.context) came live.evaluation answers)) (given_to code stored live what)

-- one that waits for a purge's count
abbrev pub counted_on : Code → List Stored → RunState → Finish → ℤ → List Answer → Out State (Unit {0})
counted_on code stored live what n answers = and_then (in_state (state_of live answers) (given_number (world code stored live.context) live.evaluation (Number n) answers)) (given_to code stored live what)

abbrev pub rest_of : Code → List Stored → Task → RunState → List Answer → Out State (Unit {0})
rest_of code stored task.Run live answers = blocks_at code stored live.ahead (state_of live answers)
rest_of code stored (task.Evaluate e what) live answers =
    and_then (with_operand code stored e (finished code stored (block_at code stored) what) (state_of live answers)) (behind code stored live.ahead)
rest_of code stored (task.Finish what v) live answers = and_then (finished code stored (block_at code stored) what v (state_of live answers)) (behind code stored live.ahead)
rest_of code stored (task.Ban text) live answers = and_then (in_state (state_of live answers) (ask (Ban text) answers)) (λ answer. blocks_at code stored live.ahead)
rest_of code stored (task.Purge keys soft what) live answers = evaluated_on code stored live what (outcome.Purge keys soft) answers
rest_of code stored (task.End word) live answers = Ends word (state_of live answers)

-- what is done behind an evaluation
abbrev pub task_after : Finish → Outcome → Task
task_after what (outcome.Value v) = task.Finish what v
task_after what (outcome.Purge keys soft) = task.Purge keys soft what
task_after what outcome.Fail = task.End Fail

-- what a run comes to
abbrev pub stopped : Stop → Task
stopped (stop.Ban text) = task.Ban text
stopped (stop.Purge keys soft what) = task.Purge keys soft what
stopped (stop.End word) = task.End word

-- the values of variables at the end, with the count of statements
abbrev pub last_values : RunState → Context
last_values live = record live.context { statements = live.statements }

-- the end with a word, or as `fail`
abbrev pub ended : Option Return → Task
ended (Some word) = task.End word
ended None = task.End Fail

-- what a `set` told
abbrev pub told : Setting → Task
told Done = task.Run
told Refused = task.End Fail
