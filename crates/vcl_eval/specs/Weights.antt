-- How much is left to do of a run, as a number that falls with each step.
use Rattle.std.specs.Prelude.{ℕ, ◌+◌, ◌*◌, ◌-◌, ◌<◌, ◌≤◌, false, [], Option, Some, None, length}
use Rattle.vcl_code.specs.declared.node.Choice.{Choice}
use Rattle.vcl_code.specs.declared.node.Choice.TheVariants as choice
use Rattle.vcl_program.specs.declared.code.Code.{Code}
use Rattle.vcl_eval.specs.declared.finish.Finish.{Finish}
use Rattle.vcl_eval.specs.declared.finish.Finish.TheVariants as finish
use Rattle.vcl_eval.specs.declared.finish.Plan.{Plan}
use Rattle.vcl_eval.specs.declared.finish.Plan.TheVariants as plan
use Rattle.vcl_context.specs.declared.turn.Command.TheVariants.{Ban, Xkey}
use Rattle.vcl_context.specs.declared.turn.Turn.{Turn}
use Rattle.vcl_context.specs.declared.turn.Turn.TheVariants.{Need, End}
use Rattle.vcl_eval.specs.declared.run_state.RunState.{RunState}
use Rattle.vcl_eval.specs.declared.machine.Asked.{Asked}
use Rattle.vcl_eval.specs.declared.machine.Asked.TheVariants as asked
use Rattle.vcl_eval.specs.declared.machine.Machine.{Machine}
use Rattle.vcl_eval.specs.declared.machine.Waiting.{Waiting}
use Rattle.vcl_eval.specs.declared.task.Stop.{Stop}
use Rattle.vcl_eval.specs.declared.task.Task.{Task}
use Rattle.vcl_eval.specs.declared.task.Task.TheVariants as task
use Rattle.vcl_eval.specs.RunStates.{stopped}
use Rattle.vcl_eval.specs.States.{most_statements}

abbrev pub finish_weight : Finish → ℕ
finish_weight (finish.Choose k) = 3 * k + 3
finish_weight (finish.ReturnFirst word e) = 3
finish_weight _ = 0

abbrev pub task_weight : Task → ℕ
task_weight task.Run = 1
task_weight (task.Evaluate e what) = 4 + finish_weight what
task_weight (task.Finish what v) = 3 + finish_weight what
task_weight (task.Ban text) = 2
task_weight (task.Purge keys soft what) = 3 + finish_weight what
task_weight _ = 0

-- without the statements that may still run
abbrev pub run_weight : Task → RunState → ℕ
run_weight next live = task_weight next + length live.ahead

abbrev pub choice_weight : Choice → ℕ
choice_weight choice.Nothing = 1
choice_weight (choice.Block b) = 2
choice_weight (choice.Branch k) = 3 * k + 7

-- what a statement weighs at most
abbrev pub most_weight : Code → ℕ
most_weight code = 3 * length code.arena.branches + 8

abbrev pub plan_weight : Code → Plan → ℕ
plan_weight code (plan.Evaluate e what) = 4 + finish_weight what
plan_weight code _ = most_weight code

abbrev pub weight : Code → Task → RunState → ℕ
weight code next live = run_weight next live + (most_statements - live.statements) * (most_weight code + 2)

-- where a run waits for an answer, how much is left of it
abbrev pub left_asked : Code → RunState → Asked → ℕ
left_asked code live (asked.Purge what) = weight code (task.Purge [] false what) live
left_asked code live _ = weight code task.Run live

abbrev pub left_waiting : Code → Option Waiting → ℕ
left_waiting code None = 0
left_waiting code (Some w) = left_asked code w.live w.asked

abbrev pub left_in : Code → Machine → ℕ
left_in code machine = left_waiting code machine.waiting

-- where a run stops no more than this is left
abbrev pub StopsWithin : Code → ℕ → Stop → Option Waiting → Type 0
StopsWithin code most s None = ⊥
StopsWithin code most s (Some w) = weight code (stopped s) w.live ≤ most

-- behind a turn that wants a ban less is left than before
abbrev pub Lessens : Code → ℕ → Turn → Machine → Type 0
Lessens code before (Need (Ban text)) machine = left_in code machine < before
Lessens code before (Need (Xkey keys soft)) machine = Unit {0}
Lessens code before (End word c) machine = Unit {0}
