use Rattle.std.proofs.Common.{◌≡◌, ℤ, List, sym, subst, w64}
use Rattle.std.proofs.lemmas.Int.{to_z-of_z}
use Rattle.vcl_context.specs.declared.turn.Answer.{Answer}
use Rattle.vcl_context.specs.declared.turn.Answer.TheVariants.{Number}
use Rattle.vcl_operands.specs.Outs.{IsSure}
use Rattle.vcl_operands.proofs.Binds.{sure-along}
use Rattle.vcl_operands.specs.Nodes.{World, world, given_number, came_to}
use Rattle.vcl_eval.specs.RunStates.{counted_on, rest_of}
use Rattle.vcl_eval.proofs.Sure.{count-sure}
use Rattle.vcl_eval.proofs.Turns.{counted-is, counted-follows, counted-left}
use Rattle.vcl_eval.proofs.run_state.RunState.counted.Goals as goal

pub answer-requires : goal.answer-requires
answer-requires g c =
    let w : World = world c.args.program.now.code c.args.functions.now.stored c.args.self.now.context in
    let P : ℤ → Type 0 = λ n. (s : List Answer) → IsSure (given_number w c.args.self.now.evaluation (Number n) s) in
    subst P (sym (to_z-of_z w64 c.args.count c.ranges.count)) (λ s. count-sure c.args.program.now.code c.args.functions.now.stored c.args.self.now c.args.what c.args.count s (c.requires s))

pub run-requires : goal.run-requires
run-requires g c =
    let code = c.args.program.now.code in
    let stored = c.args.functions.now.stored in
    let w : World = world code stored c.args.self.now.context in
    let P : ℤ → Type 0 = λ n. (s : List Answer) → given_number w c.args.self.now.evaluation (Number n) s ≡ came_to w c.in_ok-outcome.outcome c.answer.new.self s in
    λ answers.
    sure-along (counted_on code stored c.args.self.now c.args.what c.args.count answers) (rest_of code stored c.task_after.result (record c.args.self.now { evaluation = c.answer.new.self }) answers)
    (counted-is code stored c.args.self.now c.answer.new.self c.args.what c.in_ok-outcome.outcome c.args.count c.task_after.result c.task_after.ensures
    (subst P (to_z-of_z w64 c.args.count c.ranges.count) c.in_ok-outcome.ensures) answers) (c.requires answers)

pub returns-clause-value : goal.returns-clause-value
returns-clause-value g c =
    let w : World = world c.args.program.now.code c.args.functions.now.stored c.args.self.now.context in
    let P : ℤ → Type 0 = λ n. (s : List Answer) → given_number w c.args.self.now.evaluation (Number n) s ≡ came_to w c.in_ok-outcome.outcome c.answer.new.self s in
    counted-follows c.args.program.now.code c.args.functions.now.stored c.args.self.now c.run.new.self c.answer.new.self c.args.what c.in_ok-outcome.outcome c.args.count c.task_after.result c.run.result
    c.task_after.ensures (subst P (to_z-of_z w64 c.args.count c.ranges.count) c.in_ok-outcome.ensures) c.run.ensures.value

pub returns-clause-less : goal.returns-clause-less
returns-clause-less g c =
    counted-left c.args.program.now.code c.args.what c.in_ok-outcome.outcome c.task_after.result c.args.self.now c.run.new.self c.answer.new.self c.run.result c.task_after.ensures c.run.ensures.less
