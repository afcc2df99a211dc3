use Rattle.std.proofs.Common.{refl}
use Rattle.std.proofs.Math.Nat.{le_refl}
use Rattle.vcl_eval.specs.declared.task.Task.TheVariants as task
use Rattle.vcl_eval.specs.Steps.{finished_step, next_step}
use Rattle.vcl_eval.specs.Weights.{weight}
use Rattle.vcl_eval.proofs.Steps.{run-step, finish-step, since-sure, since-step, step-less, task-sure, since-on}
use Rattle.vcl_eval.proofs.run_state.RunState.run.Goals as goal

pub steps-init : goal.steps-init
steps-init g c = record { same = λ answers. refl; less = le_refl (weight c.args.program.now.code c.args.first c.args.self.now) }

pub next_block-requires : goal.next_block-requires
next_block-requires g c =
    let code = c.args.program.now.code in
    let stored = c.args.functions.now.stored in
    since-sure code stored c.args.first c.steps.task c.args.self.now c.steps.self (next_step code c.steps.self.ahead c.steps.self) c.steps.invariant
    (run-step code c.compiled_falls.ensures.branches stored c.steps.task c.steps.self c.in-Run.is) c.requires

pub finished-requires : goal.finished-requires
finished-requires g c =
    let code = c.args.program.now.code in
    let stored = c.args.functions.now.stored in
    since-sure code stored c.args.first c.steps.task c.args.self.now c.steps.self (finished_step code c.in-Finish.what c.in-Finish.value c.steps.self) c.steps.invariant
    (finish-step code c.compiled_falls.ensures.branches stored c.steps.task c.in-Finish.what c.in-Finish.value c.steps.self c.in-Finish.is) c.requires

pub evaluated-requires : goal.evaluated-requires
evaluated-requires g c =
    task-sure c.args.program.now.code c.args.functions.now.stored c.args.first c.steps.task (task.Evaluate c.in-Evaluate.number c.in-Evaluate.what) c.args.self.now c.steps.self c.steps.invariant
    c.in-Evaluate.is c.requires

pub steps-preserved-in_ok-task-in-Run : goal.steps-preserved-in_ok-task-in-Run
steps-preserved-in_ok-task-in-Run g c =
    let code = c.args.program.now.code in
    let stored = c.args.functions.now.stored in
    since-step code stored c.args.first c.steps.task c.in_ok-task-in-Run.task c.args.self.now c.steps.self c.next_block.new.self (next_step code c.steps.self.ahead c.steps.self) c.steps.invariant
    (run-step code c.compiled_falls.ensures.branches stored c.steps.task c.steps.self c.in-Run.is) c.in_ok-task-in-Run.ensures

pub steps-smaller-in_ok-task-in-Run : goal.steps-smaller-in_ok-task-in-Run
steps-smaller-in_ok-task-in-Run g c =
    let code = c.args.program.now.code in
    let stored = c.args.functions.now.stored in
    step-less code stored c.steps.task c.in_ok-task-in-Run.task c.steps.self c.next_block.new.self (next_step code c.steps.self.ahead c.steps.self)
    (run-step code c.compiled_falls.ensures.branches stored c.steps.task c.steps.self c.in-Run.is) c.in_ok-task-in-Run.ensures

pub steps-preserved-in_ok-task-in-Finish : goal.steps-preserved-in_ok-task-in-Finish
steps-preserved-in_ok-task-in-Finish g c =
    let code = c.args.program.now.code in
    let stored = c.args.functions.now.stored in
    since-step code stored c.args.first c.steps.task c.in_ok-task-in-Finish.task c.args.self.now c.steps.self c.finished.new.self
    (finished_step code c.in-Finish.what c.in-Finish.value c.steps.self) c.steps.invariant
    (finish-step code c.compiled_falls.ensures.branches stored c.steps.task c.in-Finish.what c.in-Finish.value c.steps.self c.in-Finish.is) c.in_ok-task-in-Finish.ensures

pub steps-smaller-in_ok-task-in-Finish : goal.steps-smaller-in_ok-task-in-Finish
steps-smaller-in_ok-task-in-Finish g c =
    let code = c.args.program.now.code in
    let stored = c.args.functions.now.stored in
    step-less code stored c.steps.task c.in_ok-task-in-Finish.task c.steps.self c.finished.new.self (finished_step code c.in-Finish.what c.in-Finish.value c.steps.self)
    (finish-step code c.compiled_falls.ensures.branches stored c.steps.task c.in-Finish.what c.in-Finish.value c.steps.self c.in-Finish.is) c.in_ok-task-in-Finish.ensures

pub steps-preserved : goal.steps-preserved
steps-preserved g c =
    since-on c.args.program.now.code c.args.functions.now.stored c.args.first c.steps.task (task.Evaluate c.in-Evaluate.number c.in-Evaluate.what) c.in_ok-task-in-Evaluate.task c.args.self.now c.steps.self
    c.evaluated.new.self c.steps.invariant c.in-Evaluate.is c.in_ok-task-in-Evaluate.ensures.value c.in_ok-task-in-Evaluate.ensures.smaller
