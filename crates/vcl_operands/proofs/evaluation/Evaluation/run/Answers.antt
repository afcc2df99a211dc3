use Rattle.std.proofs.Common.{[], ◌∷◌, ◌∙◌, sym}
use Rattle.vcl_operands.specs.declared.frame.Doing.TheVariants as doing
use Rattle.vcl_operands.specs.Nodes.{World, world, rest_of}
use Rattle.vcl_operands.specs.Steps.{given_step, entered_step}
use Rattle.vcl_operands.specs.Weights.{weight, frames_weight}
use Rattle.vcl_operands.proofs.Steps.{step-sure, stepped, less-behind, given-less, entered-less, at-evaluate, at-give, give-less, evaluate-less}
use Rattle.vcl_operands.proofs.evaluation.Evaluation.run.Goals as goal

pub entered-requires : goal.entered-requires
entered-requires g c =
    let w : World = world c.args.program.now.code c.args.functions.now.stored c.args.context.now in
    step-sure w (entered_step w c.in-Evaluate.number c.steps.self) (rest_of w c.args.first c.args.self.now []) []
    (at-evaluate w c.compiled_falls.ensures.nodes (rest_of w c.args.first c.args.self.now) c.steps.doing c.steps.self c.in-Evaluate.number c.steps.invariant c.in-Evaluate.is []) (c.requires [])

pub given-requires : goal.given-requires
given-requires g c =
    let w : World = world c.args.program.now.code c.args.functions.now.stored c.args.context.now in
    step-sure w (given_step w.code w.stored c.in-Some.frame c.in-Give.value c.pop.new.self) (rest_of w c.args.first c.args.self.now []) []
    (at-give w (rest_of w c.args.first c.args.self.now) c.steps.doing c.steps.self c.pop.new.self c.in-Some.frame c.in-Give.value c.steps.invariant c.in-Give.is (sym c.self.view_is ∙ c.in-Some.ensures) [])
    (c.requires [])

pub steps-preserved-in_ok-doing-in-Evaluate : goal.steps-preserved-in_ok-doing-in-Evaluate
steps-preserved-in_ok-doing-in-Evaluate g c =
    let w : World = world c.args.program.now.code c.args.functions.now.stored c.args.context.now in
    λ s. stepped w (entered_step w c.in-Evaluate.number c.steps.self) (rest_of w c.args.first c.args.self.now s) c.in_ok-doing-in-Evaluate.doing c.entered.new.self s
    (at-evaluate w c.compiled_falls.ensures.nodes (rest_of w c.args.first c.args.self.now) c.steps.doing c.steps.self c.in-Evaluate.number c.steps.invariant c.in-Evaluate.is s) c.in_ok-doing-in-Evaluate.ensures

pub steps-preserved : goal.steps-preserved
steps-preserved g c =
    let w : World = world c.args.program.now.code c.args.functions.now.stored c.args.context.now in
    λ s. stepped w (given_step w.code w.stored c.in-Some.frame c.in-Give.value c.pop.new.self) (rest_of w c.args.first c.args.self.now s) c.in_ok-doing-in-Some.doing c.given.new.self s
    (at-give w (rest_of w c.args.first c.args.self.now) c.steps.doing c.steps.self c.pop.new.self c.in-Some.frame c.in-Give.value c.steps.invariant c.in-Give.is (sym c.self.view_is ∙ c.in-Some.ensures) s)
    c.in_ok-doing-in-Some.ensures

pub steps-smaller-in_ok-doing-in-Evaluate : goal.steps-smaller-in_ok-doing-in-Evaluate
steps-smaller-in_ok-doing-in-Evaluate g c =
    let w : World = world c.args.program.now.code c.args.functions.now.stored c.args.context.now in
    evaluate-less (weight c.in_ok-doing-in-Evaluate.doing c.entered.new.self) c.in-Evaluate.number c.steps.doing c.steps.self c.in-Evaluate.is
    (less-behind (weight (doing.Evaluate c.in-Evaluate.number) c.steps.self) (entered_step w c.in-Evaluate.number c.steps.self) c.in_ok-doing-in-Evaluate.doing c.entered.new.self
    (entered-less w c.compiled_falls.ensures.nodes c.in-Evaluate.number c.steps.self) c.in_ok-doing-in-Evaluate.ensures)

pub steps-smaller : goal.steps-smaller
steps-smaller g c =
    let code = c.args.program.now.code in
    let stored = c.args.functions.now.stored in
    give-less (weight c.in_ok-doing-in-Some.doing c.given.new.self) c.steps.doing c.steps.self c.pop.new.self c.in-Some.frame c.in-Give.value c.in-Give.is (sym c.self.view_is ∙ c.in-Some.ensures)
    (less-behind (frames_weight (c.in-Some.frame ∷ c.pop.new.self)) (given_step code stored c.in-Some.frame c.in-Give.value c.pop.new.self) c.in_ok-doing-in-Some.doing c.given.new.self
    (given-less code stored c.in-Some.frame c.in-Give.value c.pop.new.self) c.in_ok-doing-in-Some.ensures)
