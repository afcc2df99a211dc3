use Rattle.vcl_operands.specs.Nodes.{World, world, value_at}
use Rattle.vcl_operands.proofs.Steps.{alone-sure}
use Rattle.vcl_operands.proofs.evaluation.Evaluation.evaluate.Goals as goal

pub run-requires : goal.run-requires
run-requires g c =
    let w : World = world c.args.program.now.code c.args.functions.now.stored c.args.context.now in
    λ s. alone-sure w c.args.self.now (value_at w c.args.number s) c.requires.fresh (c.requires.sure s)
