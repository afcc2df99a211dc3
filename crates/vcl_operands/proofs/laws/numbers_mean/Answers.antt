use Rattle.std.proofs.Common.{ap}
use Rattle.vcl_operands.specs.Meaning.{Operand}
use Rattle.vcl_operands.specs.Nodes.{world}
use Rattle.vcl_operands.proofs.Trees.{expression-is}
use Rattle.vcl_operands.proofs.laws.numbers_mean.Goals as goal

pub returns : goal.returns
returns c = λ known e before later stored context s. ap (λ (o : Operand). o s) (expression-is (world c.args.code.now stored context) c.requires known e before later)
