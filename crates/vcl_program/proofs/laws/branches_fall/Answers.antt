use Rattle.vcl_program.proofs.FallingBlocks.{text-falls}
use Rattle.vcl_program.proofs.laws.branches_fall.Goals as goal

pub returns : goal.returns
returns c = (text-falls c.args.items.now c.args.stored.now).1
