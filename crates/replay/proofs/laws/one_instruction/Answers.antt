use Rattle.replay.proofs.Instructions.{one_instruction}
use Rattle.replay.proofs.laws.one_instruction.Goals as goal

pub returns : goal.returns
returns c = one_instruction
