use Rattle.varn_program.proofs.OneReplay.{one_way}
use Rattle.varn_program.proofs.laws.one_replay.Goals as goal

pub returns : goal.returns
returns c = λ stored params. one_way stored params
