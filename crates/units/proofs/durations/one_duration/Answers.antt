use Rattle.units.proofs.Splits.{duration_same}
use Rattle.units.proofs.durations.one_duration.Goals as goal

pub returns : goal.returns
returns c = λ m n d e. duration_same c.args.bytes.now m n d e
