use Rattle.replay.specs.Plan.{plan_of}
use Rattle.replay.proofs.OneWay.{one_ending}
use Rattle.replay.proofs.laws.one_ending.Goals as goal

pub returns : goal.returns
returns g c = λ beginning. one_ending (plan_of g.P.Policy.wants beginning) g.met.P.Policy.one_want
