use Rattle.replay.specs.Plan.{plan_of}
use Rattle.replay.proofs.OneWay.{one_history}
use Rattle.replay.proofs.laws.one_history.Goals as goal

pub returns : goal.returns
returns g c = λ beginning. one_history (plan_of g.P.Policy.wants beginning) g.met.P.Policy.one_want
