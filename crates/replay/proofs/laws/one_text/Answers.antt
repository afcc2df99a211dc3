use Rattle.replay.specs.Plan.{plan_of}
use Rattle.replay.proofs.OneWay.{one_text}
use Rattle.replay.proofs.laws.one_text.Goals as goal

pub returns : goal.returns
returns g c = λ beginning. one_text (plan_of g.P.Policy.wants beginning) g.met.P.Policy.one_want
