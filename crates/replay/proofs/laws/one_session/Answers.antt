use Rattle.replay.specs.Plan.{plan_of}
use Rattle.replay.proofs.Sessions.{one_session}
use Rattle.replay.proofs.laws.one_session.Goals as goal

pub returns : goal.returns
returns g c = λ beginning. one_session (plan_of g.P.Policy.wants beginning) g.met.P.Policy.one_want
