use Rattle.replay.specs.Plan.{plan_of}
use Rattle.lurk_lines.proofs.Quiet.{no_trace}
use Rattle.lurk_lines.proofs.laws.lurk_lines_leave_no_trace.Goals as goal

pub returns : goal.returns
returns g c = λ beginning. no_trace (plan_of g.P.Policy.wants beginning) g.met.P.Policy.one_want
