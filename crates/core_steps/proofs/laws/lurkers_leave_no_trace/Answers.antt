use Rattle.core_steps.proofs.Growing.{no_trace}
use Rattle.core_steps.proofs.laws.lurkers_leave_no_trace.Goals as goal

pub returns : goal.returns
returns c = no_trace
