use Rattle.core_steps.proofs.Growing.{one_history}
use Rattle.core_steps.proofs.laws.calls_have_one_history.Goals as goal

pub returns : goal.returns
returns c = one_history
