use Rattle.core_steps.proofs.Growing.{stays_legal}
use Rattle.core_steps.proofs.laws.steps_stay_legal.Goals as goal

pub returns : goal.returns
returns c = stays_legal
