use Rattle.delivery.proofs.OpeningFacts.{opened_shape, synthetic_shape}
use Rattle.delivery.proofs.laws.opened_as_read.Goals as goal

pub returns-clause-delivery : goal.returns-clause-delivery
returns-clause-delivery c = opened_shape

pub returns-clause-synthetic : goal.returns-clause-synthetic
returns-clause-synthetic c = synthetic_shape
