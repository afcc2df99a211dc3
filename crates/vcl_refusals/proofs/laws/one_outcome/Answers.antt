use Rattle.vcl_refusals.proofs.OneOutcome.{outcome-one}
use Rattle.vcl_refusals.proofs.laws.one_outcome.Goals as goal

pub returns : goal.returns
returns c = outcome-one
