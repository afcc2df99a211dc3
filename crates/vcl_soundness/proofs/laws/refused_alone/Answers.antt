use Rattle.vcl_soundness.proofs.Changes.{refused-alone}
use Rattle.vcl_soundness.proofs.laws.refused_alone.Goals as goal

pub returns : goal.returns
returns c = λ w v x s k e. refused-alone w v x s k e
