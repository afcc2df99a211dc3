use Rattle.vcl_soundness.proofs.Standard.{standard-meant}
use Rattle.vcl_soundness.proofs.laws.standard_are_meant.Goals as goal

pub returns : goal.returns
returns c = standard-meant
