use Rattle.vcl_check.proofs.FittingProbes.{declared-fit, nested-fit}
use Rattle.vcl_check.proofs.laws.probes_fit.Goals as goal

pub returns-clause-declared : goal.returns-clause-declared
returns-clause-declared c = declared-fit

pub returns-clause-nested : goal.returns-clause-nested
returns-clause-nested c = nested-fit
