use Rattle.vcl_probes.proofs.AllInRange.{all-in-range}
use Rattle.vcl_probes.proofs.laws.probes_in_range.Goals as goal

pub returns : goal.returns
returns c = all-in-range
