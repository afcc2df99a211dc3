use Rattle.vcl_attributes.proofs.InRange.{each-in-range}
use Rattle.vcl_attributes.proofs.probe_attributes.each_in_range.Goals as goal

pub returns : goal.returns
returns c = each-in-range
