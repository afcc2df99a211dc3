use Rattle.vcl_probes.proofs.PartsOfLists.{parts-list}
use Rattle.vcl_check.proofs.attributes.nested_fault.Goals as goal

pub returns : goal.returns
returns c = rw (parts-list c.args.attributes.now) c.probe_fault.ensures
