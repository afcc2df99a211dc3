use Rattle.std.proofs.Common.{◌≡◌, map, take}
use Rattle.vcl_probes.specs.TextProbes.{probe_name}
use Rattle.vcl_probes.proofs.bodies.probe_names.Given as goal

abbrev pub invariant-loop-item : goal.invariant-loop-item
invariant-loop-item l = map (λ name. name.now) l.names.items ≡ map probe_name (take l.item-index l.items)
