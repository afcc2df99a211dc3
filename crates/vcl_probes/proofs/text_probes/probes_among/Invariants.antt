use Rattle.std.proofs.Common.{◌≡◌, ◌++◌, drop, filter_map}
use Rattle.vcl_probes.specs.TextProbes.{probe_in}
use Rattle.vcl_probes.proofs.text_probes.probes_among.Given as goal

abbrev pub invariant-loop-item : goal.invariant-loop-item
invariant-loop-item l = l.probes.items ++ filter_map (probe_in l.names l.items) (drop l.item-index l.items) ≡ filter_map (probe_in l.names l.items) l.items
