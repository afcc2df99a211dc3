-- The addresses of the fields so far.
use Rattle.std.proofs.Common.{◌≡◌, take}
use Rattle.std.specs.List.{flat_map}
use Rattle.client_graph.specs.Forwarded.{earlier_in}
use Rattle.client_graph.proofs.forwarding.write_earlier.Given as goal

abbrev pub invariant-loop-field : goal.invariant-loop-field
invariant-loop-field l = l.out.items ≡ flat_map earlier_in (take l.field-index l.fields)
