use Rattle.std.proofs.Common.{◌≡◌, drop}
use Rattle.std.specs.Prelude.{codes}
use Rattle.vcl_attributes.specs.Readers.{first_read}
use Rattle.vcl_probes.specs.TextProbes.{body_of}
use Rattle.vcl_probes.proofs.bodies.first_body.Given as goal

abbrev pub invariant-loop-attribute : goal.invariant-loop-attribute
invariant-loop-attribute l =
    first_read (body_of l.names l.fn.items) (codes "probe") (drop l.attribute-index l.attributes) ≡ first_read (body_of l.names l.fn.items) (codes "probe") l.attributes
