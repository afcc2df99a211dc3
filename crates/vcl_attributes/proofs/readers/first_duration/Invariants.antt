use Rattle.std.proofs.Common.{◌≡◌, drop}
use Rattle.vcl_attributes.specs.Readers.{first_duration}
use Rattle.vcl_attributes.proofs.readers.first_duration.Given as goal

abbrev pub invariant-loop-attribute : goal.invariant-loop-attribute
invariant-loop-attribute l = first_duration l.wanted (drop l.attribute-index l.attributes) ≡ first_duration l.wanted l.attributes
