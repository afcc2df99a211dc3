use Rattle.std.proofs.Common.{◌≡◌, drop}
use Rattle.vcl_attributes.specs.Readers.{first_integer}
use Rattle.vcl_attributes.proofs.readers.first_integer.Given as goal

abbrev pub invariant-loop-attribute : goal.invariant-loop-attribute
invariant-loop-attribute l = first_integer l.wanted (drop l.attribute-index l.attributes) ≡ first_integer l.wanted l.attributes
