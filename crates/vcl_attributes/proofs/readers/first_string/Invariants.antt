use Rattle.std.proofs.Common.{◌≡◌, drop}
use Rattle.vcl_attributes.specs.Readers.{first_string}
use Rattle.vcl_attributes.proofs.readers.first_string.Given as goal

abbrev pub invariant-loop-attribute : goal.invariant-loop-attribute
invariant-loop-attribute l = first_string l.wanted (drop l.attribute-index l.attributes) ≡ first_string l.wanted l.attributes
