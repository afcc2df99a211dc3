use Rattle.std.proofs.Common.{◌≡◌, take, map}
use Rattle.vcl_check.specs.Attributes.{attribute_name}
use Rattle.vcl_check.proofs.attributes.names_in.Given as goal

abbrev pub invariant-loop-attribute : goal.invariant-loop-attribute
invariant-loop-attribute l = map (λ name. name.now) l.out.items ≡ map attribute_name (take l.attribute-index l.attributes)
