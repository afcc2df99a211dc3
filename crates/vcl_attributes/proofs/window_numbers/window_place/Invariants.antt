use Rattle.std.proofs.Common.{◌≡◌, drop}
use Rattle.vcl_attributes.specs.WindowNumbers.{window_place}
use Rattle.vcl_attributes.proofs.window_numbers.window_place.Given as goal

abbrev pub invariant-loop-attribute : goal.invariant-loop-attribute
invariant-loop-attribute l = window_place (drop l.attribute-index l.attributes) ≡ window_place l.attributes
