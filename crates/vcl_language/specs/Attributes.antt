-- Attributes by their names, from the tables in src/attributes.rt.
use Rattle.std.specs.Prelude.{ℕ, List, Option, option_and_then, position, slice_get}
use Rattle.std.specs.Str.{bytes_eq}
use Rattle.vcl_language.specs.declared.attributes.AttributeKind.{AttributeKind}
use Rattle.vcl_language.specs.declared.attributes.Owner.{Owner}
use Rattle.vcl_language.specs.declared.attributes.Owner.TheVariants.{Backend, Probe}
use Rattle.vcl_language.specs.declared.attributes.TheConstants.{BACKEND_NAMES, BACKEND_KINDS, PROBE_NAMES, PROBE_KINDS}

unfoldable pub attribute_named : Owner → List ℕ → Option AttributeKind
attribute_named Backend name = option_and_then (λ k. slice_get BACKEND_KINDS k) (position (λ known. bytes_eq known.now name) BACKEND_NAMES)
attribute_named Probe name = option_and_then (λ k. slice_get PROBE_KINDS k) (position (λ known. bytes_eq known.now name) PROBE_NAMES)
