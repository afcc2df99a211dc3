use Rattle.std.proofs.Common.{◌≡◌, ◌∷◌, ◌<◌, ◌+◌, ◌*◌, List, length}
use Rattle.vcl_tree.specs.Phrase.{Phrase, list_of}
use Rattle.vcl_parse.specs.Machine.{Want, Read, Go, Attributes, MoreAttributes, Take, watch}
use Rattle.vcl_tree.specs.declared.token.Sign.TheVariants as sign
use Rattle.vcl_parse.proofs.attributes.+attribute.Given as goal

abbrev pub decreases-braced_attributes : goal.decreases-braced_attributes
decreases-braced_attributes l = 2 * length l.tokens.now

abbrev pub decreases-attribute_at : goal.decreases-attribute_at
decreases-attribute_at l = 2 * length l.tokens.now

abbrev pub decreases-value : goal.decreases-value
decreases-value l = 2 * length l.tokens.now + 1

abbrev pub invariant-braced_attributes-attributes : goal.invariant-braced_attributes-attributes
invariant-braced_attributes-attributes l = record {
  shorter : length l.rest < length l.tokens;
  watched : (s : List Want) (vs : List Phrase) → watch l.depth (Read Attributes ∷ s) vs l.tokens ≡ watch l.deeper (Go MoreAttributes ∷ Take sign.CloseBrace ∷ s) (list_of l.attributes.items ∷ vs) l.rest;
}

abbrev pub decreases-braced_attributes-attributes : goal.decreases-braced_attributes-attributes
decreases-braced_attributes-attributes l = length l.rest
