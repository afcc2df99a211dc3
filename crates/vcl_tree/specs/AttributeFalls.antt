-- Attributes in braces have fewer parts than the attribute that they belong to.
use Rattle.std.specs.Prelude.{ℕ, ◌≤◌, max}
use Rattle.std.proofs.Common.{arith}
use Rattle.vcl_tree.specs.Phrase.{Nothing, More, phrase_size}
use Rattle.vcl_tree.specs.ExpressionFalls.{most_chain}
use Rattle.vcl_tree.specs.AttributeView.{attribute_of}
use Rattle.vcl_tree.specs.declared.name.Name.{Name}
use Rattle.vcl_tree.specs.declared.attribute.AttributeValue.{AttributeValue}
use Rattle.vcl_tree.specs.declared.attribute.AttributeValue.TheVariants as value
use Rattle.vcl_tree.specs.declared.attribute.Attribute.TheDeep.{deep-AttributeValue}

pub falls : (place : ℕ) (name : Name) (v : AttributeValue) → max (deep-AttributeValue v) 0 ≤ phrase_size (attribute_of place name v)
falls place name (value.String p text) = omega arith
falls place name (value.Integer p n) = omega arith
falls place name (value.Duration p n) = omega arith
falls place name (value.Name n) = omega arith
falls place name (value.Attributes p attributes) = omega (arith, most_chain More Nothing attributes.items)
