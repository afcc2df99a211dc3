-- What a clause sees of an attribute.
use Rattle.std.specs.Prelude.{ℕ}
use Rattle.vcl_tree.specs.Phrase.{Phrase, At, String, Integer, Duration, Node, Bound, Attribute, Nested, list_of}
use Rattle.vcl_tree.specs.StatementView.{name_of}
use Rattle.vcl_tree.specs.declared.name.Name.{Name}
use Rattle.vcl_tree.specs.declared.attribute.AttributeValue.{AttributeValue}
use Rattle.vcl_tree.specs.declared.attribute.AttributeValue.TheVariants as value

abbrev pub value_of : AttributeValue → Phrase
value_of (value.String place text) = String place text
value_of (value.Integer place n) = Integer place n
value_of (value.Duration place n) = Duration place n
value_of (value.Name name) = name_of name
value_of (value.Attributes place attributes) = Node Nested (At place) (list_of attributes.items)

abbrev pub attribute_of : ℕ → Name → AttributeValue → Phrase
attribute_of place name value = Node Attribute (At place) (Node Bound (name_of name) (value_of value))
