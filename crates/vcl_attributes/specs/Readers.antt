-- What the attributes of a backend or a probe say: the first of a name that is of the wanted type.
use Rattle.std.specs.Prelude.{ℕ, ℤ, List, [], ◌∷◌, Option, Some, None, if◌then◌else◌}
use Rattle.std.specs.Option.{option_or}
use Rattle.std.specs.Str.{bytes_eq}
use Rattle.vcl_tree.specs.Phrase as phrase
use Rattle.vcl_tree.specs.Phrase.{Phrase}

abbrev pub string_of : Phrase → Option (List ℕ)
string_of (phrase.String place text) = Some text
string_of _ = None

abbrev pub integer_of : Phrase → Option ℤ
integer_of (phrase.Integer place number) = Some number
integer_of _ = None

-- a duration, in milliseconds
abbrev pub duration_of : Phrase → Option ℤ
duration_of (phrase.Duration place milliseconds) = Some milliseconds
duration_of _ = None

-- what an attribute's value is read as, if it has this name
abbrev pub read_named : {T : Type 0} → (Phrase → Option T) → List ℕ → Phrase → Option T
read_named read wanted (phrase.Node phrase.Attribute a (phrase.Node phrase.Bound (phrase.Named place name) value)) =
    if bytes_eq name wanted then read value else None
read_named read wanted _ = None

-- what the first one of the name is read as that is read
abbrev pub first_read : {T : Type 0} → (Phrase → Option T) → List ℕ → List Phrase → Option T
first_read read wanted [] = None
first_read read wanted (attribute ∷ more) = option_or (read_named read wanted attribute) (first_read read wanted more)

abbrev pub first_string : List ℕ → List Phrase → Option (List ℕ)
first_string wanted attributes = first_read string_of wanted attributes

abbrev pub first_integer : List ℕ → List Phrase → Option ℤ
first_integer wanted attributes = first_read integer_of wanted attributes

abbrev pub first_duration : List ℕ → List Phrase → Option ℤ
first_duration wanted attributes = first_read duration_of wanted attributes
