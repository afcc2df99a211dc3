-- The fields of a message: an ordered list of names and values (RFC 9110, section 5).
use Rattle.std.specs.Prelude.{ℕ, Bool, not, ◌||◌, ◌==◌, List, [], ◌∷◌, ◌++◌, find, filter, count_by, Option, All, IsTrue}
use Rattle.std.specs.Option.{option_map}
use Rattle.std.specs.Str.{bytes_eq}
use Rattle.units.specs.Folding.{folded}
use Rattle.http_header.specs.FieldName.{IsFieldName}
use Rattle.http_heads.specs.declared.fields.Field.{Field}

-- the field has the name, where the case of ASCII letters isn't regarded
abbrev pub is_named : List ℕ → Field → Bool
is_named name field = bytes_eq (folded name) (folded field.name)

-- the value of the first field of a name
abbrev pub first_value : List ℕ → List Field → Option (List ℕ)
first_value name fields = option_map (λ field. field.value) (find (is_named name) fields)

-- how many fields have the name
abbrev pub count_of : List ℕ → List Field → ℕ
count_of name fields = count_by (is_named name) fields

-- the fields of other names
abbrev pub without : List ℕ → List Field → List Field
without name fields = filter (λ field. not (is_named name field)) fields

abbrev pub field : List ℕ → List ℕ → Field
field name value = record { name = name; value = value }

-- the fields and one more at the end
abbrev pub appended : List ℕ → List ℕ → List Field → List Field
appended name value fields = fields ++ field name value ∷ []

-- the fields of other names, and then one of this name
abbrev pub replaced : List ℕ → List ℕ → List Field → List Field
replaced name value fields = appended name value (without name fields)

-- a byte that no value may hold: NUL, LF or CR
abbrev pub is_line_byte : ℕ → Bool
is_line_byte byte = byte == 0 || byte == 10 || byte == 13

-- a token of at most 65,535 bytes, and a value without CR, LF and NUL
abbrev pub MayStand : List ℕ → List ℕ → Type 0
MayStand name value = IsFieldName name × All (λ byte. IsTrue (not (is_line_byte byte))) value
