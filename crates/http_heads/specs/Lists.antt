-- Lists in the fields of a message (RFC 9110, section 5.6.1).
use Rattle.std.specs.Prelude.{ℕ, Bool, not, ◌&&◌, ◌||◌, ◌==◌, List, [], map, filter, if◌then◌else◌}
use Rattle.std.specs.List.{flat_map, list_any, slice_split}
use Rattle.std.specs.Str.{bytes_eq}
use Rattle.units.specs.Blanks.{trimmed, is_blank}
use Rattle.units.specs.Folding.{folded}
use Rattle.http_heads.specs.declared.fields.Field.{Field}
use Rattle.http_heads.specs.Fields.{is_named}
use Rattle.http_heads.specs.declared.parts.Separators.{Separators}
use Rattle.http_heads.specs.declared.parts.Separators.TheVariants.{Commas, CommasAndBlanks}

-- 44 is a comma
abbrev pub separates : Separators → ℕ → Bool
separates Commas byte = byte == 44
separates CommasAndBlanks byte = byte == 44 || is_blank byte

-- what stands between the separators, without the blanks round it
abbrev pub parts : Separators → List ℕ → List (List ℕ)
parts separators text = map trimmed (slice_split (separates separators) text)

abbrev pub is_full : List ℕ → Bool
is_full part = not (bytes_eq part [])

-- two words are equal, where the case of ASCII letters isn't regarded
abbrev pub is_word : List ℕ → List ℕ → Bool
is_word word part = bytes_eq (folded word) (folded part)

-- the field has the name, and the word is an element of its list
abbrev pub is_listed_in : List ℕ → List ℕ → Field → Bool
is_listed_in name word field = is_named name field && list_any (is_word word) (parts Commas field.value)

-- a field of the name lists the word
abbrev pub is_listed : List ℕ → List ℕ → List Field → Bool
is_listed name word fields = list_any (is_listed_in name word) fields

-- the elements of the field's list that aren't empty, where it has the name
abbrev pub listed_in : Separators → List ℕ → Field → List (List ℕ)
listed_in separators name field = if is_named name field then filter is_full (parts separators field.value) else []

-- the elements of the lists in all fields of the name, in order
abbrev pub listed : Separators → List ℕ → List Field → List (List ℕ)
listed separators name fields = flat_map (listed_in separators name) fields
