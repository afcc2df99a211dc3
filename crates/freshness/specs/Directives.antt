-- The directives of Cache-Control (RFC 9111, section 5.2), as far as they say a number of seconds.
use Rattle.std.specs.Prelude.{ℕ, Bool, ◌==◌, List, [], ◌∷◌, Option, Some, None, map, filter, codes, min, if◌then◌else◌}
use Rattle.std.specs.Char.{is_ascii_digit}
use Rattle.std.specs.List.{list_all, flat_map, slice_split, before_first, after_first}
use Rattle.std.specs.Option.{option_or}
use Rattle.std.specs.Str.{bytes_eq}
use Rattle.std.specs.Str.Parse.{digits_value}
use Rattle.units.specs.Blanks.{trimmed}
use Rattle.units.specs.Folding.{folded}
use Rattle.http_heads.specs.declared.fields.Field.{Field}
use Rattle.http_heads.specs.Fields.{is_named}

-- a number of seconds over this one counts as this one
abbrev pub most_seconds : ℕ
most_seconds = 1_000_000_000

-- the number that a text of digits alone says
abbrev pub seconds_of : List ℕ → Option ℕ
seconds_of [] = None
seconds_of (digit ∷ more) =
    if list_all is_ascii_digit (digit ∷ more) then Some (min (digits_value 10 (digit ∷ more)) most_seconds) else None

-- what f gives of the first item of which it gives something
abbrev pub first_given : {A B : Type 0} → (A → Option B) → List A → Option B
first_given f [] = None
first_given f (x ∷ xs) = option_or (f x) (first_given f xs)

-- the values of all fields of a name, in order
abbrev pub values_of : List ℕ → List Field → List (List ℕ)
values_of name fields = map (λ field. field.value) (filter (is_named name) fields)

abbrev pub is_comma : ℕ → Bool
is_comma byte = byte == 44

abbrev pub is_equals_sign : ℕ → Bool
is_equals_sign byte = byte == 61

-- the elements of a list: what stands between its commas, without the blanks round it
abbrev pub elements : List ℕ → List (List ℕ)
elements list = map trimmed (slice_split is_comma list)

-- the directives of all Cache-Control fields
abbrev pub directives : List Field → List (List ℕ)
directives fields = flat_map elements (values_of (codes "cache-control") fields)

-- the seconds behind the `=` of a directive of the name
abbrev pub said_by : List ℕ → List ℕ → Option ℕ
said_by name directive =
    if bytes_eq (folded name) (folded (before_first is_equals_sign directive))
    then seconds_of (after_first is_equals_sign directive)
    else None

-- the seconds that the first directive of the name with a number says
abbrev pub directive : List ℕ → List Field → Option ℕ
directive name fields = first_given (said_by name) (directives fields)
