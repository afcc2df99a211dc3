-- Variables by their names, from the tables in src/variables.rt.
use Rattle.std.specs.Prelude.{ℕ, ◌==◌, Bool, true, false, ◌&&◌, List, [], ◌∷◌, Option, Some, None, option_and_then, position, slice_get}
use Rattle.std.specs.Str.{bytes_eq}
use Rattle.vcl_language.specs.declared.variables.Variable.{Variable}
use Rattle.vcl_language.specs.declared.variables.TheConstants.{VARIABLES, VARIABLE_NAMES, FIELDS, FIELD_NAMES}

-- the name is the front and something behind it
abbrev pub is_field_of : List ℕ → List ℕ → Bool
is_field_of [] [] = false
is_field_of [] (byte ∷ name) = true
is_field_of (first ∷ front) [] = false
is_field_of (first ∷ front) (byte ∷ name) = first == byte && is_field_of front name

unfoldable pub plain_named : List ℕ → Option Variable
plain_named name = option_and_then (λ k. slice_get VARIABLES k) (position (λ known. bytes_eq known.now name) VARIABLE_NAMES)

-- a field, whose name stands behind one of the fronts
unfoldable pub field_named : List ℕ → Option Variable
field_named name = option_and_then (λ k. slice_get FIELDS k) (position (λ front. is_field_of front.now name) FIELD_NAMES)

abbrev pub or_else : Option Variable → Option Variable → Option Variable
or_else (Some variable) other = Some variable
or_else None other = other

unfoldable pub variable_named : List ℕ → Option Variable
variable_named name = or_else (plain_named name) (field_named name)
