-- Variables by their names, from the tables in src/names.rt.
use Rattle.std.specs.Prelude.{ℕ, ◌==◌, Bool, true, false, List, [], ◌∷◌, map, Option, Some, None, option_and_then, position, slice_get, if◌then◌else◌}
use Rattle.std.specs.Str.{bytes_eq}
use Rattle.vcl_language.specs.declared.variables.Variable.{Variable as Row}
use Rattle.vcl_language.specs.declared.scope.Scope.{Scope}
use Rattle.vcl_language.specs.declared.scope.Scope.TheVariants.{Nowhere}
use Rattle.vcl_context.specs.declared.variable.Variable.{Variable}
use Rattle.vcl_context.specs.declared.variable.Message.{Message}
use Rattle.vcl_context.specs.declared.names.TheConstants.{NAMES, VARIABLES, FRONTS, MESSAGES}

-- the variable of a name, if it isn't a field
unfoldable pub variable_of : List ℕ → Option Variable
variable_of name = option_and_then (λ k. slice_get VARIABLES k) (position (λ known. bytes_eq known.now name) NAMES)

-- what stands behind a front, if anything does
abbrev pub behind : List ℕ → List ℕ → Option (List ℕ)
behind [] [] = None
behind [] (byte ∷ name) = Some (byte ∷ name)
behind (first ∷ front) [] = None
behind (first ∷ front) (byte ∷ name) = if first == byte then behind front name else None

-- the message whose front the name has, and the field's own name
abbrev pub field_among : List (List ℕ) → List Message → List ℕ → Option (Message × List ℕ)
field_among [] messages name = None
field_among (front ∷ fronts) [] name = None
field_among (front ∷ fronts) (message ∷ messages) name = found_or (behind front name) message (field_among fronts messages name)
  where
    found_or : Option (List ℕ) → Message → Option (Message × List ℕ) → Option (Message × List ℕ)
    found_or None message other = other
    found_or (Some field) message other = Some (message, field)

unfoldable pub field_of : List ℕ → Option (Message × List ℕ)
field_of name = field_among (map (λ front. front.now) FRONTS) MESSAGES name

-- whether the language lets a variable be set somewhere
abbrev pub is_set_somewhere : Row → Bool
is_set_somewhere row = is_somewhere row.set
  where
    is_somewhere : Scope → Bool
    is_somewhere Nowhere = false
    is_somewhere _ = true
