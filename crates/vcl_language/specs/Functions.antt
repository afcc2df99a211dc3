-- Functions by their names, from the table in src/functions.rt, and methods of directors.
use Rattle.std.specs.Prelude.{ℕ, List, [], ◌∷◌, Option, Some, None, option_and_then, position, slice_get, codes, if◌then◌else◌}
use Rattle.std.specs.Str.{bytes_eq}
use Rattle.directors.specs.declared.director.DirectorKind.{DirectorKind}
use Rattle.directors.specs.declared.director.DirectorKind.TheVariants.{Random, Hash}
use Rattle.vcl_values.specs.declared.value.Kind.TheVariants as kind
use Rattle.vcl_language.specs.declared.functions.Function.{Function}
use Rattle.vcl_language.specs.declared.functions.Method.{Method}
use Rattle.vcl_language.specs.declared.functions.Method.TheVariants as method
use Rattle.vcl_language.specs.declared.functions.Slot.{Slot}
use Rattle.vcl_language.specs.declared.functions.Slot.TheVariants.{Closed, Needed, Optional}
use Rattle.vcl_language.specs.declared.functions.Parameter.{Parameter}
use Rattle.vcl_language.specs.declared.functions.Parameter.TheVariants.{Value, Weight}
use Rattle.vcl_language.specs.declared.functions.TheConstants.{FUNCTIONS, FUNCTION_NAMES}
use Rattle.vcl_language.specs.declared.scope.Scope.TheVariants as scope
use Rattle.vcl_language.specs.declared.modules.Module.TheVariants.{Language}

unfoldable pub function_named : List ℕ → Option Function
function_named name = option_and_then (λ k. slice_get FUNCTIONS k) (position (λ known. bytes_eq known.now name) FUNCTION_NAMES)

abbrev pub method_named : List ℕ → Option Method
method_named name =
    if bytes_eq name (codes "add_backend") then Some method.AddBackend else (if bytes_eq name (codes "backend") then Some method.Backend else None)

-- what takes nothing, and what takes one argument
abbrev pub nothing : List Slot
nothing = Closed ∷ Closed ∷ Closed ∷ []

abbrev pub one : Parameter → List Slot
one p = Needed p ∷ Closed ∷ Closed ∷ []

-- a backend, and for two kinds its weight
abbrev pub added : DirectorKind → List Slot
added Random = Needed (Value kind.Backend) ∷ Optional Weight ∷ Closed ∷ []
added Hash = Needed (Value kind.Backend) ∷ Optional Weight ∷ Closed ∷ []
added _ = one (Value kind.Backend)

-- the text that is hashed
abbrev pub asked : DirectorKind → List Slot
asked Hash = one (Value kind.String)
asked _ = nothing

abbrev pub method_of : DirectorKind → Method → Function
method_of director method.AddBackend = record { takes = added director; gives = None; scope = scope.Init; «module» = Language }
method_of director method.Backend = record { takes = asked director; gives = Some kind.Backend; scope = scope.Traffic; «module» = Language }
