-- Modules, and what makes directors, from the tables in src/modules.rt.
use Rattle.std.specs.Prelude.{ℕ, Bool, List, Option, is_some, option_and_then, position, slice_get}
use Rattle.std.specs.Str.{bytes_eq}
use Rattle.directors.specs.declared.director.DirectorKind.{DirectorKind}
use Rattle.vcl_language.specs.declared.modules.TheConstants.{MODULE_NAMES, MAKERS, MAKER_NAMES}

unfoldable pub is_module : List ℕ → Bool
is_module name = is_some (position (λ known. bytes_eq known.now name) MODULE_NAMES)

unfoldable pub maker_named : List ℕ → Option DirectorKind
maker_named name = option_and_then (λ k. slice_get MAKERS k) (position (λ known. bytes_eq known.now name) MAKER_NAMES)
