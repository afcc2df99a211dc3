-- The names of built-in subroutines, from the table in src/subroutines.rt.
use Rattle.std.specs.Prelude.{ℕ, Bool, List, Option, option_and_then, position, slice_get, codes, nat_eq}
use Rattle.std.specs.Str.{bytes_eq}
use Rattle.std.specs.List.{starts_with}
use Rattle.vcl_language.specs.declared.scope.Subroutine.{Subroutine}
use Rattle.vcl_language.specs.declared.subroutines.TheConstants.{SUBROUTINES, SUBROUTINE_NAMES}

unfoldable pub subroutine_named : List ℕ → Option Subroutine
subroutine_named name = option_and_then (λ k. slice_get SUBROUTINES k) (position (λ known. bytes_eq known.now name) SUBROUTINE_NAMES)

-- the name is one that only a built-in subroutine has
abbrev pub is_reserved : List ℕ → Bool
is_reserved name = starts_with nat_eq name (codes "vcl_")
