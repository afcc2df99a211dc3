-- The bytes of a text, by where they stand.
use Rattle.std.specs.Prelude.{ℕ, ◌≤◌, List, take}
use Rattle.std.specs.Arc.{arc_slice_items}
use Rattle.units.specs.declared.text.Kept.{Kept}
use Rattle.units.specs.declared.text.Kept.TheVariants.{Short, Fifteen, Shared}

abbrev pub bytes_of : Kept → List ℕ
bytes_of (Short len bytes) = take len bytes
bytes_of (Fifteen bytes) = bytes
bytes_of (Shared bytes) = arc_slice_items bytes

-- a short text has room for its bytes
abbrev pub IsWhole : Kept → Type 0
IsWhole (Short len bytes) = len ≤ 14
IsWhole (Fifteen bytes) = Unit {0}
IsWhole (Shared bytes) = Unit {0}
