-- How far a request goes.
use Rattle.std.specs.Prelude.{ℕ, ◌≤◌, List, length, ⊤}
use Rattle.message_reader.specs.declared.extent.Extent.{Extent}
use Rattle.message_reader.specs.declared.extent.Extent.TheVariants.{Part, Whole, Refused}

-- a request that is whole has no more bytes than came
abbrev pub IsWithin : List ℕ → Extent → Type 0
IsWithin bytes Part = ⊤
IsWithin bytes (Whole count) = count ≤ length bytes
IsWithin bytes Refused = ⊤
