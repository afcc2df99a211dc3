-- Whole numbers as texts: decimal digits without a leading zero, but for `0` itself.
use Rattle.std.specs.Prelude.{ℕ, ◌≡◌, ◌<◌, ◌^◌, List}
use Rattle.std.specs.Fmt.{decimal}

-- the bytes are the decimal digits of n, a number of 64 bits
abbrev pub IsNumber : List ℕ → ℕ → Type 0
IsNumber bytes n = (n < 2 ^ 64) × (bytes ≡ decimal n)
