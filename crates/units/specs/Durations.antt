-- Durations as VCL writes them (Varnish, "VCL", Durations): decimal digits, a fraction of at most three
-- digits behind a point, and a unit right behind them.
use Rattle.std.specs.Prelude.{ℕ, ◌≡◌, ◌≢◌, ◌≤◌, ◌+◌, ◌*◌, ◌/◌, ◌^◌, List, [], ◌∷◌, ◌++◌, length, Option, codes, Some}
use Rattle.std.specs.Map.{lookup}
use Rattle.std.specs.Str.{bytes_eq}
use Rattle.std.specs.Str.Parse.{digits_value, IsNumeral, AllDigits}
use Rattle.std.specs.Char.{digit_value}
use Rattle.units.specs.Signs.{point}

-- the units, and how many milliseconds each has; a year has 365 days
abbrev pub units_of_time : List (List ℕ × ℕ)
units_of_time =
    (codes "ms", 1)
    ∷ (codes "s", 1000)
    ∷ (codes "m", 60000)
    ∷ (codes "h", 3600000)
    ∷ (codes "d", 86400000)
    ∷ (codes "w", 604800000)
    ∷ (codes "y", 31536000000)
    ∷ []

abbrev pub unit_millis : List ℕ → Option ℕ
unit_millis name = lookup (bytes_eq name) units_of_time

-- a year
abbrev pub longest_unit : ℕ
longest_unit = 31536000000

-- the longest duration, in milliseconds
abbrev pub millis_limit : ℕ
millis_limit = 10000000000000

-- a fraction with its point, and nothing where there is none
abbrev pub pointed : List ℕ → List ℕ
pointed [] = []
pointed (digit ∷ digits) = point ∷ digit ∷ digits

-- The bytes are a duration of so many milliseconds. A part of a millisecond is cut off.
pub record IsDuration (bytes : List ℕ) (millis : ℕ) : Type 0 where
  pub whole : List ℕ
  pub fraction : List ℕ
  pub unit : List ℕ
  pub each : ℕ
  pub spelled : bytes ≡ whole ++ (pointed fraction ++ unit)
  pub whole_digits : IsNumeral 10 whole
  pub fraction_digits : AllDigits 10 fraction × (length fraction ≤ 3)
  pub of_unit : unit_millis unit ≡ Some each
  pub value : millis ≡ digits_value 10 whole * each + (digits_value 10 fraction * each) / 10 ^ length fraction
  pub range : millis ≤ millis_limit

-- the text begins with no digit
abbrev pub Stops : List ℕ → Type 0
Stops [] = Unit {0}
Stops (c ∷ cs) = 10 ≤ digit_value c

-- the text begins with no point
abbrev pub HasNoPoint : List ℕ → Type 0
HasNoPoint [] = Unit {0}
HasNoPoint (c ∷ cs) = c ≢ point

-- the parts of a duration's text, whatever its unit is
pub record IsSplit (bytes whole fraction unit : List ℕ) : Type 0 where
  pub spelled : bytes ≡ whole ++ (pointed fraction ++ unit)
  pub whole_digits : IsNumeral 10 whole
  pub fraction_digits : AllDigits 10 fraction × (length fraction ≤ 3)
  pub stops : Stops unit
  pub no_point : fraction ≡ [] → HasNoPoint unit
