-- The numbers of a probe's window (Varnish Reference Manual, VCL-Probe, "window", "threshold" and "initial").
use Rattle.std.specs.Prelude.{ℕ, ℤ, pos, negsuc, ◌-◌, Bool, ◌&&◌, ◌||◌, nat_le, List, [], ◌∷◌, Option, Some, None, is_some, unwrap_or, option_map, codes, if◌then◌else◌}
use Rattle.std.specs.Option.{option_map_or, option_or}
use Rattle.std.specs.Str.{bytes_eq}
use Rattle.vcl_tree.specs.Phrase as phrase
use Rattle.vcl_tree.specs.Phrase.{Phrase}
use Rattle.vcl_attributes.specs.Readers.{first_integer}
use Rattle.vcl_attributes.specs.declared.window_numbers.WindowNumbers.{WindowNumbers}

-- the most results that a window has
abbrev pub longest_window : ℕ
longest_window = 64

-- what stands for a number that is left out
abbrev pub usual_window : ℕ
usual_window = 8

abbrev pub usual_threshold : ℕ
usual_threshold = 3

-- a number that a window may have
abbrev pub small : ℤ → Option ℕ
small (pos n) = if nat_le n longest_window then Some n else None
small (negsuc n) = None

-- the number that an attribute says, or what stands for it
abbrev pub number_of : Option ℕ → Option ℤ → Option ℕ
number_of usual said = option_map_or small said usual

-- a window has a result at least, and neither of the others is over it
abbrev pub fitting : ℕ → ℕ → ℕ → Option WindowNumbers
fitting window threshold initial =
    if nat_le 1 window && nat_le threshold window && nat_le initial window
    then Some (record { window = window; threshold = threshold; initial = initial })
    else None

abbrev pub all_fitting : Option ℕ → Option ℕ → Option ℕ → Option WindowNumbers
all_fitting (Some window) (Some threshold) (Some initial) = fitting window threshold initial
all_fitting _ _ _ = None

-- an initial number that is left out is the threshold less 1, but at least 0
abbrev pub with_initial : Option ℕ → Option ℕ → Option ℤ → Option WindowNumbers
with_initial window threshold initial = all_fitting window threshold (number_of (option_map (λ n. n - 1) threshold) initial)

-- the numbers of a probe with these attributes, where they fit
abbrev pub numbers_in : List Phrase → Option WindowNumbers
numbers_in attributes =
    with_initial
    (number_of (Some usual_window) (first_integer (codes "window") attributes))
    (number_of (Some usual_threshold) (first_integer (codes "threshold") attributes))
    (first_integer (codes "initial") attributes)

-- the place of the first of the names that say them
abbrev pub is_window_name : List ℕ → Bool
is_window_name name = bytes_eq name (codes "window") || bytes_eq name (codes "threshold") || bytes_eq name (codes "initial")

abbrev pub window_name : Phrase → Option ℕ
window_name (phrase.Node phrase.Attribute a (phrase.Node phrase.Bound (phrase.Named place name) value)) =
    if is_window_name name then Some place else None
window_name _ = None

abbrev pub window_place : List Phrase → Option ℕ
window_place [] = None
window_place (attribute ∷ more) = option_or (window_name attribute) (window_place more)

-- where the numbers don't fit
abbrev pub misfit_place : List Phrase → Option ℕ
misfit_place attributes = if is_some (numbers_in attributes) then None else window_place attributes

-- the numbers of a probe: its own where they fit, else the usual ones
abbrev pub usual_numbers : WindowNumbers
usual_numbers = record { window = 8; threshold = 3; initial = 2 }

abbrev pub numbers_of : List Phrase → WindowNumbers
numbers_of attributes = unwrap_or (numbers_in attributes) usual_numbers
