-- Decimals and names by their ends.
use Rattle.std.specs.Prelude.{ℕ, ◌-◌, Bool, ◌||◌, List, length, drop, codes}
use Rattle.std.specs.Str.{bytes_eq}

abbrev pub ends_in : List ℕ → List ℕ → Bool
ends_in suffix text = bytes_eq (drop (length text - length suffix) text) suffix

-- a decimal's fraction is zeros
abbrev pub has_zeros : List ℕ → Bool
has_zeros digits = ends_in (codes ".0") digits || ends_in (codes ".00") digits || ends_in (codes ".000") digits

-- the name of a director's method that takes a weight
abbrev pub adds_backend : List ℕ → Bool
adds_backend name = ends_in (codes ".add_backend") name
