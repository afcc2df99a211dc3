-- The names that a VCL may have.
use Rattle.std.specs.Prelude.{ℕ, ◌==◌, Bool, false, ◌&&◌, ◌||◌, List, [], ◌∷◌, length, nat_le}
use Rattle.std.specs.Char.{is_ascii_alphabetic, is_ascii_alphanumeric}
use Rattle.std.specs.List.{list_all}

-- a letter, a digit, `_` or `-`
abbrev pub is_name_byte : ℕ → Bool
is_name_byte byte = is_ascii_alphanumeric byte || byte == 95 || byte == 45

-- a letter, and at most 63 letters, digits, `_` and `-` behind it
abbrev pub is_vcl_name : List ℕ → Bool
is_vcl_name [] = false
is_vcl_name (first ∷ rest) = is_ascii_alphabetic first && nat_le (length rest) 63 && list_all is_name_byte rest
