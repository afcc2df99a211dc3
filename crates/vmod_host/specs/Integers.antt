-- Texts as whole numbers (Varnish, vmod_std, `std.integer`): blanks around a sign or none and decimal digits, a
-- number of 64 bits with a sign.
use Rattle.std.specs.Prelude.{ℕ, ℤ, pos, ◌-ℤ◌, ◌^◌, Bool, ◌==◌, ◌||◌, nat_le, nat_lt, List, [], ◌∷◌, reverse, Option, Some, None, if◌then◌else◌}
use Rattle.std.specs.List.{list_all}
use Rattle.std.specs.Option.{option_and_then}
use Rattle.std.specs.Char.{is_ascii_digit}
use Rattle.std.specs.Str.Parse.{digits_value}

-- blank, tab, LF and CR
abbrev pub is_blank : ℕ → Bool
is_blank byte = byte == 32 || byte == 9 || byte == 10 || byte == 13

-- a text without the blanks before it, and without those around it
abbrev pub without_leading : List ℕ → List ℕ
without_leading [] = []
without_leading (byte ∷ bytes) = if is_blank byte then without_leading bytes else byte ∷ bytes

abbrev pub trimmed : List ℕ → List ℕ
trimmed text = reverse (without_leading (reverse (without_leading text)))

-- the value of decimal digits, of which there is at least one
abbrev pub natural_of : List ℕ → Option ℕ
natural_of [] = None
natural_of (first ∷ more) = if list_all is_ascii_digit (first ∷ more) then Some (digits_value 10 (first ∷ more)) else None

abbrev pub positive : ℕ → Option ℤ
positive n = if nat_lt n (2 ^ 63) then Some (pos n) else None

abbrev pub negative : ℕ → Option ℤ
negative n = if nat_le n (2 ^ 63) then Some (pos 0 -ℤ pos n) else None

-- digits behind a sign or none
abbrev pub signed_of : List ℕ → Option ℤ
signed_of [] = None
signed_of (first ∷ more) =
    if first == 43 then option_and_then positive (natural_of more)
    else (if first == 45 then option_and_then negative (natural_of more)
    else option_and_then positive (natural_of (first ∷ more)))

abbrev pub integer_of : List ℕ → Option ℤ
integer_of text = signed_of (trimmed text)
