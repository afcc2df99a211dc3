-- Quoted texts: `"`, pieces that stand for one byte each, `"`.
use Rattle.std.specs.Prelude.{ℕ, ◌≡◌, ◌≤◌, ◌+◌, ◌*◌, ◌/◌, ◌%◌, ◌==◌, ◌&&◌, ◌||◌, nat_lt, nat_le, List, [], ◌∷◌, ◌++◌, length, drop, map, Option, Some, None, option_map, if◌then◌else◌}
use Rattle.std.specs.List.{flat_map}
use Rattle.std.specs.Map.{lookup}
use Rattle.std.specs.Option.{option_map_or}
use Rattle.std.specs.Char.{digit_value, digit_char}
use Rattle.std.specs.Str.{byte}
use Rattle.units.specs.Signs.{tab, line_feed, carriage_return, blank, quote_mark, backslash, tilde}

-- the signs that stand behind a backslash, and the byte that each stands for
abbrev pub signs : List (ℕ × ℕ)
signs =
    (backslash, backslash)
    ∷ (quote_mark, quote_mark)
    ∷ (byte "n", line_feed)
    ∷ (byte "r", carriage_return)
    ∷ (byte "t", tab)
    ∷ []

abbrev pub sign_byte : ℕ → Option ℕ
sign_byte sign = lookup (λ s. sign == s) signs

-- the sign of a byte that has one
abbrev pub sign_of : ℕ → Option ℕ
sign_of written = lookup (λ b. written == b) (map (λ pair. (pair.1, pair.0)) signs)

-- two hexadecimal digits
abbrev pub hexadecimal : List ℕ → Option (ℕ × List ℕ)
hexadecimal (high ∷ low ∷ rest) = if nat_lt (digit_value high) 16 && nat_lt (digit_value low) 16 then Some (16 * digit_value high + digit_value low, rest) else None
hexadecimal _ = None

-- three octal digits, at most 377
abbrev pub octal : List ℕ → Option (ℕ × List ℕ)
octal (high ∷ middle ∷ low ∷ rest) = if nat_lt (digit_value high) 4 && nat_lt (digit_value middle) 8 && nat_lt (digit_value low) 8 then Some (64 * digit_value high + 8 * digit_value middle + digit_value low, rest) else None
octal _ = None

-- what stands behind a backslash: `x` with two hexadecimal digits, three octal digits, or one of the signs
abbrev pub escape : List ℕ → Option (ℕ × List ℕ)
escape [] = None
escape (sign ∷ rest) = if sign == byte "x" then hexadecimal rest else (if nat_lt (digit_value sign) 10 then octal (sign ∷ rest) else option_map (λ b. (b, rest)) (sign_byte sign))

-- the byte that the first piece of the bytes stands for, and what is behind the piece: an escape, or a
-- byte other than `"`, `\` and LF, which stands for itself
abbrev pub piece : List ℕ → Option (ℕ × List ℕ)
piece [] = None
piece (first ∷ rest) = if first == backslash then escape rest else (if first == quote_mark || first == line_feed then None else Some (first, rest))

-- The bytes are pieces that stand for these values, and then the rest.
abbrev pub ReadsPieces : List ℕ → List ℕ → List ℕ → Type 0
ReadsPieces [] bytes rest = bytes ≡ rest
ReadsPieces (value ∷ values) bytes rest = (behind : List ℕ) × (piece bytes ≡ Some (value, behind)) × ReadsPieces values behind rest

-- The bytes begin with a quoted text of these values, `"`, the pieces, `"`, and the rest is behind it.
abbrev pub IsQuoted : List ℕ → List ℕ → List ℕ → Type 0
IsQuoted values bytes rest = (body : List ℕ) × (bytes ≡ quote_mark ∷ body) × ReadsPieces values body (quote_mark ∷ rest)

-- A quoted text of these values stands at the place `from` of the bytes, and `behind` is the place behind it.
abbrev pub IsQuotedAt : List ℕ → ℕ → List ℕ → ℕ → Type 0
IsQuotedAt bytes from values behind = (from ≤ length bytes) × (behind ≤ length bytes) × IsQuoted values (drop from bytes) (drop behind bytes)

-- how a byte is written that has no sign: as it is where it prints, else by two hexadecimal digits
abbrev pub unsigned_piece : ℕ → List ℕ
unsigned_piece b = if nat_le blank b && nat_le b tilde then b ∷ [] else backslash ∷ byte "x" ∷ digit_char (b / 16) ∷ digit_char (b % 16) ∷ []

-- how a byte is written within a quoted text
abbrev pub piece_of : ℕ → List ℕ
piece_of b = option_map_or (λ sign. backslash ∷ sign ∷ []) (sign_of b) (unsigned_piece b)

-- the one way in which a text is quoted when it is written
abbrev pub quote_of : List ℕ → List ℕ
quote_of text = quote_mark ∷ flat_map piece_of text ++ quote_mark ∷ []
