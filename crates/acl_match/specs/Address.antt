-- Addresses as texts.
use Rattle.std.specs.Prelude.{ℕ, ◌+◌, ◌-◌, ◌*◌, ◌==◌, nat_le, Bool, not, ◌&&◌, List, [], ◌∷◌, take, drop, Option, Some, None, position, codes, if◌then◌else◌}
use Rattle.std.specs.Str.{bytes_eq}

abbrev pub is_digit : ℕ → Bool
is_digit byte = nat_le 48 byte && nat_le byte 57

abbrev pub number_if : Bool → ℕ → Option ℕ
number_if fits n = if fits then Some n else None

-- a number to 255 in digits, without a zero before others (RFC 3986, section 3.2.2, dec-octet)
abbrev pub octet : List ℕ → Option ℕ
octet [] = None
octet (a ∷ []) = number_if (is_digit a) (a - 48)
octet (a ∷ b ∷ []) = number_if (is_digit a && (not (a == 48) && is_digit b)) ((a - 48) * 10 + (b - 48))
octet (a ∷ b ∷ c ∷ []) =
    number_if (is_digit a && (not (a == 48) && (is_digit b && (is_digit c && nat_le ((a - 48) * 100 + (b - 48) * 10 + (c - 48)) 255)))) ((a - 48) * 100 + (b - 48) * 10 + (c - 48))
octet (a ∷ b ∷ c ∷ d ∷ more) = None

abbrev pub dot_of : List ℕ → Option ℕ
dot_of text = position (λ byte. byte == 46) text

-- a number and a dot, and what is behind them
abbrev pub with_rest : List ℕ → Option ℕ → Option (ℕ × List ℕ)
with_rest rest None = None
with_rest rest (Some n) = Some (n, rest)

abbrev pub cut_at : List ℕ → Option ℕ → Option (ℕ × List ℕ)
cut_at text None = None
cut_at text (Some k) = with_rest (drop (k + 1) text) (octet (take k text))

abbrev pub before_dot : List ℕ → Option (ℕ × List ℕ)
before_dot text = cut_at text (dot_of text)

-- four numbers to 255 joined by dots
abbrev pub four : ℕ → ℕ → ℕ → Option ℕ → Option (List ℕ)
four a b c None = None
four a b c (Some d) = Some (a ∷ b ∷ c ∷ d ∷ [])

abbrev pub two_more : ℕ → ℕ → Option (ℕ × List ℕ) → Option (List ℕ)
two_more a b None = None
two_more a b (Some x) = four a b x.0 (octet x.1)

abbrev pub three_more : ℕ → Option (ℕ × List ℕ) → Option (List ℕ)
three_more a None = None
three_more a (Some x) = two_more a x.0 (before_dot x.1)

abbrev pub dotted : Option (ℕ × List ℕ) → Option (List ℕ)
dotted None = None
dotted (Some x) = three_more x.0 (before_dot x.1)

abbrev pub address_of : List ℕ → Option (List ℕ)
address_of text = if bytes_eq text (codes "localhost") then Some (127 ∷ 0 ∷ 0 ∷ 1 ∷ []) else dotted (before_dot text)
