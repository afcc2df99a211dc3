-- Names of header fields are compared without regard to the case of ASCII letters (RFC 9110, section 5.1).
use Rattle.std.specs.Prelude.{ℕ, List, map}
use Rattle.std.specs.Char.{to_ascii_lowercase}

-- a text with each capital letter made small: 'A' to 'Z' become 'a' to 'z', and every other byte stays
abbrev pub folded : List ℕ → List ℕ
folded text = map to_ascii_lowercase text
