-- Where a place of a text is, and how it is shown.
use Rattle.std.specs.Prelude.{◌≡◌, ◌==◌, ◌&&◌, ◌||◌, ◌+◌, ◌++◌, ℕ, Bool, List, [], ◌∷◌, nat_le, nat_lt, length, map, take, drop, not, if◌then◌else◌}
use Rattle.std.specs.List.{count_by, after_last, before_first}
use Rattle.diagnostics.specs.declared.showing.Shown.{Shown}

abbrev pub is_feed : ℕ → Bool
is_feed byte = byte == 10

-- the bytes of the place's line that stand before it, and those from it on
abbrev pub front : List ℕ → ℕ → List ℕ
front text place = after_last is_feed (take place text)

abbrev pub rest : List ℕ → ℕ → List ℕ
rest text place = before_first is_feed (drop place text)

-- the number of the place's line, the first of which is 1
abbrev pub line_number : List ℕ → ℕ → ℕ
line_number text place = count_by is_feed (take place text) + 1

-- a byte behind the first of a character (RFC 3629)
abbrev pub continues : ℕ → Bool
continues byte = nat_le 128 byte && nat_lt byte 192

-- what stands under bytes to fill their width: a tab under a tab, and a blank under each other character
abbrev pub filler : ℕ → ℕ
filler byte = if byte == 9 then 9 else 32

abbrev pub fillers : List ℕ → List ℕ
fillers [] = []
fillers (byte ∷ bytes) = if continues byte then fillers bytes else filler byte ∷ fillers bytes

-- a byte as it is shown: a blank in place of a control byte, but for a tab
abbrev pub is_control : ℕ → Bool
is_control byte = (nat_lt byte 32 && not (byte == 9)) || byte == 127

abbrev pub shown_byte : ℕ → ℕ
shown_byte byte = if is_control byte then 32 else byte

-- The number of the place's line and that of its character in the line, each counted from 1; the line as it is shown; and the line
-- with a caret under the place.
pub record IsShown (bytes : List ℕ) (place : ℕ) (shown : Shown) : Type 0 where
  pub line : shown.line ≡ line_number bytes place
  pub column : shown.column ≡ length (fillers (front bytes place)) + 1
  pub text : shown.text.items ≡ map shown_byte (front bytes place ++ rest bytes place)
  pub caret : shown.caret.items ≡ fillers (front bytes place) ++ 94 ∷ []
