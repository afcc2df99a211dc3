-- The lines at the front of a text, by which a head with too many fields is known.
use Rattle.std.specs.Prelude.{ℕ, ◌≤◌, Bool, true, false, not, ◌==◌, if◌then◌else◌, List, [], ◌∷◌, drop, take}
use Rattle.std.specs.List.{prefix_len}
use Rattle.http_heads.specs.Limits.{head_limit, line_limit}

-- a byte more at the front of the first line
abbrev pub grow : ℕ → List (List ℕ) → List (List ℕ)
grow byte [] = []
grow byte (line ∷ lines) = (byte ∷ line) ∷ lines

-- the lines that are ended by LF, each without it; what stands behind the last LF is no line
unfoldable pub ended_lines : List ℕ → List (List ℕ)
ended_lines [] = []
ended_lines (byte ∷ bytes) = if byte == 10 then [] ∷ ended_lines bytes else grow byte (ended_lines bytes)

-- nothing, or the CR of a line that ended in CR LF
abbrev pub is_empty_line : List ℕ → Bool
is_empty_line [] = true
is_empty_line (byte ∷ []) = byte == 13
is_empty_line (byte ∷ other ∷ rest) = false

abbrev pub is_full_line : List ℕ → Bool
is_full_line line = not (is_empty_line line)

-- the lines from the first that isn't empty on
abbrev pub from_full : List (List ℕ) → List (List ℕ)
from_full lines = drop (prefix_len is_empty_line lines) lines

-- how many lines that aren't empty stand one behind another, from the first such line on
abbrev pub full_lines : List ℕ → ℕ
full_lines bytes = prefix_len is_full_line (from_full (ended_lines bytes))

-- a start line and 65 lines behind it, none of them empty: a head of more than 64 fields, if it is one
abbrev pub HasTooManyLines : List ℕ → Type 0
HasTooManyLines bytes = line_limit ≤ full_lines (take head_limit bytes)
