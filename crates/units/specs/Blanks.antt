-- Optional white space round a text: spaces and tabs (RFC 9110, section 5.6.3).
use Rattle.std.specs.Prelude.{ℕ, Bool, ◌||◌, ◌==◌, ◌-◌, List, take, drop, length}
use Rattle.std.specs.List.{prefix_len, suffix_len}
use Rattle.units.specs.Signs.{tab, blank}

abbrev pub is_blank : ℕ → Bool
is_blank byte = byte == blank || byte == tab

-- a text without the blanks at its beginning
abbrev pub after_blanks : List ℕ → List ℕ
after_blanks text = drop (prefix_len is_blank text) text

-- a text without the blanks at its end
abbrev pub before_blanks : List ℕ → List ℕ
before_blanks text = take (length text - suffix_len is_blank text) text

-- a text without the blanks at its ends
abbrev pub trimmed : List ℕ → List ℕ
trimmed text = before_blanks (after_blanks text)
