-- The bytes that the grammars name, by their ASCII codes.
use Rattle.std.specs.Prelude.{ℕ}

abbrev pub tab : ℕ
tab = 9

abbrev pub line_feed : ℕ
line_feed = 10

abbrev pub carriage_return : ℕ
carriage_return = 13

abbrev pub blank : ℕ
blank = 32

abbrev pub quote_mark : ℕ
quote_mark = 34

abbrev pub point : ℕ
point = 46

abbrev pub backslash : ℕ
backslash = 92

-- the last byte of ASCII that prints
abbrev pub tilde : ℕ
tilde = 126
