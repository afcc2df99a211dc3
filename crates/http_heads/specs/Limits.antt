-- The limits of heads and fields.
use Rattle.std.specs.Prelude.{ℕ}

-- the most bytes of a head
abbrev pub head_limit : ℕ
head_limit = 32768

-- the most fields of a head that is read
abbrev pub field_limit : ℕ
field_limit = 64

-- as many lines, none of them empty, as no head within the limit of fields has: the start line and one field too many
abbrev pub line_limit : ℕ
line_limit = 66

-- the most fields that a message has after `set` or `append`
abbrev pub kept_limit : ℕ
kept_limit = 80

-- the most fields that a message has behind a `set` of VCL, and a stored response behind a 304
abbrev pub set_limit : ℕ
set_limit = 72
