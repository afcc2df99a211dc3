-- A reading of a piece byte by byte: which byte may follow which, by cases on what stands before it.
use Rattle.std.specs.Prelude.{ℕ, ◌==◌, ◌||◌, List, [], ◌∷◌, Option, Some, None, if◌then◌else◌}
use Rattle.std.specs.Map.{lookup}
use Rattle.std.specs.Option.{option_and_then}
use Rattle.std.specs.Char.{is_ascii_digit, is_ascii_alphabetic}
use Rattle.vcl_tree.specs.declared.token.Sign.{Sign}
use Rattle.vcl_tree.specs.declared.token.Sign.TheVariants as sign
use Rattle.vcl_tokens.specs.Spelling.{is_blank, is_name_byte}
use Rattle.vcl_tokens.specs.declared.spelling.Form.{Form}
use Rattle.vcl_tokens.specs.declared.spelling.Form.TheVariants as form
use Rattle.vcl_tokens.specs.declared.spelling.State.{State}
use Rattle.vcl_tokens.specs.declared.spelling.State.TheVariants as state

-- the signs of one byte
abbrev pub one_byte_signs : List (ℕ × Sign)
one_byte_signs =
    (123, sign.OpenBrace)
    ∷ (125, sign.CloseBrace)
    ∷ (40, sign.OpenParenthesis)
    ∷ (41, sign.CloseParenthesis)
    ∷ (59, sign.Semicolon)
    ∷ (44, sign.Comma)
    ∷ (46, sign.Dot)
    ∷ (47, sign.Slash)
    ∷ (61, sign.Assign)
    ∷ (126, sign.Match)
    ∷ (60, sign.Less)
    ∷ (62, sign.Greater)
    ∷ (33, sign.Not)
    ∷ (43, sign.Plus)
    ∷ (45, sign.Minus)
    ∷ []

abbrev pub sign_of : ℕ → Option Sign
sign_of b = lookup (λ c. b == c) one_byte_signs

-- what a first byte begins
abbrev pub first_state : ℕ → Option State
first_state b =
    if is_blank b then Some (state.Whole form.Blank) else (
    if is_ascii_alphabetic b then Some state.Name else (
    if is_ascii_digit b then Some state.Digits else (
    if b == 34 then Some state.Quote else (
    if b == 35 then Some state.LineComment else (
    if b == 38 then Some state.Ampersand else (
    if b == 124 then Some state.Bar else option_and_then (λ s. Some (state.Sign s)) (sign_of b)))))))

-- signs of two bytes, and what a `{` and a `/` begin beside themselves
abbrev pub behind_sign : Sign → ℕ → Option State
behind_sign sign.Assign b = if b == 61 then Some (state.Whole (form.Sign sign.Equal)) else None
behind_sign sign.Not b = if b == 61 then Some (state.Whole (form.Sign sign.NotEqual)) else (if b == 126 then Some (state.Whole (form.Sign sign.NotMatch)) else None)
behind_sign sign.Less b = if b == 61 then Some (state.Whole (form.Sign sign.LessOrEqual)) else None
behind_sign sign.Greater b = if b == 61 then Some (state.Whole (form.Sign sign.GreaterOrEqual)) else None
behind_sign sign.Plus b = if b == 61 then Some (state.Whole (form.Sign sign.AddAssign)) else None
behind_sign sign.OpenBrace b = if b == 34 then Some state.Long else None
behind_sign sign.Slash b = if b == 47 then Some state.LineComment else (if b == 42 then Some state.BlockComment else None)
behind_sign _ b = None

-- the units are ms, s, m, h, d, w and y
abbrev pub unit_state : ℕ → Option State
unit_state b = if b == 109 then Some state.Minutes else (if b == 115 || b == 104 || b == 100 || b == 119 || b == 121 then Some (state.Whole form.Duration) else None)

-- within a string on one line, where a `"` leads to the state
abbrev pub line_state : ℕ → State → Option State
line_state b quoted = if b == 34 then Some quoted else (if b == 10 then None else Some state.Line)

-- what stands there with one more byte
abbrev pub next_state : State → ℕ → Option State
next_state state.Start b = first_state b
next_state (state.Whole f) b = None
next_state state.Name b = if is_name_byte b then Some state.Name else None
next_state state.Digits b = if b == 46 then Some state.Point else (if is_ascii_digit b then Some state.Digits else unit_state b)
next_state state.Point b = if is_ascii_digit b then Some state.OneDecimal else None
next_state state.OneDecimal b = if is_ascii_digit b then Some state.TwoDecimals else unit_state b
next_state state.TwoDecimals b = if is_ascii_digit b then Some state.ThreeDecimals else unit_state b
next_state state.ThreeDecimals b = unit_state b
next_state state.Minutes b = if b == 115 then Some (state.Whole form.Duration) else None
next_state (state.Sign s) b = behind_sign s b
next_state state.Ampersand b = if b == 38 then Some (state.Whole (form.Sign sign.And)) else None
next_state state.Bar b = if b == 124 then Some (state.Whole (form.Sign sign.Or)) else None
next_state state.LineComment b = if b == 10 then None else Some state.LineComment
next_state state.BlockComment b = if b == 42 then Some state.BlockCommentStar else Some state.BlockComment
next_state state.BlockCommentStar b = if b == 47 then Some (state.Whole form.Comment) else (if b == 42 then Some state.BlockCommentStar else Some state.BlockComment)
next_state state.Quote b = line_state b state.EmptyLine
next_state state.Line b = line_state b (state.Whole form.Quoted)
next_state state.EmptyLine b = if b == 34 then Some state.Triple else None
next_state state.Long b = if b == 34 then Some state.LongQuote else Some state.Long
next_state state.LongQuote b = if b == 125 then Some (state.Whole form.LongQuoted) else (if b == 34 then Some state.LongQuote else Some state.Long)
next_state state.Triple b = if b == 34 then Some state.TripleQuote else Some state.Triple
next_state state.TripleQuote b = if b == 34 then Some state.TripleQuotes else Some state.Triple
next_state state.TripleQuotes b = if b == 34 then Some (state.Whole form.TripleQuoted) else Some state.Triple

-- what a piece is that ends there
abbrev pub form_at : State → Option Form
form_at state.Start = None
form_at (state.Whole f) = Some f
form_at state.Name = Some form.Name
form_at state.Digits = Some form.Integer
form_at state.Point = None
form_at state.OneDecimal = Some form.Decimal
form_at state.TwoDecimals = Some form.Decimal
form_at state.ThreeDecimals = Some form.Decimal
form_at state.Minutes = Some form.Duration
form_at (state.Sign s) = Some (form.Sign s)
form_at state.Ampersand = None
form_at state.Bar = None
form_at state.LineComment = Some form.Comment
form_at state.BlockComment = Some form.Unended
form_at state.BlockCommentStar = Some form.Unended
form_at state.Quote = Some form.Unended
form_at state.Line = Some form.Unended
form_at state.EmptyLine = Some form.Quoted
form_at state.Long = Some form.Unended
form_at state.LongQuote = Some form.Unended
form_at state.Triple = Some form.Unended
form_at state.TripleQuote = Some form.Unended
form_at state.TripleQuotes = Some form.Unended

-- what bytes are that stand behind a state, all of them
abbrev pub form_behind : State → List ℕ → Option Form
form_behind s [] = form_at s
form_behind s (b ∷ bs) = option_and_then (λ t. form_behind t bs) (next_state s b)

-- what a piece of these bytes is, if they are one
abbrev pub form_of : List ℕ → Option Form
form_of bytes = form_behind state.Start bytes
