-- How the pieces of a VCL text are spelled: its tokens, and the blanks and comments between them (Varnish Reference Manual,
-- VCL, "Strings", "Durations", "Operators", "Comments").
use Rattle.std.specs.Prelude.{ℕ, ◌≡◌, ◌≤◌, ◌<◌, ◌⊎◌, Bool, true, not, ◌==◌, ◌||◌, List, [], ◌∷◌, ◌++◌, length, codes}
use Rattle.std.specs.List.{list_all}
use Rattle.std.specs.Char.{is_ascii_digit, is_ascii_alphabetic, is_ascii_alphanumeric}
use Rattle.vcl_tree.specs.declared.token.Sign.{Sign}
use Rattle.vcl_tree.specs.declared.token.Sign.TheVariants as sign
use Rattle.vcl_tokens.specs.declared.spelling.Form.{Form}
use Rattle.vcl_tokens.specs.declared.spelling.Form.TheVariants as form
use Rattle.vcl_tokens.specs.Marks.{has, has_at_end}

-- blanks are space, tab, CR and LF
abbrev pub is_blank : ℕ → Bool
is_blank b = b == 32 || b == 9 || b == 13 || b == 10

-- a name goes on with letters, digits, `_`, `-` and `.`
abbrev pub is_name_byte : ℕ → Bool
is_name_byte b = is_ascii_alphanumeric b || b == 95 || b == 45 || b == 46

-- a comment of one line goes on up to a line feed
abbrev pub is_line_byte : ℕ → Bool
is_line_byte b = not (b == 10)

-- a string of one line goes on up to a `"`, and has no line feed
abbrev pub is_quoted_byte : ℕ → Bool
is_quoted_byte b = not (b == 34 || b == 10)

-- the bytes of each sign
abbrev pub sign_text : Sign → List ℕ
sign_text sign.OpenBrace = codes "{"
sign_text sign.CloseBrace = codes "}"
sign_text sign.OpenParenthesis = codes "("
sign_text sign.CloseParenthesis = codes ")"
sign_text sign.Semicolon = codes ";"
sign_text sign.Comma = codes ","
sign_text sign.Dot = codes "."
sign_text sign.Slash = codes "/"
sign_text sign.Assign = codes "="
sign_text sign.Equal = codes "=="
sign_text sign.NotEqual = codes "!="
sign_text sign.Match = codes "~"
sign_text sign.NotMatch = codes "!~"
sign_text sign.Less = codes "<"
sign_text sign.LessOrEqual = codes "<="
sign_text sign.Greater = codes ">"
sign_text sign.GreaterOrEqual = codes ">="
sign_text sign.Not = codes "!"
sign_text sign.And = codes "&&"
sign_text sign.Or = codes "||"
sign_text sign.Plus = codes "+"
sign_text sign.AddAssign = codes "+="
sign_text sign.Minus = codes "-"

pub data IsUnit : List ℕ → Type 0 where
  milliseconds : IsUnit (codes "ms")
  seconds : IsUnit (codes "s")
  minutes : IsUnit (codes "m")
  hours : IsUnit (codes "h")
  days : IsUnit (codes "d")
  weeks : IsUnit (codes "w")
  years : IsUnit (codes "y")

-- one digit or more
abbrev pub IsDigits : List ℕ → Type 0
IsDigits bytes = (0 < length bytes) × (list_all is_ascii_digit bytes ≡ true)

-- digits, a point, and one to three digits
pub record IsDecimal (bytes : List ℕ) : Type 0 where
  pub whole : List ℕ
  pub fraction : List ℕ
  pub parts : bytes ≡ whole ++ (codes "." ++ fraction)
  pub digits : IsDigits whole
  pub decimals : IsDigits fraction
  pub few : length fraction ≤ 3

-- an integer or a decimal, and a unit
pub record IsTimed (bytes : List ℕ) : Type 0 where
  pub number : List ℕ
  pub unit : List ℕ
  pub parts : bytes ≡ number ++ unit
  pub spelled : IsDigits number ⊎ IsDecimal number
  pub known : IsUnit unit

-- the bytes are a mark and a rest for which a test holds
pub record Begins (mark : List ℕ) (test : List ℕ → Bool) (bytes : List ℕ) : Type 0 where
  pub rest : List ℕ
  pub parts : bytes ≡ mark ++ rest
  pub holds : test rest ≡ true

-- a piece of each form
abbrev pub IsSpelled : Form → List ℕ → Type 0
-- one blank
IsSpelled form.Blank bytes = (b : ℕ) × (bytes ≡ b ∷ []) × (is_blank b ≡ true)
-- from `#` or `//` on to the line's end, or from `/*` on to the next `*/`
IsSpelled form.Comment bytes =
    Begins (codes "#") (list_all is_line_byte) bytes ⊎ (Begins (codes "//") (list_all is_line_byte) bytes ⊎ Begins (codes "/*") (has_at_end (codes "*/")) bytes)
-- a letter, and bytes of names
IsSpelled form.Name bytes = (b : ℕ) × (rest : List ℕ) × (bytes ≡ b ∷ rest) × (is_ascii_alphabetic b ≡ true) × (list_all is_name_byte rest ≡ true)
IsSpelled form.Integer bytes = IsDigits bytes
IsSpelled form.Decimal bytes = IsDecimal bytes
IsSpelled form.Duration bytes = IsTimed bytes
-- from a `"` on to the next, on one line; from `{"` on to the next `"}`; from `"""` on to the next
IsSpelled form.Quoted bytes = (body : List ℕ) × (bytes ≡ codes "\"" ++ (body ++ codes "\"")) × (list_all is_quoted_byte body ≡ true)
IsSpelled form.LongQuoted bytes = Begins (codes "{\"") (has_at_end (codes "\"}")) bytes
IsSpelled form.TripleQuoted bytes = Begins (codes "\"\"\"") (has_at_end (codes "\"\"\"")) bytes
IsSpelled (form.Sign s) bytes = bytes ≡ sign_text s
-- a comment or a string whose end hasn't come
IsSpelled form.Unended bytes =
    Begins (codes "/*") (λ rest. not (has (codes "*/") rest)) bytes ⊎ (Begins (codes "\"") (list_all is_quoted_byte) bytes
    ⊎ (Begins (codes "{\"") (λ rest. not (has (codes "\"}") rest)) bytes ⊎ Begins (codes "\"\"\"") (λ rest. not (has (codes "\"\"\"") rest)) bytes))

-- no piece has these bytes
abbrev pub IsNoPiece : List ℕ → Type 0
IsNoPiece bytes = (f : Form) → IsSpelled f bytes → ⊥
