-- The longest-match reading of a VCL text as tokens, and the place of a text's first fault.
use Rattle.std.specs.Prelude.{ℕ, ◌≡◌, ◌+◌, ◌-◌, ◌*◌, ◌≤◌, ◌<◌, ◌⊎◌, Bool, true, false, List, [], ◌∷◌, ◌++◌, length, take, drop, Option, Some, None, pos, ◌==◌, MatchOption}
use Rattle.std.specs.List.{list_any}
use Rattle.std.specs.Str.Parse.{digits_value, AllDigits}
use Rattle.units.specs.Durations.{IsDuration}
use Rattle.vcl_tree.specs.declared.token.Word.{Word}
use Rattle.vcl_tree.specs.declared.token.Token.{Token}
use Rattle.vcl_tree.specs.declared.token.TokenKind.{TokenKind}
use Rattle.vcl_tree.specs.declared.token.TokenKind.TheVariants as kind
use Rattle.vcl_tree.specs.declared.error.VclError.{VclError}
use Rattle.vcl_tree.specs.declared.error.VclError.TheVariants.{Refused, NoMemory}
use Rattle.vcl_tree.specs.declared.error.Refusal.TheVariants as refusal
use Rattle.vcl_tokens.specs.declared.spelling.Form.{Form}
use Rattle.vcl_tokens.specs.declared.spelling.Form.TheVariants as form
use Rattle.vcl_tokens.specs.Spelling.{IsSpelled, IsNoPiece}
use Rattle.vcl_tokens.specs.Words.{word_of}

-- The longest piece that the text begins with has n bytes, and is of this form.
pub record IsLongest (text : List ℕ) (n : ℕ) (f : Form) : Type 0 where
  pub within : n ≤ length text
  pub spelled : IsSpelled f (take n text)
  pub longest : (m : ℕ) → n < m → m ≤ length text → IsNoPiece (take m text)

abbrev pub named : Option Word → List ℕ → TokenKind
named (Some w) name = kind.Word w name
named None name = kind.Name name

-- the bytes between n bytes at each end
abbrev pub between : ℕ → List ℕ → List ℕ
between n bytes = take (length bytes - 2 * n) (drop n bytes)

-- The token is the string of these bytes, of which none is NUL.
abbrev pub IsString : List ℕ → TokenKind → Type 0
IsString bytes token = (list_any (λ b. b == 0) bytes ≡ false) × (token ≡ kind.String bytes)

-- What token a piece of this form and these bytes is.
abbrev pub Means : Form → List ℕ → TokenKind → Type 0
Means form.Blank bytes token = ⊥
Means form.Comment bytes token = ⊥
Means form.Name bytes token = token ≡ named (word_of bytes) bytes
Means form.Integer bytes token = AllDigits 10 bytes × (digits_value 10 bytes ≤ 9223372036854775807) × (token ≡ kind.Integer (pos (digits_value 10 bytes)))
Means form.Decimal bytes token = token ≡ kind.Decimal bytes
Means form.Duration bytes token = (n : ℕ) × IsDuration bytes n × (token ≡ kind.Duration (pos n))
Means form.Quoted bytes token = IsString (between 1 bytes) token
Means form.LongQuoted bytes token = IsString (between 2 bytes) token
Means form.TripleQuoted bytes token = IsString (between 3 bytes) token
Means (form.Sign s) bytes token = token ≡ kind.Sign s
Means form.Unended bytes token = ⊥

-- Blanks and comments are passed over.
abbrev pub is_passed_over : Form → Bool
is_passed_over form.Blank = true
is_passed_over form.Comment = true
is_passed_over _ = false

-- From this place on the text reads as these tokens, each the longest piece at its place.
pub data Reads : ℕ → List ℕ → List Token → Type 0 where
  ended : {place : ℕ} → Reads place [] []
  passed : {place n : ℕ} {text : List ℕ} {f : Form} {tokens : List Token} →
      IsLongest text n f → is_passed_over f ≡ true →
      Reads (place + n) (drop n text) tokens → Reads place text tokens
  one_more : {place n : ℕ} {text : List ℕ} {f : Form} {token : TokenKind} {tokens : List Token} →
      IsLongest text n f → Means f (take n text) token →
      Reads (place + n) (drop n text) tokens → Reads place text (record { kind = token; place = place } ∷ tokens)

-- Read from this place on, the text's first fault stands at the last place: no piece begins there, or one that is
-- no token, as an unended string or a number out of range.
pub data Faults : ℕ → List ℕ → ℕ → Type 0 where
  begins_none : {place b : ℕ} {text : List ℕ} →
      ((m : ℕ) → m ≤ length (b ∷ text) → IsNoPiece (take m (b ∷ text))) → Faults place (b ∷ text) place
  is_wrong : {place n : ℕ} {text : List ℕ} {f : Form} →
      IsLongest text n f → is_passed_over f ≡ false → ((token : TokenKind) → Means f (take n text) token → ⊥) →
      Faults place text place
  behind : {place n last : ℕ} {text : List ℕ} {f : Form} →
      IsLongest text n f → (is_passed_over f ≡ true) ⊎ ((token : TokenKind) × Means f (take n text) token) →
      Faults (place + n) (drop n text) last → Faults place text last

-- The text's front of n bytes is passed over, or is this token.
pub record IsPiece (text : List ℕ) (n : ℕ) (token : Option TokenKind) : Type 0 where
  pub form : Form
  pub whole : IsLongest text n form
  pub meaning : MatchOption token (is_passed_over form ≡ true) (λ t. Means form (take n text) t)

-- Why reading gave no tokens, at this place of the text: its first fault, or want of memory.
abbrev pub IsFault : ℕ → List ℕ → VclError → Type 0
IsFault place text NoMemory = Unit {0}
IsFault place text (Refused why last) = (why ≡ refusal.Token) × Faults place text last

-- A text has at most 1,048,576 bytes.
abbrev pub text_limit : ℕ
text_limit = 1048576

-- Why a text has no tokens: it is too long, or else it has a fault; or there was no memory.
abbrev pub IsRefusal : List ℕ → VclError → Type 0
IsRefusal text NoMemory = Unit {0}
IsRefusal text (Refused why place) =
    ((text_limit < length text) × (why ≡ refusal.TooLong) × (place ≡ text_limit)) ⊎ ((length text ≤ text_limit) × (why ≡ refusal.Token) × Faults 0 text place)

-- the tokens, and one more where a piece at this place is a token
abbrev pub with_token : List Token → Option TokenKind → ℕ → List Token
with_token tokens None place = tokens
with_token tokens (Some t) place = tokens ++ record { kind = t; place = place } ∷ []
