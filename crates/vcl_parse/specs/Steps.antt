-- What a function that reads a part of the grammar does, as the reading of single tokens does it.
use Rattle.std.specs.Prelude.{ℕ, suc, ◌≡◌, ◌<◌, ◌≤◌, Bool, true, false, List, [], ◌∷◌, ◌++◌, length, ◌||◌, pred, nat_le, if◌then◌else◌}
use Rattle.vcl_tree.specs.Phrase.{Phrase, Label, Compared, More, Append, Set, Bound, ElseIf, Else, String}
use Rattle.vcl_tree.specs.ExpressionView.{sum_label}
use Rattle.vcl_tree.specs.declared.expression.Addition.{Addition}
use Rattle.vcl_tree.specs.declared.expression.Comparison.{Comparison}
use Rattle.vcl_tree.specs.declared.token.Token.{Token}
use Rattle.vcl_tree.specs.declared.token.TokenKind.{TokenKind}
use Rattle.vcl_tree.specs.declared.token.TokenKind.TheVariants as kind
use Rattle.vcl_tree.specs.declared.item.AclEntry.{AclEntry}
use Rattle.vcl_tree.specs.TreeView.{masked}
use Rattle.vcl_tree.specs.declared.token.Sign.{Sign}
use Rattle.vcl_tree.specs.declared.token.Sign.TheVariants as sign
use Rattle.vcl_parse.specs.declared.starts.ElseWord.{ElseWord}
use Rattle.vcl_parse.specs.declared.starts.ElseWord.TheVariants as otherwise
use Rattle.vcl_parse.specs.declared.stop.Stop.{Stop}
use Rattle.vcl_parse.specs.declared.stop.Stop.TheVariants as stop
use Rattle.vcl_parse.specs.Machine.{Want, Tail, Read, Go, Take, Join, Any, Assignment, Condition, Block, MoreElse, Argument, starts_term, MoreSum, Compares, Term, Sum, Outcome, Refused, Deep, watch}
use Rattle.vcl_tree.specs.Signs.{same_sign}

-- the outcome that is told by why reading stops; want of memory tells none
abbrev pub stopped : Stop → Outcome → Outcome
stopped stop.NoMemory outcome = outcome
stopped (stop.Syntax left) outcome = Refused left
stopped (stop.TooDeep left) outcome = Deep left

-- The reading from here stops so.
abbrev pub Stops : Stop → Outcome → Type 0
Stops why outcome = outcome ≡ stopped why outcome

-- With this wanted, reading stops so, whatever is wanted behind it.
abbrev pub IsStopped : Want → ℕ → List Token → Stop → Type 0
IsStopped want depth tokens why = (s : List Want) (vs : List Phrase) → Stops why (watch depth (want ∷ s) vs tokens)

-- With this wanted, the phrase is read, and the rest is left.
pub record IsRead (want : Want) (depth : ℕ) (tokens : List Token) (phrase : Phrase) (rest : List Token) : Type 0 where
  pub shorter : length rest < length tokens
  pub watched : (s : List Want) (vs : List Phrase) → watch depth (want ∷ s) vs tokens ≡ watch depth s (phrase ∷ vs) rest

-- At any depth, with this wanted, the tokens up to the rest are passed.
abbrev pub Passes : Want → (ℕ → ℕ) → List Token → List Token → Type 0
Passes want after tokens rest = (length rest < length tokens) × ((depth : ℕ) (s : List Want) (vs : List Phrase) → watch depth (want ∷ s) vs tokens ≡ watch (after depth) s vs rest)

-- At any depth, with this wanted, the phrase is read.
abbrev pub ReadsOne : Want → List Token → Phrase → List Token → Type 0
ReadsOne want tokens phrase rest = (length rest < length tokens) × ((depth : ℕ) (s : List Want) (vs : List Phrase) → watch depth (want ∷ s) vs tokens ≡ watch depth s (phrase ∷ vs) rest)

-- At any depth, with this wanted, reading stops so.
abbrev pub StopsOne : Want → List Token → Stop → Type 0
StopsOne want tokens why = (depth : ℕ) (s : List Want) (vs : List Phrase) → Stops why (watch depth (want ∷ s) vs tokens)

-- With these wanted and this part read before them, the phrase is read, and the rest is left.
pub record IsReadAll (wants : List Want) (depth : ℕ) (front : Phrase) (tokens : List Token) (phrase : Phrase) (rest : List Token) : Type 0 where
  pub shorter : length rest < length tokens
  pub watched : (s : List Want) (vs : List Phrase) → watch depth (wants ++ s) (front ∷ vs) tokens ≡ watch depth s (phrase ∷ vs) rest

-- With these wanted and this part read before them, reading stops so.
abbrev pub IsStoppedAll : List Want → ℕ → Phrase → List Token → Stop → Type 0
IsStoppedAll wants depth front tokens why = (s : List Want) (vs : List Phrase) → Stops why (watch depth (wants ++ s) (front ∷ vs) tokens)

-- the tokens are a sign and a rest
abbrev pub BeginsWith : Sign → ℕ → List Token → List Token → Type 0
BeginsWith s place tokens rest = tokens ≡ record { kind = kind.Sign s; place = place } ∷ rest

abbrev pub opens_sign : Sign → Bool
opens_sign s = same_sign sign.OpenBrace s || same_sign sign.OpenParenthesis s

abbrev pub sign_level : Sign → ℕ → ℕ
sign_level s depth = if same_sign sign.CloseBrace s || same_sign sign.CloseParenthesis s then pred depth else depth

abbrev pub IsEntered : ℕ → ℕ → Type 0
IsEntered depth deeper = (nat_le 64 depth ≡ false) × (deeper ≡ suc depth)

abbrev pub IsTooDeep : ℕ → ℕ → Stop → Type 0
IsTooDeep depth left why = (nat_le 64 depth ≡ true) × (why ≡ stop.TooDeep left)

-- With this wanted and this part read before it, the phrase is read, and the rest is left.
pub record IsReadOn (want : Want) (depth : ℕ) (front : Phrase) (tokens : List Token) (phrase : Phrase) (rest : List Token) : Type 0 where
  pub shorter : length rest ≤ length tokens
  pub watched : (s : List Want) (vs : List Phrase) → watch depth (want ∷ s) (front ∷ vs) tokens ≡ watch depth s (phrase ∷ vs) rest

-- The tokens carry on a sum with a further term, or end it.
abbrev pub Adds : List Token → Addition → List Token → Type 0
Adds tokens a rest = (depth : ℕ) (s : List Want) (vs : List Phrase) →
    watch depth (Go MoreSum ∷ s) vs tokens ≡ watch depth (Read Term ∷ Join (sum_label a) ∷ Go MoreSum ∷ s) vs rest

abbrev pub ComparesWith : List Token → Comparison → List Token → Type 0
ComparesWith tokens how rest = (depth : ℕ) (s : List Want) (vs : List Phrase) →
    watch depth (Go Compares ∷ s) vs tokens ≡ watch depth (Read Sum ∷ Join (Compared how) ∷ s) vs rest

-- The rest of a part ends before these tokens.
abbrev pub Ends : Tail → List Token → Type 0
Ends tail tokens = (depth : ℕ) (s : List Want) (vs : List Phrase) → watch depth (Go tail ∷ s) vs tokens ≡ watch depth s vs tokens

-- No weight stands first, so an argument is an expression.
abbrev pub HasNoWeight : Bool → List Token → Type 0
HasNoWeight weight tokens = (depth : ℕ) (s : List Want) (vs : List Phrase) → watch depth (Read (Argument weight) ∷ s) vs tokens ≡ watch depth (Read Any ∷ s) vs tokens

abbrev pub first_starts_term : List Token → Bool
first_starts_term [] = false
first_starts_term (x ∷ xs) = starts_term x.kind

-- A part of a list stands first.
abbrev pub CarriesOn : Tail → ℕ → List Token → Phrase → List Token → Type 0
CarriesOn tail depth tokens phrase rest = (length rest < length tokens) × ((s : List Want) (vs : List Phrase) →
    watch depth (Go tail ∷ s) vs tokens ≡ watch depth (Join More ∷ Go tail ∷ s) (phrase ∷ vs) rest)

abbrev pub set_label : Bool → Label
set_label true = Append
set_label false = Set

abbrev pub Assigns : List Token → Bool → List Token → Type 0
Assigns tokens appends rest = (length rest < length tokens) × ((depth : ℕ) (s : List Want) (vs : List Phrase) →
    watch depth (Read Assignment ∷ s) vs tokens ≡ watch depth (Read Any ∷ Take sign.Semicolon ∷ Join Bound ∷ Join (set_label appends) ∷ s) vs rest)

abbrev pub else_wants : ElseWord → List Want
else_wants otherwise.ElseIf = Read Condition ∷ Join ElseIf ∷ Go MoreElse ∷ []
else_wants otherwise.Else = Read Block ∷ Join Else ∷ []
else_wants otherwise.Nothing = []

-- At any depth, a part of a list stands first.
abbrev pub CarriesAny : Tail → List Token → Phrase → List Token → Type 0
CarriesAny tail tokens phrase rest = (length rest < length tokens) × ((depth : ℕ) (s : List Want) (vs : List Phrase) →
    watch depth (Go tail ∷ s) vs tokens ≡ watch depth (Join More ∷ Go tail ∷ s) (phrase ∷ vs) rest)

abbrev pub is_string : TokenKind → Bool
is_string (kind.String t) = true
is_string _ = false

abbrev pub first_is_string : List Token → Bool
first_is_string [] = false
first_is_string (x ∷ xs) = is_string x.kind

-- an entry's address and mask
abbrev pub address_of : AclEntry → Phrase
address_of e = masked (String e.address_place e.address) e.mask

-- the place of the first token
abbrev pub first_at : List Token → ℕ
first_at [] = 0
first_at (x ∷ xs) = x.place

-- At any depth, with these wanted and this part read before them, the phrase is read.
abbrev pub ReadsAll : List Want → Phrase → List Token → Phrase → List Token → Type 0
ReadsAll wants front tokens phrase rest = (length rest < length tokens) × ((depth : ℕ) (s : List Want) (vs : List Phrase) → watch depth (wants ++ s) (front ∷ vs) tokens ≡ watch depth s (phrase ∷ vs) rest)
