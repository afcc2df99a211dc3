-- What a VCL text's tree is, and why a text has none.
use Rattle.std.specs.Prelude.{ℕ, ◌≡◌, ◌≤◌, ◌<◌, ◌⊎◌, Bool, true, false, List, [], ◌∷◌, ◌++◌, length, Option, Some, None, if◌then◌else◌}
use Rattle.vcl_tree.specs.Grammar.{version_written, IsFile}
use Rattle.vcl_tree.specs.Nesting.{deepest}
use Rattle.vcl_tree.specs.Phrase.{Phrase}
use Rattle.vcl_tree.specs.TreeView.{items_of}
use Rattle.vcl_tree.specs.declared.token.Token.{Token}
use Rattle.vcl_tree.specs.declared.token.TokenKind.{TokenKind}
use Rattle.vcl_tree.specs.declared.token.TokenKind.TheVariants as kind
use Rattle.vcl_tree.specs.declared.token.Word.{Word}
use Rattle.vcl_tree.specs.declared.token.Word.TheVariants as word
use Rattle.vcl_tree.specs.declared.item.Version.{Version}
use Rattle.vcl_tree.specs.declared.item.Tree.{Tree}
use Rattle.vcl_tree.specs.declared.error.VclError.{VclError}
use Rattle.vcl_tree.specs.declared.error.VclError.TheVariants as error
use Rattle.vcl_tree.specs.declared.error.Refusal.{Refusal}
use Rattle.vcl_tree.specs.declared.error.Refusal.TheVariants as refusal
use Rattle.vcl_tokens.specs.Reading.{Reads, IsRefusal, text_limit}

abbrev pub is_vcl_word : Word → Bool
is_vcl_word word.Vcl = true
is_vcl_word _ = false

abbrev pub is_vcl : TokenKind → Bool
is_vcl (kind.Word w t) = is_vcl_word w
is_vcl _ = false

abbrev pub version_of : TokenKind → Option Version
version_of (kind.Decimal digits) = version_written digits
version_of _ = None

-- the version and the tokens behind it, or the place at which it is missing
pub data Head : Type 0 where
  Good : Version → List Token → Head
  Bad : ℕ → Head

abbrev pub with_version : Option Version → ℕ → List Token → Head
with_version None place rest = Bad place
with_version (Some version) place rest = Good version rest

abbrev pub behind_vcl : ℕ → List Token → Head
behind_vcl end [] = Bad end
behind_vcl end (x ∷ rest) = with_version (version_of x.kind) x.place rest

-- the head of tokens whose text has its end at this place
abbrev pub head_of : ℕ → List Token → Head
head_of end [] = Bad 0
head_of end (x ∷ rest) = if is_vcl x.kind then behind_vcl end rest else Bad 0

abbrev pub first_place : ℕ → List Token → ℕ
first_place end [] = end
first_place end (x ∷ xs) = x.place

-- blocks, parentheses and braces nest at most so deep
abbrev pub nesting_limit : ℕ
nesting_limit = 64

-- By the grammar the tokens are a text of this tree, and they nest within the limit.
abbrev pub IsTree : List Token → Tree → Type 0
IsTree tokens tree = IsFile tree.version (items_of tree.items) tokens × (deepest 0 tokens ≤ nesting_limit)

-- Some text of the grammar, however deep it nests, begins with these tokens.
abbrev pub Continues : List Token → Type 0
Continues front = (version : Version) × (items : Phrase) × (rest : List Token) × IsFile version items (front ++ rest)

-- No token is left and the front is no text of the grammar; or none begins with the front and the first token left.
abbrev pub EndsHere : List Token → List Token → Type 0
EndsHere front [] = (version : Version) (items : Phrase) → IsFile version items front → ⊥
EndsHere front (x ∷ behind) = Continues (front ++ x ∷ []) → ⊥

-- The tokens before this place go on to a text of the grammar, and with the token there they don't.
pub record IsSyntaxFault (end : ℕ) (tokens : List Token) (place : ℕ) : Type 0 where
  pub front : List Token
  pub behind : List Token
  pub parts : tokens ≡ front ++ behind
  pub continued : Continues front
  pub ended : EndsHere front behind
  pub within : deepest 0 front ≤ nesting_limit
  pub placed : place ≡ first_place end behind

-- The tokens up to and with the one at this place go on to a text of the grammar, and there they first nest too deep.
pub record IsNestingFault (tokens : List Token) (place : ℕ) : Type 0 where
  pub front : List Token
  pub token : Token
  pub behind : List Token
  pub parts : tokens ≡ front ++ token ∷ behind
  pub continued : Continues (front ++ token ∷ [])
  pub within : deepest 0 front ≤ nesting_limit
  pub deeper : nesting_limit < deepest 0 (front ++ token ∷ [])
  pub placed : place ≡ token.place

abbrev pub HasVersion : ℕ → List Token → Type 0
HasVersion end tokens = (version : Version) × (rest : List Token) × (head_of end tokens ≡ Good version rest)

-- Why the tokens have no tree: for want of a version, or by the first token that can't stand or nests too deep.
abbrev pub IsWrong : ℕ → List Token → Refusal → ℕ → Type 0
IsWrong end tokens refusal.Version place = head_of end tokens ≡ Bad place
IsWrong end tokens refusal.Syntax place = HasVersion end tokens × IsSyntaxFault end tokens place
IsWrong end tokens refusal.TooDeep place = HasVersion end tokens × IsNestingFault tokens place
IsWrong end tokens _ place = ⊥

-- Why a text has no tree: it has no tokens, or it is within its limit and they have a fault.
abbrev pub IsFault : List ℕ → VclError → Type 0
IsFault text error.NoMemory = Unit {0}
IsFault text (error.Refused why place) =
    IsRefusal text (error.Refused why place)
    ⊎ ((tokens : List Token) × Reads 0 text tokens × IsWrong (length text) tokens why place × (length text ≤ text_limit))
