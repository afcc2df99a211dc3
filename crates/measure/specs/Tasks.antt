-- What the words ask for, and the number that it is.
use Rattle.std.specs.Prelude.{◌≡◌, ℕ, ◌<◌, ◌≤◌, List, [], ◌∷◌, codes, length}
use Rattle.units.specs.Numbers.{IsNumber}
use Rattle.vcl_tree.specs.declared.token.Token.{Token}
use Rattle.vcl_tokens.specs.Reading.{Reads, text_limit}
use Rattle.http_bodies.specs.declared.framing.Framing.{Framing}
use Rattle.http_bodies.specs.declared.framing.Framing.TheVariants as framing
use Rattle.http_bodies.specs.Bodies.{BeginsWith}
use Rattle.measure.specs.declared.task.Shape.{Shape}
use Rattle.measure.specs.declared.task.Shape.TheVariants.{Chunked, Sized}
use Rattle.measure.specs.declared.task.Task.{Task}
use Rattle.measure.specs.declared.task.Task.TheVariants.{Bodies, Tokens}

abbrev pub shape_name : Shape → List ℕ
shape_name Chunked = codes "chunked"
shape_name Sized = codes "sized"

-- the words name this task
abbrev pub Says : List (List ℕ) → Task → Type 0
Says words (Bodies shape piece) = (digits : List ℕ) × (words ≡ codes "bodies" ∷ shape_name shape ∷ digits ∷ []) × IsNumber digits piece × (0 < piece)
Says words Tokens = words ≡ codes "tokens" ∷ []

-- a body of this shape in an input of so many bytes
abbrev pub framing_of : Shape → ℕ → Framing
framing_of Chunked size = framing.Chunked
framing_of Sized size = framing.Length size

-- the most bytes of a body: 8 MiB
abbrev pub body_limit : ℕ
body_limit = 8388608

-- the bytes begin with a body of this framing, which has n bytes
pub record HasBody (framing : Framing) (bytes : List ℕ) (n : ℕ) : Type 0 where
  pub body : List ℕ
  pub rest : List ℕ
  pub reads : BeginsWith framing bytes body rest
  pub short : length body ≤ body_limit
  pub is : n ≡ length body

-- the bytes are a VCL text of n tokens
pub record HasTokens (bytes : List ℕ) (n : ℕ) : Type 0 where
  pub tokens : List Token
  pub reads : Reads 0 bytes tokens
  pub short : length bytes ≤ text_limit
  pub is : n ≡ length tokens

-- the number that the task asks for
abbrev pub IsCount : Task → List ℕ → ℕ → Type 0
IsCount (Bodies shape piece) bytes n = HasBody (framing_of shape (length bytes)) bytes n
IsCount Tokens bytes n = HasTokens bytes n
