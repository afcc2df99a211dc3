-- The requests in the bytes of a connection, one behind another (RFC 9112, sections 2.2, 3.2 and 6.3).
use Rattle.std.specs.Prelude.{◌≡◌, ℕ, ◌≤◌, true, List, [], ◌∷◌, ◌++◌, length, drop}
use Rattle.http_bodies.specs.Bodies.{BeginsWith}
use Rattle.http_bodies.specs.Framings.{Frames}
use Rattle.http_bodies.specs.declared.framing.Framing.{Framing}
use Rattle.http_bodies.specs.declared.framing.Kind.TheVariants as kinds
use Rattle.http_heads.specs.Heads.{HasRequest}
use Rattle.http_heads.specs.declared.message.RequestHead.{RequestHead}
use Rattle.seen_request.specs.Sites.{is_of_one_site}

-- a request: its head and its body
abbrev pub Request : Type 0
Request = RequestHead × List ℕ

-- the most bytes of a request's body
abbrev pub body_limit : ℕ
body_limit = 1048576

-- the input begins with this request, which says one site at most, and `rest` stands behind it
pub record BeginsRequest (input : List ℕ) (request : Request) (rest : List ℕ) : Type 0 where
  pub count : ℕ
  pub has : HasRequest input request.0 count
  pub one_site : is_of_one_site request.0 ≡ true
  pub framing : Framing
  pub frames : Frames kinds.Request request.0.fields framing
  pub begins : BeginsWith framing (drop count input) request.1 rest
  pub within : length request.1 ≤ body_limit

-- no request begins the input
abbrev pub LacksRequest : List ℕ → Type 0
LacksRequest input = (request : Request) (rest : List ℕ) → ¬ (BeginsRequest input request rest)

-- no request begins the input, whatever follows it
abbrev pub NeverBegins : List ℕ → Type 0
NeverBegins input = (more : List ℕ) → LacksRequest (input ++ more)

-- the input begins with these requests, one behind another, and `rest` stands behind them
abbrev pub BeginsRequests : List ℕ → List Request → List ℕ → Type 0
BeginsRequests input [] rest = rest ≡ input
BeginsRequests input (request ∷ others) rest = (next : List ℕ) × BeginsRequest input request next × BeginsRequests next others rest
