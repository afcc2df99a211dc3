-- The message at the front of a text: a head, and behind it the body that its fields frame (RFC 9112, sections 2 and 6).
use Rattle.std.specs.Prelude.{◌≡◌, ℕ, ◌≤◌, List, length, drop}
use Rattle.http_heads.specs.declared.fields.Field.{Field}
use Rattle.http_heads.specs.declared.message.RequestHead.{RequestHead}
use Rattle.http_heads.specs.Heads.{HasRequest}
use Rattle.http_bodies.specs.declared.framing.Kind.{Kind}
use Rattle.http_bodies.specs.declared.framing.Kind.TheVariants as kinds
use Rattle.http_bodies.specs.declared.framing.Framing.{Framing}
use Rattle.http_bodies.specs.Framings.{Frames}
use Rattle.http_bodies.specs.Bodies.{BeginsWith}

-- the text has the body that the fields frame, within this limit
pub record HasFramedBody (kind : Kind) (limit : ℕ) (fields : List Field) (text body : List ℕ) : Type 0 where
  pub framing : Framing
  pub frames : Frames kind fields framing
  pub rest : List ℕ
  pub reads : BeginsWith framing text body rest
  pub short : length body ≤ limit

-- the text begins with a whole request with this head and body, of at most 1,048,576 bytes
pub record HasWholeRequest (text : List ℕ) (head : RequestHead) (body : List ℕ) : Type 0 where
  pub count : ℕ
  pub head_is : HasRequest text head count
  pub body_is : HasFramedBody kinds.Request 1048576 head.fields (drop count text) body

-- no whole message stands there
abbrev pub LacksWholeRequest : List ℕ → Type 0
LacksWholeRequest text = (head : RequestHead) (body : List ℕ) → ¬ (HasWholeRequest text head body)

-- this head stands there, and no other
abbrev pub IsTheRequest : List ℕ → RequestHead → ℕ → Type 0
IsTheRequest text head count =
    HasRequest text head count × ((other : RequestHead) (taken : ℕ) → HasRequest text other taken → (other ≡ head) × (taken ≡ count))

-- this whole message stands there, and none with another head
abbrev pub IsTheWholeRequest : List ℕ → RequestHead → List ℕ → Type 0
IsTheWholeRequest text head body =
    HasWholeRequest text head body × ((other : RequestHead) (more : List ℕ) → HasWholeRequest text other more → other ≡ head)
