-- When a stream to a backend may serve another exchange (RFC 9112, sections 9.3 and 9.6).
use Rattle.std.specs.Prelude.{◌≡◌, ◌≢◌, ℕ, Bool, false, List, [], codes}
use Rattle.http_bodies.specs.Framings.{Frames, reply_kind}
use Rattle.http_bodies.specs.declared.framing.Framing.{Framing}
use Rattle.http_bodies.specs.declared.framing.Framing.TheVariants.{UntilEnd}
use Rattle.http_heads.specs.Lists.{is_listed}
use Rattle.http_heads.specs.declared.exchange.BackendRequest.{BackendRequest}
use Rattle.http_heads.specs.declared.fields.Field.{Field}
use Rattle.http_heads.specs.declared.message.ResponseHead.{ResponseHead}
use Rattle.backend_link.specs.Exchanges.{asks_head}

-- a message with these fields ends its connection
abbrev pub says_close : List Field → Bool
says_close fields = is_listed (codes "Connection") (codes "close") fields

-- the body of the reply ends by what its fields say, and not with the connection
abbrev pub EndsByFraming : Bool → ResponseHead → Type 0
EndsByFraming to_head head = (framing : Framing) × Frames (reply_kind head.status to_head) head.fields framing × (framing ≢ UntilEnd)

-- Neither the request nor the reply ends the connection, the reply ends by its framing, and nothing stands behind it.
pub record LeavesStream (request : BackendRequest) (head : ResponseHead) (held : List ℕ) : Type 0 where
  pub asked : says_close request.head.fields ≡ false
  pub replied : says_close head.fields ≡ false
  pub version : head.version ≡ 11
  pub ends : EndsByFraming (asks_head request) head
  pub nothing : held ≡ []
