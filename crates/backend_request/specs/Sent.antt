-- What may be sent, and where a backend reads the end of a request's body (RFC 9112, section 6.3).
use Rattle.std.specs.Prelude.{ℕ, ◌<◌, List, [], ◌∷◌, length, All}
use Rattle.httparse.specs.Grammar.{AllPass, is_value_byte}
use Rattle.http_heads.specs.Printed.{IsPlainField}
use Rattle.http_heads.specs.declared.exchange.BackendRequest.{BackendRequest}
use Rattle.http_bodies.specs.declared.framing.Framing.{Framing}
use Rattle.http_bodies.specs.declared.framing.Framing.TheVariants.{Nothing, Length}
use Rattle.http_bodies.specs.declared.framing.Kind.TheVariants.{Request}
use Rattle.http_bodies.specs.Framings.{Frames}
use Rattle.http_bodies.specs.Bodies.{IsBody}
use Rattle.cache_law.specs.declared.object.Content.{Content}

-- at once, or behind its length
abbrev pub framing_of : List ℕ → Framing
framing_of [] = Nothing
framing_of (byte ∷ more) = Length (length (byte ∷ more))

-- the head says that the body ends so, and the whole body that is sent is one that does
pub record IsFramedAsSent (request : BackendRequest) : Type 0 where
  pub frames : Frames Request request.head.fields (framing_of request.body)
  pub body : IsBody (framing_of request.body) request.body request.body

-- what of an object is sent on is of its class, as in a response that was read
pub record IsOfClass (content : Content) : Type 0 where
  pub status : content.status < 1000
  pub reason : AllPass is_value_byte content.reason
  pub fields : All IsPlainField content.fields
