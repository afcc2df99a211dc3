-- A response as its bytes, and where a client reads the end of its body (RFC 9112, section 6.3).
use Rattle.std.specs.Prelude.{ℕ, ◌||◌, List, ◌++◌, length, if◌then◌else◌}
use Rattle.http_heads.specs.declared.message.RequestHead.{RequestHead}
use Rattle.http_heads.specs.Printed.{response_text}
use Rattle.http_bodies.specs.declared.framing.Framing.{Framing}
use Rattle.http_bodies.specs.declared.framing.Framing.TheVariants.{Nothing, Length}
use Rattle.http_bodies.specs.Framings.{Frames, reply_kind}
use Rattle.http_bodies.specs.Bodies.{IsBody}
use Rattle.delivery.specs.declared.finishing.Delivery.{Delivery}
use Rattle.delivery.specs.Finished.{is_head, is_bodiless}

abbrev pub delivery_text : Delivery → List ℕ
delivery_text sent = response_text sent.head ++ sent.body

-- where the body ends: at once, or behind its length
abbrev pub framing_of : RequestHead → Delivery → Framing
framing_of asked sent = if is_head asked || is_bodiless sent.head.status then Nothing else Length (length sent.body)

-- to the client that asked so the head says that the body ends so, and the whole body that was sent is one that does
pub record IsFramedAsSent (asked : RequestHead) (sent : Delivery) : Type 0 where
  pub frames : Frames (reply_kind sent.head.status (is_head asked)) sent.head.fields (framing_of asked sent)
  pub body : IsBody (framing_of asked sent) sent.body sent.body
