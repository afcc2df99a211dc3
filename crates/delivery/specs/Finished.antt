-- What is sent of what VCL left (RFC 9110, sections 8.6, 13.1 and 15.4.5; RFC 9112, sections 6 and 9.6).
use Rattle.std.specs.Prelude.{ℕ, Bool, ◌&&◌, ◌||◌, ◌==◌, List, [], length, codes, if◌then◌else◌}
use Rattle.std.specs.Str.{bytes_eq}
use Rattle.http_heads.specs.declared.fields.Field.{Field}
use Rattle.http_heads.specs.declared.message.RequestHead.{RequestHead}
use Rattle.http_heads.specs.declared.message.ResponseHead.{ResponseHead}
use Rattle.http_heads.specs.Fields.{replaced}
use Rattle.freshness.specs.Validators.{is_unchanged}
use Rattle.http_bodies.specs.Framed.{unframed, of_length}
use Rattle.http_heads.specs.Lists.{is_listed}
use Rattle.delivery.specs.declared.finishing.Delivery.{Delivery}
use Rattle.delivery.specs.declared.finishing.ResponseBody.{ResponseBody}

abbrev pub is_head : RequestHead → Bool
is_head asked = bytes_eq asked.method (codes "HEAD")

abbrev pub is_get_or_head : RequestHead → Bool
is_get_or_head asked = bytes_eq asked.method (codes "GET") || is_head asked

-- the client has the response already, by the conditions of its request
abbrev pub is_confirmed : RequestHead → List Field → ResponseHead → Bool
is_confirmed asked conditions head = is_get_or_head asked && (head.status == 200 && is_unchanged conditions head.fields)

-- a response that the client has already tells just that
abbrev pub settled : RequestHead → List Field → ResponseHead → ResponseHead
settled asked conditions head =
    if is_confirmed asked conditions head then record head { status = 304; reason = codes "Not Modified" } else head

-- responses of these statuses have no body, and say no length
abbrev pub is_bodiless : ℕ → Bool
is_bodiless status = status == 204 || status == 304

-- HEAD was passed, and no body came: the length that the response to GET has isn't known (RFC 9110, section 8.6)
abbrev pub is_length_unknown : RequestHead → ResponseBody → Bool
is_length_unknown asked body = is_head asked && (body.passed && length body.text == 0)

-- no length is said where it isn't known, and where the status has none
abbrev pub says_no_length : RequestHead → ℕ → ResponseBody → Bool
says_no_length asked status body = is_bodiless status || is_length_unknown asked body

-- with the length of the body, where it is said
abbrev pub framed : RequestHead → ℕ → ResponseBody → List Field → List Field
framed asked status body fields = if says_no_length asked status body then unframed fields else of_length (length body.text) fields

-- the request asks that the connection is closed behind the response
abbrev pub asks_to_close : RequestHead → Bool
asks_to_close asked = asked.version == 10 || is_listed (codes "connection") (codes "close") asked.fields

-- and the response says so then
abbrev pub ended : RequestHead → List Field → List Field
ended asked fields = if asks_to_close asked then replaced (codes "Connection") (codes "close") fields else fields

-- the response to HEAD has no body, and neither has one of these statuses
abbrev pub sent_body : RequestHead → ℕ → List ℕ → List ℕ
sent_body asked status body = if is_head asked || is_bodiless status then [] else body

-- of a settled response with this body
abbrev pub sent_head : RequestHead → ResponseBody → ResponseHead → ResponseHead
sent_head asked body head =
    record { version = 11; status = head.status; reason = head.reason; fields = ended asked (framed asked head.status body head.fields) }

-- what is sent to the request that came, by its conditions as VCL left them
abbrev pub finished : RequestHead → List Field → ResponseHead → ResponseBody → Delivery
finished asked conditions head body = record {
  head = sent_head asked body (settled asked conditions head);
  body = sent_body asked (settled asked conditions head).status body.text;
}
