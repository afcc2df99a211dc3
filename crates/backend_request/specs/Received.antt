-- What a backend's reply is received as (RFC 9111, sections 3.2 and 4.3.3; RFC 9110, section 15.4.5).
use Rattle.std.specs.Prelude.{ℕ, Bool, true, false, ◌||◌, ◌==◌, nat_lt, List, length, Option, Some, None, is_some, codes, if◌then◌else◌}
use Rattle.http_heads.specs.declared.fields.Field.{Field}
use Rattle.http_heads.specs.declared.message.RequestHead.{RequestHead}
use Rattle.http_heads.specs.declared.message.ResponseHead.{ResponseHead}
use Rattle.http_heads.specs.Fields.{first_value}
use Rattle.freshness.specs.Merging.{merged}
use Rattle.http_heads.specs.Limits.{set_limit}
use Rattle.cache_law.specs.declared.object.Content.{Content}
use Rattle.backend_request.specs.declared.purpose.Purpose.{Purpose}
use Rattle.backend_request.specs.declared.purpose.Purpose.TheVariants.{Store, Pass}
use Rattle.backend_request.specs.declared.receiving.Received.{Received}
use Rattle.backend_request.specs.Passed.{passed_reply}

-- the request asks whether an object is unchanged
abbrev pub has_condition : List Field → Bool
has_condition fields = is_some (first_value (codes "if-none-match") fields) || is_some (first_value (codes "if-modified-since") fields)

-- a reply with its own body
abbrev pub plain : ResponseHead → List ℕ → Received
plain head body = record { head = record head { fields = passed_reply head.fields }; body = body; was_304 = false }

-- the stale object with the fields that the reply has anew, unless they are too many
abbrev pub confirmed : Content → ResponseHead → Option Received
confirmed old head =
    if nat_lt set_limit (length (merged old.fields (passed_reply head.fields))) then None else Some (record {
      head = record { version = head.version; status = old.status; reason = old.reason; fields = merged old.fields (passed_reply head.fields) };
      body = old.body;
      was_304 = true;
    })

-- a 304 that confirms nothing is a fault, but where the client's own request was passed on
abbrev pub unasked : Purpose → ResponseHead → List ℕ → Option Received
unasked Store head body = None
unasked Pass head body = Some (plain head body)

abbrev pub received_304 : List Field → Purpose → Option Content → ResponseHead → List ℕ → Option Received
received_304 asked purpose None head body = unasked purpose head body
received_304 asked purpose (Some old) head body = if has_condition asked then confirmed old head else unasked purpose head body

-- the reply to the request that was sent, in a fetch with or without a stale object; None is a fault
abbrev pub received : RequestHead → Purpose → Option Content → ResponseHead → List ℕ → Option Received
received asked purpose stale head body =
    if head.status == 304 then received_304 asked.fields purpose stale head body else Some (plain head body)
