-- What VCL sees of a request that came (RFC 9110, section 7.6.1; RFC 9112, section 3.2.2).
use Rattle.std.specs.Prelude.{ℕ, Bool, not, ◌||◌, List, filter, codes, Option, Some, None}
use Rattle.http_heads.specs.declared.fields.Field.{Field}
use Rattle.http_heads.specs.declared.message.RequestHead.{RequestHead}
use Rattle.http_heads.specs.Fields.{is_named, replaced}
use Rattle.http_heads.specs.Lists.{is_listed}
use Rattle.seen_request.specs.Targets.{behind_scheme, authority_in, path_in}

-- the field is Connection, or one that Connection names
abbrev pub is_of_connection : List Field → Field → Bool
is_of_connection fields f = is_named (codes "connection") f || is_listed (codes "connection") f.name fields

-- such a field isn't seen; Host is in any case
abbrev pub is_seen : List Field → Field → Bool
is_seen fields f = is_named (codes "host") f || not (is_of_connection fields f)

abbrev pub seen_fields : List Field → List Field
seen_fields fields = filter (is_seen fields) fields

-- the authority of an absolute target is the one Host, and stands last; its path with its query is the URL
abbrev pub at_site : Option (List ℕ) → RequestHead → RequestHead
at_site None head = head
at_site (Some rest) head = record head { url = path_in rest; fields = replaced (codes "Host") (authority_in rest) head.fields }

-- what VCL sees of a request
abbrev pub seen : RequestHead → RequestHead
seen head = at_site (behind_scheme head.url) (record head { fields = seen_fields head.fields })
