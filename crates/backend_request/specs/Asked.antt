-- What is asked of a backend (RFC 9110, sections 8.6 and 13.1; RFC 9111, section 4.3.1).
use Rattle.std.specs.Prelude.{ℕ, ◌==◌, List, [], length, Option, Some, None, codes, if◌then◌else◌}
use Rattle.std.specs.Fmt.{decimal}
use Rattle.http_heads.specs.declared.exchange.BackendRequest.{BackendRequest}
use Rattle.http_heads.specs.declared.fields.Field.{Field}
use Rattle.http_heads.specs.declared.message.RequestHead.{RequestHead}
use Rattle.http_heads.specs.Fields.{first_value, appended, without}
use Rattle.http_bodies.specs.Framed.{unframed, of_length}
use Rattle.backend_request.specs.declared.purpose.Purpose.{Purpose}
use Rattle.backend_request.specs.declared.purpose.Purpose.TheVariants.{Store, Pass}
use Rattle.backend_request.specs.Passed.{passed_request}

-- what may be stored is asked for by GET
abbrev pub method_for : Purpose → List ℕ → List ℕ
method_for Store method = codes "GET"
method_for Pass method = method

-- a condition, where the stale object has what it compares
abbrev pub with_condition : List ℕ → Option (List ℕ) → List Field → List Field
with_condition name None fields = fields
with_condition name (Some value) fields = appended name value fields

-- the conditions by which a backend confirms an object with these fields
abbrev pub with_conditions : Option (List Field) → List Field → List Field
with_conditions None fields = fields
with_conditions (Some stale) fields =
    with_condition (codes "If-Modified-Since") (first_value (codes "last-modified") stale)
    (with_condition (codes "If-None-Match") (first_value (codes "etag") stale) fields)

-- the request as vcl_backend_fetch gets it, by the client's as VCL left it, under the fetch's number
abbrev pub opened_request : Purpose → ℕ → Option (List Field) → RequestHead → RequestHead
opened_request purpose number stale asked = record {
  method = method_for purpose asked.method;
  url = asked.url;
  version = 11;
  fields = with_conditions stale (appended (codes "X-Varnish") (decimal number) (passed_request purpose asked.fields));
}

-- the client's body goes on with its request alone
abbrev pub body_for : Purpose → List ℕ → List ℕ
body_for Store body = []
body_for Pass body = body

-- with the length of a body, if there is one
abbrev pub framed : ℕ → List Field → List Field
framed len fields = if len == 0 then unframed fields else of_length len fields

-- the request as it is sent, by what vcl_backend_fetch left
abbrev pub finished_request : Purpose → List ℕ → RequestHead → BackendRequest
finished_request purpose body head = record {
  head = record { method = head.method; url = head.url; version = 11; fields = framed (length (body_for purpose body)) head.fields };
  body = body_for purpose body;
}

-- without the conditions, whoever set them
abbrev pub unconditional : RequestHead → RequestHead
unconditional head = record head { fields = without (codes "if-modified-since") (without (codes "if-none-match") head.fields) }
