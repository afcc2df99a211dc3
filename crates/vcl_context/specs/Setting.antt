-- What a context becomes where a variable is set, and where the subroutine ends as `fail` instead (docs/VCL.md, "Variables").
-- A text is taken of whatever value a STRING is set to. A variable that is never set, and a value of another type, have no
-- meaning here: the checker lets neither through.
use Rattle.std.specs.Prelude.{ℤ, pos, ◌||◌, nat_lt, length, unsigned_abs, Option, Some, None, option_map, unwrap_or, if◌then◌else◌}
use Rattle.std.specs.Int.Signed.{lt_z}
use Rattle.vcl_values.specs.declared.value.Value.{Value}
use Rattle.vcl_values.specs.declared.value.Value.TheVariants as value
use Rattle.vcl_values.specs.Operators.{text_limit}
use Rattle.vcl_values.specs.Values.{text_of}
use Rattle.http_heads.specs.declared.message.RequestHead.{RequestHead}
use Rattle.http_heads.specs.declared.message.ResponseHead.{ResponseHead}
use Rattle.vcl_context.specs.declared.context.Context.{Context}
use Rattle.vcl_context.specs.declared.context.ClientRequest.{ClientRequest}
use Rattle.vcl_context.specs.declared.context.FetchRequest.{FetchRequest}
use Rattle.vcl_context.specs.declared.context.FetchResponse.{FetchResponse}
use Rattle.vcl_context.specs.declared.variable.Variable.{Variable}
use Rattle.vcl_context.specs.declared.variable.Variable.TheVariants as variable
use Rattle.vcl_context.specs.declared.variable.RequestVariable.{RequestVariable}
use Rattle.vcl_context.specs.declared.variable.RequestVariable.TheVariants as request
use Rattle.vcl_context.specs.declared.variable.FetchRequestVariable.{FetchRequestVariable}
use Rattle.vcl_context.specs.declared.variable.FetchRequestVariable.TheVariants as fetch
use Rattle.vcl_context.specs.declared.variable.FetchResponseVariable.{FetchResponseVariable}
use Rattle.vcl_context.specs.declared.variable.FetchResponseVariable.TheVariants as fetched
use Rattle.vcl_context.specs.declared.variable.ResponseVariable.{ResponseVariable}
use Rattle.vcl_context.specs.declared.variable.ResponseVariable.TheVariants as response
use Rattle.vcl_context.specs.Carried.{is_token, is_target, is_reason, is_status}
use Rattle.vcl_context.specs.Reasons.{reason_of}

-- the parts of heads, where the line carries them
abbrev pub method_set : Value → RequestHead → Option RequestHead
method_set v head = if is_token (text_of v) then Some (record head { method = text_of v }) else None

abbrev pub url_set : Value → RequestHead → Option RequestHead
url_set v head = if is_target (text_of v) then Some (record head { url = text_of v }) else None

abbrev pub reason_set : Value → ResponseHead → Option ResponseHead
reason_set v head = if is_reason (text_of v) then Some (record head { reason = text_of v }) else None

-- a status of the table sets its reason too, and another keeps the one that is there
abbrev pub with_status : ℤ → ResponseHead → ResponseHead
with_status number head = record head { status = unsigned_abs number; reason = unwrap_or (reason_of number) head.reason }

abbrev pub status_of_number : ℤ → ResponseHead → Option ResponseHead
status_of_number number head = if is_status number then Some (with_status number head) else None

abbrev pub status_set : Value → ResponseHead → Option ResponseHead
status_set (value.Int number) head = status_of_number number head
status_set v head = None

-- a negative time of a request unsets it, and one of a response becomes none
abbrev pub time_if_set : ℤ → Option ℤ
time_if_set time = if lt_z time (pos 0) then None else Some time

abbrev pub time_from_none : ℤ → ℤ
time_from_none time = if lt_z time (pos 0) then pos 0 else time

abbrev pub with_head : ClientRequest → RequestHead → ClientRequest
with_head r head = record r { head = head }

abbrev pub request_set : RequestVariable → Value → ClientRequest → Option ClientRequest
request_set request.Method v r = option_map (with_head r) (method_set v r.head)
request_set request.Url v r = option_map (with_head r) (url_set v r.head)
request_set request.Ttl (value.Duration time) r = Some (record r { ttl = time_if_set time })
request_set request.Grace (value.Duration time) r = Some (record r { grace = time_if_set time })
request_set request.BackendHint (value.Backend backend) r = Some (record r { backend_hint = backend })
request_set request.HashAlwaysMiss (value.Bool truth) r = Some (record r { hash_always_miss = truth })
request_set request.HashIgnoreBusy (value.Bool truth) r = Some (record r { hash_ignore_busy = truth })
request_set request.HashIgnoreVary (value.Bool truth) r = Some (record r { hash_ignore_vary = truth })
request_set _ v r = None

abbrev pub with_fetch_head : FetchRequest → RequestHead → FetchRequest
with_fetch_head r head = record r { head = head }

abbrev pub fetch_request_set : FetchRequestVariable → Value → FetchRequest → Option FetchRequest
fetch_request_set fetch.Method v r = option_map (with_fetch_head r) (method_set v r.head)
fetch_request_set fetch.Url v r = option_map (with_fetch_head r) (url_set v r.head)
fetch_request_set fetch.Backend (value.Backend backend) r = Some (record r { backend = backend })
fetch_request_set _ v r = None

abbrev pub with_fetched_head : FetchResponse → ResponseHead → FetchResponse
with_fetched_head r head = record r { head = head }

-- what is uncacheable stays so
abbrev pub fetch_response_set : FetchResponseVariable → Value → FetchResponse → Option FetchResponse
fetch_response_set fetched.Status v r = option_map (with_fetched_head r) (status_set v r.head)
fetch_response_set fetched.Reason v r = option_map (with_fetched_head r) (reason_set v r.head)
fetch_response_set fetched.Ttl (value.Duration time) r = Some (record r { ttl = time_from_none time })
fetch_response_set fetched.Grace (value.Duration time) r = Some (record r { grace = time_from_none time })
fetch_response_set fetched.Keep (value.Duration time) r = Some (record r { keep = time_from_none time })
fetch_response_set fetched.Uncacheable (value.Bool truth) r = Some (record r { uncacheable = r.uncacheable || truth })
fetch_response_set _ v r = None

abbrev pub response_set : ResponseVariable → Value → ResponseHead → Option ResponseHead
response_set response.Status v head = status_set v head
response_set response.Reason v head = reason_set v head
response_set _ v head = None

-- a jar's text has a limit, as any text that VCL makes
abbrev pub jar_set : Value → Context → Option Context
jar_set v c = if nat_lt text_limit (length (text_of v)) then None else Some (record c { jar = text_of v })

abbrev pub variable_set : Variable → Value → Context → Option Context
variable_set variable.ClientIdentity v c = Some (record c { peer = record c.peer { identity = text_of v } })
variable_set (variable.Request w) v c = option_map (λ r. record c { request = r }) (request_set w v c.request)
variable_set (variable.FetchRequest w) v c = option_map (λ r. record c { fetch_request = r }) (fetch_request_set w v c.fetch_request)
variable_set (variable.FetchResponse w) v c = option_map (λ r. record c { fetch_response = r }) (fetch_response_set w v c.fetch_response)
variable_set (variable.Response w) v c = option_map (λ head. record c { response = head }) (response_set w v c.response)
variable_set variable.Body v c = Some (record c { body = Some (text_of v) })
variable_set variable.Jar v c = jar_set v c
variable_set _ v c = None
