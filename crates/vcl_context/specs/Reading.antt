-- What each variable reads as (docs/VCL.md, "Variables"). A program has a default backend, to which a request is sent where none
-- is chosen.
use Rattle.std.specs.Prelude.{ℕ, ℤ, pos, negsuc, List, [], ◌∷◌, Option, Some, None}
use Rattle.vcl_values.specs.declared.value.Backend.{Backend as Chosen}
use Rattle.vcl_values.specs.declared.value.Value.{Value}
use Rattle.vcl_values.specs.declared.value.Value.TheVariants.{String, Int, Duration, Bool, Ip, Backend}
use Rattle.http_heads.specs.declared.message.ResponseHead.{ResponseHead}
use Rattle.http_heads.specs.Printed.{version_text}
use Rattle.vcl_context.specs.declared.context.Context.{Context}
use Rattle.vcl_context.specs.declared.context.ClientRequest.{ClientRequest}
use Rattle.vcl_context.specs.declared.context.CachedObject.{CachedObject}
use Rattle.vcl_context.specs.declared.context.FetchRequest.{FetchRequest}
use Rattle.vcl_context.specs.declared.context.FetchResponse.{FetchResponse}
use Rattle.vcl_context.specs.declared.variable.Variable.{Variable}
use Rattle.vcl_context.specs.declared.variable.Variable.TheVariants as variable
use Rattle.vcl_context.specs.declared.variable.RequestVariable.{RequestVariable}
use Rattle.vcl_context.specs.declared.variable.RequestVariable.TheVariants as request
use Rattle.vcl_context.specs.declared.variable.ObjectVariable.{ObjectVariable}
use Rattle.vcl_context.specs.declared.variable.ObjectVariable.TheVariants as object
use Rattle.vcl_context.specs.declared.variable.FetchRequestVariable.{FetchRequestVariable}
use Rattle.vcl_context.specs.declared.variable.FetchRequestVariable.TheVariants as fetch
use Rattle.vcl_context.specs.declared.variable.FetchResponseVariable.{FetchResponseVariable}
use Rattle.vcl_context.specs.declared.variable.FetchResponseVariable.TheVariants as fetched
use Rattle.vcl_context.specs.declared.variable.ResponseVariable.{ResponseVariable}
use Rattle.vcl_context.specs.declared.variable.ResponseVariable.TheVariants as response

-- 127.0.0.1
abbrev pub own_address : List ℕ
own_address = 127 ∷ 0 ∷ 0 ∷ 1 ∷ []

-- a second less than nothing stands for a time that isn't set
abbrev pub time_or_unset : Option ℤ → Value
time_or_unset None = Duration (negsuc 999)
time_or_unset (Some time) = Duration time

-- the default backend is read where none is chosen (Varnish Reference Manual, VCL-Variables, "req.backend_hint", "bereq.backend")
abbrev pub chosen_or : Option Chosen → Option Chosen → Option Chosen
chosen_or default None = default
chosen_or default (Some backend) = Some backend

abbrev pub request_value : Option Chosen → RequestVariable → ClientRequest → Value
request_value default request.Method r = String (Some r.head.method)
request_value default request.Url r = String (Some r.head.url)
request_value default request.Proto r = String (Some (version_text r.head.version))
request_value default request.Restarts r = Int r.restarts
request_value default request.Ttl r = time_or_unset r.ttl
request_value default request.Grace r = time_or_unset r.grace
request_value default request.BackendHint r = Backend (chosen_or default r.backend_hint)
request_value default request.HashAlwaysMiss r = Bool r.hash_always_miss
request_value default request.HashIgnoreBusy r = Bool r.hash_ignore_busy
request_value default request.HashIgnoreVary r = Bool r.hash_ignore_vary
request_value default request.IsHitmiss r = Bool r.is_hitmiss
request_value default request.IsHitpass r = Bool r.is_hitpass

abbrev pub object_value : ObjectVariable → CachedObject → Value
object_value object.Status o = Int (pos o.head.status)
object_value object.Reason o = String (Some o.head.reason)
object_value object.Hits o = Int o.hits
object_value object.Uncacheable o = Bool o.uncacheable
object_value object.Ttl o = Duration o.ttl
object_value object.Age o = Duration o.age
object_value object.Grace o = Duration o.grace
object_value object.Keep o = Duration o.keep

abbrev pub fetch_request_value : Option Chosen → FetchRequestVariable → FetchRequest → Value
fetch_request_value default fetch.Method r = String (Some r.head.method)
fetch_request_value default fetch.Url r = String (Some r.head.url)
fetch_request_value default fetch.Proto r = String (Some (version_text r.head.version))
fetch_request_value default fetch.Backend r = Backend (chosen_or default r.backend)
fetch_request_value default fetch.Retries r = Int r.retries
fetch_request_value default fetch.Uncacheable r = Bool r.uncacheable
fetch_request_value default fetch.IsBgfetch r = Bool r.is_bgfetch

abbrev pub fetch_response_value : FetchResponseVariable → FetchResponse → Value
fetch_response_value fetched.Status r = Int (pos r.head.status)
fetch_response_value fetched.Reason r = String (Some r.head.reason)
fetch_response_value fetched.Proto r = String (Some (version_text r.head.version))
fetch_response_value fetched.Ttl r = Duration r.ttl
fetch_response_value fetched.Grace r = Duration r.grace
fetch_response_value fetched.Keep r = Duration r.keep
fetch_response_value fetched.Uncacheable r = Bool r.uncacheable
fetch_response_value fetched.Age r = Duration r.age
fetch_response_value fetched.Was304 r = Bool r.was_304
fetch_response_value fetched.Backend r = Backend r.backend

abbrev pub response_value : ResponseVariable → ResponseHead → Value
response_value response.Status head = Int (pos head.status)
response_value response.Reason head = String (Some head.reason)
response_value response.Proto head = String (Some (version_text head.version))

-- with this default backend; the body is what was made, though the language lets nothing read it
abbrev pub value_of : Option Chosen → Variable → Context → Value
value_of default variable.ClientIp c = Ip c.peer.address
value_of default variable.ServerIp c = Ip own_address
value_of default variable.ClientIdentity c = String (Some c.peer.identity)
value_of default (variable.Request v) c = request_value default v c.request
value_of default (variable.Object v) c = object_value v c.object
value_of default (variable.FetchRequest v) c = fetch_request_value default v c.fetch_request
value_of default (variable.FetchResponse v) c = fetch_response_value v c.fetch_response
value_of default (variable.Response v) c = response_value v c.response
value_of default variable.Body c = String c.body
value_of default variable.Jar c = String (Some c.jar)
