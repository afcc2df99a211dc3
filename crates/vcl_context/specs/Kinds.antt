-- The types of variables, and which are set (docs/VCL.md, "Variables").
use Rattle.std.specs.Prelude.{Bool, true, false}
use Rattle.vcl_values.specs.declared.value.Kind.{Kind}
use Rattle.vcl_values.specs.declared.value.Kind.TheVariants as kind
use Rattle.vcl_context.specs.declared.variable.Variable.{Variable}
use Rattle.vcl_context.specs.declared.variable.Variable.TheVariants.{ClientIp, ServerIp, ClientIdentity, Request, Object, FetchRequest, FetchResponse, Response, Body, Jar}
use Rattle.vcl_context.specs.declared.variable.RequestVariable.{RequestVariable}
use Rattle.vcl_context.specs.declared.variable.RequestVariable.TheVariants as request
use Rattle.vcl_context.specs.declared.variable.ObjectVariable.{ObjectVariable}
use Rattle.vcl_context.specs.declared.variable.ObjectVariable.TheVariants as object
use Rattle.vcl_context.specs.declared.variable.FetchRequestVariable.{FetchRequestVariable}
use Rattle.vcl_context.specs.declared.variable.FetchRequestVariable.TheVariants as fetch
use Rattle.vcl_context.specs.declared.variable.FetchResponseVariable.{FetchResponseVariable}
use Rattle.vcl_context.specs.declared.variable.FetchResponseVariable.TheVariants as fetched
use Rattle.vcl_context.specs.declared.variable.ResponseVariable.{ResponseVariable}
use Rattle.vcl_context.specs.declared.variable.ResponseVariable.TheVariants as response
use Rattle.vcl_context.specs.declared.variable.Message.{Message}
use Rattle.vcl_context.specs.declared.variable.Message.TheVariants as message

abbrev pub request_kind : RequestVariable → Kind
request_kind request.Method = kind.String
request_kind request.Url = kind.String
request_kind request.Proto = kind.String
request_kind request.Restarts = kind.Int
request_kind request.Ttl = kind.Duration
request_kind request.Grace = kind.Duration
request_kind request.BackendHint = kind.Backend
request_kind _ = kind.Bool

abbrev pub object_kind : ObjectVariable → Kind
object_kind object.Status = kind.Int
object_kind object.Reason = kind.String
object_kind object.Hits = kind.Int
object_kind object.Uncacheable = kind.Bool
object_kind _ = kind.Duration

abbrev pub fetch_request_kind : FetchRequestVariable → Kind
fetch_request_kind fetch.Backend = kind.Backend
fetch_request_kind fetch.Retries = kind.Int
fetch_request_kind fetch.Uncacheable = kind.Bool
fetch_request_kind fetch.IsBgfetch = kind.Bool
fetch_request_kind _ = kind.String

abbrev pub fetch_response_kind : FetchResponseVariable → Kind
fetch_response_kind fetched.Status = kind.Int
fetch_response_kind fetched.Ttl = kind.Duration
fetch_response_kind fetched.Grace = kind.Duration
fetch_response_kind fetched.Keep = kind.Duration
fetch_response_kind fetched.Age = kind.Duration
fetch_response_kind fetched.Uncacheable = kind.Bool
fetch_response_kind fetched.Was304 = kind.Bool
fetch_response_kind fetched.Backend = kind.Backend
fetch_response_kind _ = kind.String

abbrev pub response_kind : ResponseVariable → Kind
response_kind response.Status = kind.Int
response_kind _ = kind.String

abbrev pub kind_of_variable : Variable → Kind
kind_of_variable ClientIp = kind.Ip
kind_of_variable ServerIp = kind.Ip
kind_of_variable ClientIdentity = kind.String
kind_of_variable (Request v) = request_kind v
kind_of_variable (Object v) = object_kind v
kind_of_variable (FetchRequest v) = fetch_request_kind v
kind_of_variable (FetchResponse v) = fetch_response_kind v
kind_of_variable (Response v) = response_kind v
kind_of_variable Body = kind.String
kind_of_variable Jar = kind.String

-- whether a variable may be set
abbrev pub is_set_request : RequestVariable → Bool
is_set_request request.Proto = false
is_set_request request.Restarts = false
is_set_request request.IsHitmiss = false
is_set_request request.IsHitpass = false
is_set_request _ = true

abbrev pub is_set_fetch_request : FetchRequestVariable → Bool
is_set_fetch_request fetch.Method = true
is_set_fetch_request fetch.Url = true
is_set_fetch_request fetch.Backend = true
is_set_fetch_request _ = false

abbrev pub is_set_fetch_response : FetchResponseVariable → Bool
is_set_fetch_response fetched.Proto = false
is_set_fetch_response fetched.Age = false
is_set_fetch_response fetched.Was304 = false
is_set_fetch_response fetched.Backend = false
is_set_fetch_response _ = true

abbrev pub is_set_response : ResponseVariable → Bool
is_set_response response.Proto = false
is_set_response _ = true

abbrev pub is_set : Variable → Bool
is_set ClientIp = false
is_set ServerIp = false
is_set ClientIdentity = true
is_set (Request v) = is_set_request v
is_set (Object v) = false
is_set (FetchRequest v) = is_set_fetch_request v
is_set (FetchResponse v) = is_set_fetch_response v
is_set (Response v) = is_set_response v
is_set Body = true
is_set Jar = true

-- whether the fields of a message may be set
abbrev pub has_set_fields : Message → Bool
has_set_fields message.Object = false
has_set_fields _ = true

-- a value of any type may be set to a STRING, and to another type one of that type
abbrev pub fits : Kind → Kind → Bool
fits kind.String given = true
fits kind.Int kind.Int = true
fits kind.Duration kind.Duration = true
fits kind.Bool kind.Bool = true
fits kind.Ip kind.Ip = true
fits kind.Backend kind.Backend = true
fits wanted given = false

-- whether the variable may be set to a value of this type
abbrev pub accepts : Variable → Kind → Bool
accepts v given = fits_if (is_set v) (fits (kind_of_variable v) given)
  where
    fits_if : Bool → Bool → Bool
    fits_if true fit = fit
    fits_if false fit = false
