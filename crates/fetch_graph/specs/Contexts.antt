-- What the subroutines of a fetch begin with (Varnish Reference Manual, VCL-Variables, "bereq" and "beresp").
use Rattle.std.specs.Prelude.{ℕ, ℤ, pos, negsuc, ◌-ℤ◌, ◌==◌, ◌&&◌, min, Bool, true, false, List, Option, Some, None, option_map}
use Rattle.std.specs.List.{list_all}
use Rattle.std.specs.Int.{int_min, int_max}
use Rattle.directors.specs.declared.director.DirectorKind.{DirectorKind}
use Rattle.directors.specs.declared.director.DirectorKind.TheVariants as director
use Rattle.http_heads.specs.declared.message.RequestHead.{RequestHead}
use Rattle.http_heads.specs.declared.message.ResponseHead.{ResponseHead}
use Rattle.freshness.specs.declared.times.Timing.{Timing}
use Rattle.vcl_values.specs.declared.value.Backend.{Backend}
use Rattle.vcl_context.specs.declared.context.Context.{Context}
use Rattle.vcl_context.specs.declared.context.FetchRequest.{FetchRequest}
use Rattle.vcl_context.specs.declared.context.FetchResponse.{FetchResponse}
use Rattle.vcl_context.specs.Initial.{empty_context}
use Rattle.directors.specs.declared.target.Target.{Target}

-- the request of a fetch for the client of this address, and nothing else so far
abbrev pub first_context : List ℕ → FetchRequest → Context
first_context address request = record (empty_context address) { fetch_request = request }

-- the response that a subroutine makes, without a body of VCL's own so far
abbrev pub with_response : FetchResponse → Context → Context
with_response response context = record context { fetch_response = response; body = None }

-- the request with another head, and tried so often
abbrev pub with_head : RequestHead → Context → Context
with_head head context = record context { fetch_request = record context.fetch_request { head = head } }

abbrev pub with_retries : ℕ → Context → Context
with_retries retries context = record context { fetch_request = record context.fetch_request { retries = pos retries } }

abbrev pub is_one : DirectorKind → Bool
is_one director.One = true
is_one other = false

-- a single backend of weight 0 is one that is declared as none
abbrev pub is_none : Target → Bool
is_none target = is_one target.kind && list_all (λ member. member.weight == 0) target.members

-- the text that a director of the kind is asked with
abbrev pub key_for : DirectorKind → List ℕ → Option (List ℕ)
key_for director.Hash text = Some text
key_for other text = None

-- the backend or director that the client's VCL chose, as a value
abbrev pub backend_of : List ℕ → Target → Backend
backend_of text target = record { name = target.name; key = key_for target.kind text; declared_none = is_none target }

-- a backend that was picked
abbrev pub backend_named : List ℕ → Backend
backend_named name = record { name = name; key = None; declared_none = false }

-- the nearest number that 64 bits hold
abbrev pub in_range : ℤ → ℤ
in_range x = int_max (negsuc 9223372036854775807) (int_min x (pos 9223372036854775807))

-- the age at a moment, of which none is counted beyond the year 9999
abbrev pub age_at : ℤ → ℕ → ℤ
age_at origin moment = in_range (pos (min moment 253402300799999) -ℤ origin)

-- a response with its times, as a subroutine finds it
abbrev pub response_with : ResponseHead → Timing → ℤ → Bool → Bool → Option (List ℕ) → FetchResponse
response_with head timing age uncacheable was_304 picked = record {
  head = head;
  ttl = timing.ttl;
  grace = timing.grace;
  keep = timing.keep;
  uncacheable = uncacheable;
  age = age;
  was_304 = was_304;
  backend = option_map backend_named picked;
}
