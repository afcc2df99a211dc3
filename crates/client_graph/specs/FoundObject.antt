-- What a subroutine reads of an object, and the response that is made of it (Varnish Reference Manual, VCL-Variables, "obj" and
-- "resp").
use Rattle.std.specs.Prelude.{ℕ, ℤ, pos, negsuc, ◌+ℤ◌, ◌-ℤ◌, min, Bool, true, false, List, [], Option, Some, None, if◌then◌else◌}
use Rattle.std.specs.Int.{int_min, int_max}
use Rattle.http_heads.specs.declared.message.ResponseHead.{ResponseHead}
use Rattle.cache_law.specs.declared.object.Object.{Object}
use Rattle.cache_law.specs.declared.object.Object.TheVariants.{Ordinary, HitForMiss, HitForPass}
use Rattle.cache_law.specs.declared.object.ObjectView.{ObjectView}
use Rattle.cache_law.specs.Object.{timing_of, can_confirm}
use Rattle.cache_law.specs.Bans.{status_of, fields_of}
use Rattle.vcl_context.specs.declared.context.CachedObject.{CachedObject}
use Rattle.delivery.specs.declared.finishing.ResponseBody.{ResponseBody}
use Rattle.delivery.specs.declared.opening.Numbers.{Numbers}
use Rattle.delivery.specs.Opened.{opened, age_of}

-- a marker has neither a reason nor a body
abbrev pub reason_in : Object → List ℕ
reason_in (Ordinary response) = response.content.reason
reason_in (HitForMiss marker) = []
reason_in (HitForPass marker) = []

abbrev pub body_in : Object → List ℕ
body_in (Ordinary response) = response.content.body
body_in (HitForMiss marker) = []
body_in (HitForPass marker) = []

-- a body that the response to GET has, and that of a backend's response to a request that was passed
abbrev pub whole_body : List ℕ → ResponseBody
whole_body text = record { text = text; passed = false }

abbrev pub passed_body : List ℕ → ResponseBody
passed_body text = record { text = text; passed = true }

-- the nearest number that 64 bits hold
abbrev pub in_range : ℤ → ℤ
in_range x = int_max (negsuc 9223372036854775807) (int_min x (pos 9223372036854775807))

-- a moment, of which none is counted beyond the year 9999
abbrev pub counted_moment : ℕ → ℤ
counted_moment moment = pos (min moment 253402300799999)

abbrev pub head_of : Object → ResponseHead
head_of object = record { version = 11; status = status_of object; reason = reason_in object; fields = fields_of object }

-- the object as it is at a moment: how long it is fresh from then on, and how old it is
abbrev pub cached_object : Bool → ObjectView → ℕ → CachedObject
cached_object uncacheable view moment =
    let timing = timing_of view.object in
    record {
      head = head_of view.object;
      hits = pos (min view.hits 9223372036854775807);
      uncacheable = uncacheable;
      ttl = in_range (timing.origin +ℤ timing.ttl -ℤ counted_moment moment);
      age = in_range (counted_moment moment -ℤ timing.origin);
      grace = timing.grace;
      keep = timing.keep;
    }

-- the response to a request that was passed is no object of the cache
abbrev pub passed_object : ObjectView → ℕ → CachedObject
passed_object view moment = record (cached_object true view moment) { hits = pos 0; ttl = pos 0; grace = pos 0; keep = pos 0 }

-- what vcl_deliver begins with
abbrev pub opened_of : Numbers → ObjectView → ℕ → ResponseHead
opened_of numbers view moment =
    opened (status_of view.object) (reason_in view.object) (fields_of view.object) numbers (age_of (timing_of view.object).origin moment)

-- the object that a backend may confirm while another is given
abbrev pub confirmable : ObjectView → Option ObjectView
confirmable view = if can_confirm view.object then Some view else None
