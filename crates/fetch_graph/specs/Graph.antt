-- Which state follows a subroutine of a fetch by its word (Varnish Reference Manual, VCL-Steps, "Backend side"; Varnish Users
-- Guide, "Hit-for-miss").
use Rattle.std.specs.Prelude.{ℕ, ℤ, pos, nat_lt, ◌+◌, Bool, true, false, List, [], Option, Some, None, option_map, if◌then◌else◌}
use Rattle.freshness.specs.declared.times.Timing.{Timing}
use Rattle.cache_law.specs.declared.call.Query.{Query}
use Rattle.cache_law.specs.declared.object.Object.{Object}
use Rattle.cache_law.specs.declared.object.Object.TheVariants.{Ordinary, HitForMiss, HitForPass}
use Rattle.cache_law.specs.declared.object.ObjectView.{ObjectView}
use Rattle.cache_law.specs.declared.object.Response.{Response}
use Rattle.cache_law.specs.declared.rounds.FetchOutcome.{FetchOutcome}
use Rattle.cache_law.specs.declared.rounds.FetchOutcome.TheVariants.{Delivered, Failed, Ended}
use Rattle.vcl_context.specs.declared.context.Context.{Context}
use Rattle.vcl_context.specs.declared.context.FetchResponse.{FetchResponse}
use Rattle.vcl_language.specs.declared.scope.Subroutine.{Subroutine}
use Rattle.vcl_language.specs.declared.scope.Subroutine.TheVariants as subroutine
use Rattle.vcl_context.specs.declared.turn.Return.{Return}
use Rattle.vcl_context.specs.declared.turn.Return.TheVariants as word
use Rattle.delivery.specs.declared.pages.Failure.TheVariants.{FetchFailed}
use Rattle.delivery.specs.Pages.{reason_of}
use Rattle.backend_request.specs.Timed.{timed, error_head}
use Rattle.backend_request.specs.Stored.{response_of, marker_of}
use Rattle.fetch_graph.specs.declared.fetch.Fetch.{Fetch}
use Rattle.fetch_graph.specs.declared.fetch.Arrived.{Arrived}
use Rattle.fetch_graph.specs.declared.fetch.State.{State}
use Rattle.fetch_graph.specs.declared.fetch.State.TheVariants as state
use Rattle.fetch_graph.specs.declared.fetch.StoreAs.{StoreAs}
use Rattle.fetch_graph.specs.declared.fetch.StoreAs.TheVariants as store_as
use Rattle.fetch_graph.specs.declared.fetch.WaitPoint.TheVariants as point
use Rattle.fetch_graph.specs.declared.fetch.Next.{Next}
use Rattle.fetch_graph.specs.declared.fetch.Next.TheVariants.{Enter, Rest}
use Rattle.fetch_graph.specs.Contexts.{with_response, with_retries, age_at, response_with}
use Rattle.vcl_context.specs.Initial.{uncounted, body_or_empty, status_or_503}
use Rattle.fetch_graph.specs.Opening.{purpose_of}

-- the subroutine that runs in a state
abbrev pub subroutine_of : State → Subroutine
subroutine_of state.Request = subroutine.BackendFetch
subroutine_of (state.Response arrived) = subroutine.BackendResponse
subroutine_of (state.Error origin) = subroutine.BackendError

-- a subroutine begins to count its statements
abbrev pub enter : State → Context → Fetch → Next
enter state context fetch = Enter state (uncounted context) fetch

-- vcl_backend_error begins with a status and a reason, and neither fields nor a body
unfoldable pub erring : ℕ → List ℕ → Context → Fetch → Next
erring status reason context fetch =
    let timing = timed (purpose_of fetch.order.looked) status [] fetch.moment in
    enter (state.Error timing.origin)
    (with_response (response_with (error_head status reason) timing (age_at timing.origin fetch.moment) context.fetch_request.uncacheable false fetch.picked) context)
    fetch

-- no response could be had
abbrev pub failing : Context → Fetch → Next
failing context fetch = erring 503 (reason_of FetchFailed) context fetch

-- nothing came of the fetch
abbrev pub nothing : Fetch → FetchOutcome
nothing fetch = if fetch.order.background then Ended else Failed

-- what opened the fetch is closed, if it was a lookup
abbrev pub token_dropped : Option Query → Fetch → Next
token_dropped None fetch = Rest (point.Over (nothing fetch)) fetch
token_dropped (Some query) fetch = Rest point.Drop fetch

abbrev pub without_response : Fetch → Next
without_response fetch = token_dropped fetch.order.looked fetch

-- a fetch is tried again at most so often
abbrev pub most_retries : ℕ
most_retries = 4

abbrev pub may_retry : Fetch → Bool
may_retry fetch = nat_lt fetch.retries most_retries

-- vcl_backend_fetch runs once more, on the request as it stands
abbrev pub fetch_again : Context → Fetch → Next
fetch_again context fetch = enter state.Request (with_retries (fetch.retries + 1) context) (record fetch { retries = fetch.retries + 1 })

abbrev pub fetch_again_if : Bool → Context → Fetch → Next
fetch_again_if true context fetch = fetch_again context fetch
fetch_again_if false context fetch = failing context fetch

-- a fifth retry in the error state is the end
abbrev pub last_retry : Bool → Context → Fetch → Next
last_retry true context fetch = fetch_again context fetch
last_retry false context fetch = without_response fetch

-- ---- a response is delivered

-- the times that VCL left
abbrev pub timing_left : ℤ → FetchResponse → Timing
timing_left origin response = record { origin = origin; ttl = response.ttl; grace = response.grace; keep = response.keep }

-- the response with the times of a marker
abbrev pub marked_response : ℤ → Response → Response
marked_response ttl response = record response { timing = record { origin = response.timing.origin; ttl = ttl; grace = pos 0; keep = pos 0 } }

-- what the cache gets of a response
abbrev pub object_for : StoreAs → Response → Object
object_for store_as.Whole response = Ordinary response
object_for store_as.HitForMiss response = HitForMiss (marker_of response response.timing.ttl)
object_for (store_as.HitForPass ttl) response = HitForPass (marker_of response ttl)

-- and what is delivered
abbrev pub shown_for : StoreAs → Response → Response
shown_for store_as.Whole response = response
shown_for store_as.HitForMiss response = marked_response response.timing.ttl response
shown_for (store_as.HitForPass ttl) response = marked_response ttl response

abbrev pub is_marked : StoreAs → Bool
is_marked store_as.Whole = false
is_marked store_as.HitForMiss = true
is_marked (store_as.HitForPass ttl) = true

-- the object that takes the place of a confirmed one names it
abbrev pub confirmed_number : Bool → Option ObjectView → Option ℕ
confirmed_number was_304 stale = if was_304 then option_map (λ view. view.number) stale else None

abbrev pub view_of : ℕ → Object → ObjectView
view_of number object = record { number = number; hits = 0; object = object }

-- what came of a fetch with a response
abbrev pub outcome_of : Fetch → Object → ℕ → Bool → FetchOutcome
outcome_of fetch object moment uncacheable =
    if fetch.order.background then Ended else Delivered (view_of fetch.order.number object) moment uncacheable

-- a response that may be stored is handed to the cache first
unfoldable pub insertion_first : Option Query → StoreAs → Response → Context → Fetch → Next
insertion_first None store_as response context fetch = Rest (point.Over (outcome_of fetch (Ordinary response) fetch.moment true)) fetch
insertion_first (Some query) store_as response context fetch =
    Rest (point.Insert (record {
      object = object_for store_as response;
      delivered = Ordinary (shown_for store_as response);
      is_marker = is_marked store_as;
      stale = confirmed_number context.fetch_response.was_304 fetch.order.stale;
    }) context) fetch

-- the response that VCL left is delivered, with the body and the origin of what arrived
unfoldable pub deliver_as : StoreAs → Arrived → Context → Fetch → Next
deliver_as store_as arrived context fetch =
    insertion_first fetch.order.looked store_as
    (response_of fetch.order.looked context.fetch_response.head arrived.body (timing_left arrived.origin context.fetch_response)) context fetch

-- what vcl_backend_error made, with its own body
abbrev pub made_at : ℤ → Context → Arrived
made_at origin context = record { body = body_or_empty context.body; origin = origin }

-- by `deliver`: whole, or that it isn't kept
abbrev pub kept_by : FetchResponse → StoreAs
kept_by response = if response.uncacheable then store_as.HitForMiss else store_as.Whole

-- Where a subroutine's word leads. What isn't a word there is as `abandon` is.
abbrev pub behind_request : Return → Context → Fetch → Next
behind_request word.Fetch context fetch = Rest (point.Pick context) fetch
behind_request (word.Error status reason) context fetch = erring (status_or_503 status) reason context fetch
behind_request word context fetch = without_response fetch

abbrev pub behind_response : Arrived → Return → Context → Fetch → Next
behind_response arrived word.Deliver context fetch = deliver_as (kept_by context.fetch_response) arrived context fetch
behind_response arrived (word.PassFor ttl) context fetch = deliver_as (store_as.HitForPass ttl) arrived context fetch
behind_response arrived (word.Error status reason) context fetch = erring (status_or_503 status) reason context fetch
behind_response arrived word.Retry context fetch = fetch_again_if (may_retry fetch) context fetch
behind_response arrived word context fetch = without_response fetch

abbrev pub behind_error : ℤ → Return → Context → Fetch → Next
behind_error origin word.Deliver context fetch = deliver_as (kept_by context.fetch_response) (made_at origin context) context fetch
behind_error origin word.Retry context fetch = last_retry (may_retry fetch) context fetch
behind_error origin word context fetch = without_response fetch

abbrev pub leads : State → Return → Context → Fetch → Next
leads state.Request word context fetch = behind_request word context fetch
leads (state.Response arrived) word context fetch = behind_response arrived word context fetch
leads (state.Error origin) word context fetch = behind_error origin word context fetch
