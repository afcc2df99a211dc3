-- Where an answer leads (Varnish Reference Manual, VCL-Steps; RFC 9111, section 4.3.3).
use Rattle.std.specs.Prelude.{ℕ, List, Option, Some, None}
use Rattle.http_heads.specs.declared.exchange.Exchange.{Exchange}
use Rattle.http_heads.specs.declared.exchange.Exchange.TheVariants as exchange
use Rattle.cache_law.specs.declared.call.Reply.{Reply}
use Rattle.cache_law.specs.declared.call.Reply.TheVariants as reply
use Rattle.cache_law.specs.declared.rounds.Given.{Given}
use Rattle.cache_law.specs.declared.rounds.Given.TheVariants as given
use Rattle.vcl_context.specs.declared.context.Context.{Context}
use Rattle.backend_request.specs.declared.receiving.Received.{Received}
use Rattle.backend_request.specs.Asked.{unconditional}
use Rattle.backend_request.specs.Received.{received}
use Rattle.backend_request.specs.Timed.{timed}
use Rattle.fetch_graph.specs.declared.fetch.Fetch.{Fetch}
use Rattle.fetch_graph.specs.declared.fetch.State.TheVariants as state
use Rattle.fetch_graph.specs.declared.fetch.Insertion.{Insertion}
use Rattle.fetch_graph.specs.declared.fetch.WaitPoint.{WaitPoint}
use Rattle.fetch_graph.specs.declared.fetch.WaitPoint.TheVariants as point
use Rattle.fetch_graph.specs.declared.fetch.Next.{Next}
use Rattle.fetch_graph.specs.declared.fetch.Next.TheVariants.{Rest}
use Rattle.fetch_graph.specs.Contexts.{with_head, with_response, age_at, response_with}
use Rattle.fetch_graph.specs.Opening.{purpose_of, content_of}
use Rattle.fetch_graph.specs.Graph.{enter, failing, nothing, outcome_of}

-- what can't be answered here ends the fetch
abbrev pub over : Fetch → Next
over fetch = Rest (point.Over (nothing fetch)) fetch

-- a backend is asked, or none is healthy
abbrev pub after_choice : Option (List ℕ) → Context → ℕ → Fetch → Next
after_choice (Some name) context moment fetch = Rest (point.Ask context) (record fetch { moment = moment; picked = Some name })
after_choice None context moment fetch = failing context (record fetch { moment = moment })

abbrev pub after_pick : Context → ℕ → Reply → Fetch → Next
after_pick context moment (reply.Picked name) fetch = after_choice name context moment fetch
after_pick context moment other fetch = over fetch

-- vcl_backend_response begins with what was received
unfoldable pub responding : Received → Context → Fetch → Next
responding response context fetch =
    let timing = timed (purpose_of fetch.order.looked) response.head.status response.head.fields fetch.moment in
    enter (state.Response (record { body = response.body; origin = timing.origin }))
    (with_response (response_with response.head timing (age_at timing.origin fetch.moment) context.fetch_request.uncacheable response.was_304 fetch.picked) context)
    fetch

abbrev pub after_receipt : Option Received → Context → Fetch → Next
after_receipt None context fetch = failing context fetch
after_receipt (Some response) context fetch = responding response context fetch

-- the exchange is over
abbrev pub after_exchange : Context → Exchange → Fetch → Next
after_exchange context (exchange.Reply head body) fetch =
    after_receipt (received context.fetch_request.head (purpose_of fetch.order.looked) (content_of fetch.order.stale) head body) context fetch
after_exchange context (exchange.Fault cause) fetch = failing context fetch
after_exchange context exchange.NoMemory fetch = over fetch

-- The insertion was answered. Where the stale object is gone, the backend is asked once more, without a condition.
abbrev pub after_insertion : Insertion → Context → ℕ → Reply → Fetch → Next
after_insertion insertion context moment (reply.Stored number) fetch = Rest (point.Over (outcome_of fetch insertion.delivered moment insertion.is_marker)) fetch
after_insertion insertion context moment reply.NotInTime fetch = Rest (point.Over (outcome_of fetch insertion.delivered moment insertion.is_marker)) fetch
after_insertion insertion context moment reply.NoRoom fetch = Rest (point.Over (outcome_of fetch insertion.delivered moment insertion.is_marker)) fetch
after_insertion insertion context moment reply.Refused fetch = Rest (point.Over (outcome_of fetch insertion.delivered moment insertion.is_marker)) fetch
after_insertion insertion context moment reply.StaleGone fetch = Rest (point.Ask (with_head (unconditional context.fetch_request.head) context)) fetch
after_insertion insertion context moment other fetch = over fetch

-- where an answer leads from a place; one that doesn't answer what is wanted there ends the fetch
abbrev pub takes : WaitPoint → Given → Fetch → Next
takes (point.Pick context) (given.Reply told) fetch = after_pick context told.moment told.reply fetch
takes (point.Ask context) (given.Exchange got) fetch = after_exchange context got.exchange (record fetch { moment = got.moment })
takes (point.Insert insertion context) (given.Reply told) fetch = after_insertion insertion context told.moment told.reply fetch
takes point given fetch = over fetch
