-- Where an answer leads (Varnish Reference Manual, VCL-Steps; Varnish Users Guide, "Hit-for-miss", "Grace mode and keep").
use Rattle.std.specs.Prelude.{ℕ, Bool, true, false, Option, Some, None, option_map}
use Rattle.cache_law.specs.declared.object.ObjectView.{ObjectView}
use Rattle.cache_law.specs.declared.call.Query.{Query}
use Rattle.cache_law.specs.declared.call.Reply.{Reply}
use Rattle.cache_law.specs.declared.call.Reply.TheVariants as reply
use Rattle.cache_law.specs.declared.rounds.Given.{Given}
use Rattle.cache_law.specs.declared.rounds.Given.TheVariants as given
use Rattle.cache_law.specs.declared.rounds.FetchOutcome.{FetchOutcome}
use Rattle.cache_law.specs.declared.rounds.FetchOutcome.TheVariants.{Delivered, Failed, Ended}
use Rattle.vcl_context.specs.declared.context.Context.{Context}
use Rattle.vcl_context.specs.declared.context.CachedObject.{CachedObject}
use Rattle.delivery.specs.declared.finishing.ResponseBody.{ResponseBody}
use Rattle.delivery.specs.declared.opening.Numbers.{Numbers}
use Rattle.delivery.specs.declared.pages.Failure.TheVariants.{FetchFailed}
use Rattle.client_graph.specs.declared.round.Round.{Round}
use Rattle.client_graph.specs.declared.round.HeldFetch.{HeldFetch}
use Rattle.client_graph.specs.declared.round.State.{State}
use Rattle.client_graph.specs.declared.round.State.TheVariants as state
use Rattle.client_graph.specs.declared.round.FetchKind.{FetchKind}
use Rattle.client_graph.specs.declared.round.FetchKind.TheVariants.{Store, Pass}
use Rattle.client_graph.specs.declared.round.WaitPoint.{WaitPoint}
use Rattle.client_graph.specs.declared.round.WaitPoint.TheVariants as point
use Rattle.client_graph.specs.declared.round.Next.{Next}
use Rattle.client_graph.specs.declared.round.Next.TheVariants.{Enter, Rest}
use Rattle.client_graph.specs.Contexts.{with_markers, with_object, with_response}
use Rattle.client_graph.specs.FoundObject.{cached_object, passed_object, opened_of, body_in, whole_body, passed_body, confirmable}
use Rattle.client_graph.specs.Graph.{enter, failing}

-- what can't be answered here ends the round
abbrev pub over : Round → Next
over round = Rest point.Over round

abbrev pub held_fetch : ℕ → Query → ℕ → Option ObjectView → HeldFetch
held_fetch token query moment stale = record { token = token; query = query; moment = moment; stale = stale }

-- An object was found: vcl_hit runs. With a token it is in grace, and the fetch of a newer one is this round's.
abbrev pub hit : ObjectView → Option ℕ → Query → Context → ℕ → Round → Next
hit view token query context moment round =
    enter
    (state.Hit (record { view = view; moment = moment; held = option_map (λ number. held_fetch number query moment (confirmable view)) token }))
    (with_object (cached_object false view moment) (with_markers false false context))
    round

-- The lookup was answered. Wait looks the key up again, once the fetch is closed.
abbrev pub after_lookup : Query → Context → ℕ → Reply → Round → Next
after_lookup query context moment (reply.Hit view) round = hit view None query context moment round
after_lookup query context moment (reply.Grace view token) round = hit view token query context moment round
after_lookup query context moment (reply.Miss token stale) round = enter (state.Miss (held_fetch token query moment stale)) (with_markers false false context) round
after_lookup query context moment (reply.HitMiss token) round = enter (state.Miss (held_fetch token query moment None)) (with_markers true false context) round
after_lookup query context moment reply.HitPass round = enter state.Pass (with_markers false true context) round
after_lookup query context moment (reply.Wait token) round = Rest (point.Look query context) round
after_lookup query context moment other round = over round

abbrev pub after_purge : Context → Reply → Round → Next
after_purge context (reply.Purged count) round = enter state.Purge context round
after_purge context other round = over round

-- the fetch is given up, and the state runs that it kept from running
abbrev pub after_drop : State → Context → Reply → Round → Next
after_drop state context reply.Dropped round = Enter state context round
after_drop state context other round = over round

abbrev pub after_draw : Context → ℕ → Reply → Round → Next
after_draw context moment (reply.Drawn number) round = Rest (point.Fetch (Pass number moment) context) round
after_draw context moment other round = over round

-- the object that vcl_deliver reads
abbrev pub fetched_object : FetchKind → Bool → ObjectView → ℕ → CachedObject
fetched_object (Store held) uncacheable view moment = cached_object uncacheable view moment
fetched_object (Pass number drawn) uncacheable view moment = passed_object view moment

-- and the body that is sent of its response
abbrev pub fetched_body : FetchKind → ObjectView → ResponseBody
fetched_body (Store held) view = whole_body (body_in view.object)
fetched_body (Pass number drawn) view = passed_body (body_in view.object)

-- The response of a fetch is delivered, and its failure is told.
abbrev pub after_fetch : FetchKind → Context → FetchOutcome → Round → Next
after_fetch kind context (Delivered view moment uncacheable) round =
    let numbers : Numbers = record { round = round.number; object = None } in
    enter
    (state.Deliver (fetched_body kind view))
    (with_response (opened_of numbers view moment) (with_object (fetched_object kind uncacheable view moment) context))
    round
after_fetch kind context Failed round = failing FetchFailed context round
after_fetch kind context Ended round = over round

-- the response was sent: the fetch behind it comes, or the end
abbrev pub after_send : Context → Option HeldFetch → Round → Next
after_send context (Some held) round = Rest (point.Background held context) (record round { background = None })
after_send context None round = Rest point.End round

abbrev pub after_background : FetchOutcome → Round → Next
after_background Ended round = Rest point.End round
after_background other round = over round

-- where an answer leads from a place; one that doesn't answer what is wanted there ends the round
abbrev pub takes : WaitPoint → Given → Round → Next
takes (point.Look query context) (given.Reply told) round = after_lookup query context told.moment told.reply round
takes (point.Purge context) (given.Reply told) round = after_purge context told.reply round
takes (point.Drop token state context) (given.Reply told) round = after_drop state context told.reply round
takes (point.Draw context) (given.Reply told) round = after_draw context told.moment told.reply round
takes (point.Fetch kind context) (given.Fetched outcome) round = after_fetch kind context outcome round
takes (point.Send context body) given.Sent round = after_send context round.background round
takes (point.Fail context) given.Sent round = after_send context round.background round
takes (point.Background held context) (given.Fetched outcome) round = after_background outcome round
takes point given round = over round
