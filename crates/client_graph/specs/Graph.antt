-- Which state follows a subroutine of a client's request by its word (Varnish Reference Manual, VCL-Steps, "Client side";
-- Varnish Users Guide, "Built in subroutines", "Grace mode and keep", "Hit-for-miss").
use Rattle.std.specs.Prelude.{ℕ, nat_lt, ◌+◌, Bool, true, false, List, Option, Some, None}
use Rattle.cache_law.specs.declared.call.Query.{Query}
use Rattle.vcl_context.specs.declared.context.Context.{Context}
use Rattle.vcl_language.specs.declared.scope.Subroutine.{Subroutine}
use Rattle.vcl_language.specs.declared.scope.Subroutine.TheVariants as subroutine
use Rattle.vcl_context.specs.declared.turn.Return.{Return}
use Rattle.vcl_context.specs.declared.turn.Return.TheVariants as word
use Rattle.delivery.specs.declared.pages.Failure.{Failure}
use Rattle.delivery.specs.declared.pages.Failure.TheVariants.{TooManyRestarts, VclFailed}
use Rattle.delivery.specs.Opened.{opened_synthetic}
use Rattle.delivery.specs.Pages.{reason_of}
use Rattle.client_graph.specs.declared.round.Round.{Round}
use Rattle.client_graph.specs.declared.round.HeldFetch.{HeldFetch}
use Rattle.client_graph.specs.declared.round.FoundObject.{FoundObject}
use Rattle.delivery.specs.declared.opening.Numbers.{Numbers}
use Rattle.client_graph.specs.declared.round.KeyUse.TheVariants as key_use
use Rattle.client_graph.specs.declared.round.State.{State}
use Rattle.client_graph.specs.declared.round.State.TheVariants as state
use Rattle.client_graph.specs.declared.round.FetchKind.TheVariants.{Store}
use Rattle.client_graph.specs.declared.round.WaitPoint.TheVariants as point
use Rattle.client_graph.specs.declared.round.Next.{Next}
use Rattle.client_graph.specs.declared.round.Next.TheVariants.{Enter, Rest}
use Rattle.client_graph.specs.Contexts.{context_again, without_key, with_response, with_bare_response}
use Rattle.vcl_context.specs.Initial.{uncounted, body_or_empty, status_or_503}
use Rattle.client_graph.specs.FoundObject.{opened_of, body_in, whole_body}

-- the subroutine that runs in a state
abbrev pub subroutine_of : State → Subroutine
subroutine_of state.Recv = subroutine.Recv
subroutine_of (state.Hash key_use) = subroutine.Hash
subroutine_of state.Purge = subroutine.Purge
subroutine_of (state.Hit found) = subroutine.Hit
subroutine_of (state.Miss held) = subroutine.Miss
subroutine_of state.Pass = subroutine.Pass
subroutine_of (state.Deliver body) = subroutine.Deliver
subroutine_of state.Synth = subroutine.Synth

-- a subroutine begins to count its statements
abbrev pub enter : State → Context → Round → Next
enter state context round = Enter state (uncounted context) round

-- vcl_synth begins with a status, a reason and the round's number
abbrev pub enter_synth : ℕ → List ℕ → Context → Round → Next
enter_synth status reason context round =
    enter state.Synth (with_bare_response (opened_synthetic status reason round.number) context) round

abbrev pub failing : Failure → Context → Round → Next
failing failure context round = enter_synth 503 (reason_of failure) context round

-- a round is restarted at most so often
abbrev pub most_restarts : ℕ
most_restarts = 4

abbrev pub may_restart : Round → Bool
may_restart round = nat_lt round.restarts most_restarts

-- vcl_recv runs once more
abbrev pub round_again : Context → Round → Next
round_again context round =
    enter state.Recv (context_again (round.restarts + 1) round.peer context) (record round { restarts = round.restarts + 1 })

abbrev pub round_again_if : Bool → Context → Round → Next
round_again_if true context round = round_again context round
round_again_if false context round = failing TooManyRestarts context round

-- the words that lead to the same from wherever they are given; what isn't a word there fails
abbrev pub common : Return → Context → Round → Next
common (word.Synth status reason) context round = enter_synth (status_or_503 status) reason context round
common word.Restart context round = round_again_if (may_restart round) context round
common word context round = failing VclFailed context round

-- an open fetch that isn't made is given up first
abbrev pub giving_up : Option HeldFetch → Next → Next
giving_up (Some held) (Enter state context round) = Rest (point.Drop held.token state context) round
giving_up held next = next

-- a restart that happens gives up the fetch that was to be made behind the response
abbrev pub round_again_late : Context → Round → Next
round_again_late context round = giving_up round.background (round_again context (record round { background = None }))

-- a fifth restart is none: a response is told, and behind vcl_synth the page of a failed one
abbrev pub late_restart : Bool → Context → Round → Next
late_restart true context round = round_again_late context round
late_restart false context round = failing TooManyRestarts context round

abbrev pub last_restart : Bool → Context → Round → Next
last_restart true context round = round_again_late context round
last_restart false context round = Rest (point.Fail context) round

-- what a lookup asks for: the key that vcl_hash made, and the request and its options as VCL left them
abbrev pub query_of : Context → Query
query_of context = record {
  key = context.key;
  request = record { url = context.request.head.url; fields = context.request.head.fields };
  options = record {
    always_miss = context.request.hash_always_miss;
    ignore_busy = context.request.hash_ignore_busy;
    ignore_vary = context.request.hash_ignore_vary;
    ttl = context.request.ttl;
    grace = context.request.grace;
  };
}

-- an object that was found is delivered; a fetch of a newer one is made behind the response
abbrev pub delivered_hit : FoundObject → Context → Round → Next
delivered_hit found context round =
    let numbers : Numbers = record { round = round.number; object = Some found.view.number } in
    enter (state.Deliver (whole_body (body_in found.view.object))) (with_response (opened_of numbers found.view found.moment) context) (record round { background = found.held })

-- Where a subroutine's word leads. A key is made for a lookup or for a purge. A miss fetches what may be stored; a request
-- that is passed draws a number for a fetch of its own.
abbrev pub leads : State → Return → Context → Round → Next
leads state.Recv word.Hash context round = enter (state.Hash key_use.Lookup) (without_key context) round
leads state.Recv word.Purge context round = enter (state.Hash key_use.Purge) (without_key context) round
leads state.Recv word.Pass context round = enter state.Pass context round
leads (state.Hash key_use.Lookup) word.Lookup context round = Rest (point.Look (query_of context) context) round
leads (state.Hash key_use.Purge) word.Lookup context round = Rest (point.Purge context) round
leads (state.Hit found) word.Deliver context round = delivered_hit found context round
leads (state.Hit found) word.Pass context round = giving_up found.held (enter state.Pass context round)
leads (state.Hit found) word context round = giving_up found.held (common word context round)
leads (state.Miss held) word.Fetch context round = Rest (point.Fetch (Store held) context) round
leads (state.Miss held) word.Pass context round = giving_up (Some held) (enter state.Pass context round)
leads (state.Miss held) word context round = giving_up (Some held) (common word context round)
leads state.Pass word.Fetch context round = Rest (point.Draw context) round
leads (state.Deliver body) word.Deliver context round = Rest (point.Send context body) round
leads (state.Deliver body) word.Restart context round = late_restart (may_restart round) context round
leads state.Synth word.Deliver context round = Rest (point.Send context (whole_body (body_or_empty context.body))) round
leads state.Synth word.Restart context round = last_restart (may_restart round) context round
leads state.Synth word context round = Rest (point.Fail context) round
leads state word context round = common word context round
