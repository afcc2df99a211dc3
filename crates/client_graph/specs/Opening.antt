-- Where a round begins (Varnish Reference Manual, VCL-Steps, "vcl_recv"). The round keeps the request as it came.
use Rattle.std.specs.Prelude.{ℕ, List, None}
use Rattle.http_heads.specs.declared.message.RequestHead.{RequestHead}
use Rattle.cache_law.specs.declared.rounds.Request.{Request}
use Rattle.client_graph.specs.declared.round.Round.{Round}
use Rattle.client_graph.specs.declared.round.State.TheVariants as state
use Rattle.client_graph.specs.declared.round.Next.{Next}
use Rattle.client_graph.specs.declared.round.Next.TheVariants.{Enter}
use Rattle.client_graph.specs.Contexts.{first_context}
use Rattle.client_graph.specs.Forwarded.{with_forwarded_for}
use Rattle.seen_request.specs.Seen.{seen}

abbrev pub first_round : ℕ → ℕ → Request → List ℕ → Round
first_round number vcl request peer =
    record { number = number; vcl = vcl; peer = peer; asked = request; restarts = 0; background = None }

-- the request's fields, with the client's address at the end of X-Forwarded-For
abbrev pub forwarded_head : List ℕ → RequestHead → RequestHead
forwarded_head peer head = record head { fields = with_forwarded_for peer head.fields }

-- the request as VCL sees it, and the client's address behind it
abbrev pub first_head : List ℕ → RequestHead → RequestHead
first_head peer head = forwarded_head peer (seen head)

-- the round of this number under this VCL begins with vcl_recv
abbrev pub opening : ℕ → ℕ → Request → List ℕ → Next
opening number vcl request peer =
    Enter state.Recv (first_context peer (first_head peer request.head)) (first_round number vcl request peer)
