-- A round: a client and the fetches that it asks for, over the answers that are given to both (Varnish Reference Manual,
-- VCL-Steps).
use Rattle.std.specs.Prelude.{◌≡◌, ℕ, List, [], ◌∷◌, Option, Some, None}
use Rattle.cache_law.specs.declared.call.Call.TheVariants as call
use Rattle.cache_law.specs.declared.call.Reply.{Reply}
use Rattle.cache_law.specs.declared.call.Reply.TheVariants as reply
use Rattle.cache_law.specs.declared.rounds.FetchOutcome.{FetchOutcome}
use Rattle.cache_law.specs.declared.rounds.Given.{Given}
use Rattle.cache_law.specs.declared.rounds.Given.TheVariants as given
use Rattle.cache_law.specs.declared.rounds.Order.{Order}
use Rattle.cache_law.specs.declared.rounds.Request.{Request}
use Rattle.client_graph.specs.declared.round.Next.{Next}
use Rattle.client_graph.specs.declared.round.ClientWant.{ClientWant}
use Rattle.client_graph.specs.declared.round.ClientWant.TheVariants as client
use Rattle.client_graph.specs.Opening.{opening}
use Rattle.client_task.specs.Rounds.{Evaluator as ClientEvaluator, Wants as ClientWants}
use Rattle.fetch_graph.specs.declared.fetch.FetchWant.{FetchWant}
use Rattle.fetch_graph.specs.declared.fetch.FetchWant.TheVariants as fetch
use Rattle.fetch_graph.specs.Opening.{opening as fetch_opening}
use Rattle.fetch_task.specs.Fetches.{Wants as FetchWants}
use Rattle.vcl_runs.specs.Evaluators.{Evaluator}
use Rattle.round_task.specs.declared.want.Want.{Want}
use Rattle.round_task.specs.declared.want.Want.TheVariants.{Cache, Exchange, Send, Done}
use Rattle.round_task.specs.declared.want.Passed.{Passed}
use Rattle.round_task.specs.declared.want.Passed.TheVariants.{Wanted, Ordered}
use Rattle.round_task.specs.declared.want.Made.{Made}
use Rattle.round_task.specs.declared.want.Made.TheVariants as made

-- what a client knows of an evaluator
abbrev pub for_client : Evaluator → ClientEvaluator
for_client e = record { turns = e.turns; target = e.target }

-- the word by which a director of kind random chooses: one that is drawn, or else the fetch's number
abbrev pub word_of : Option ℕ → ℕ → ℕ
word_of None number = number
word_of (Some word) number = word

-- what a client wants is wanted of its round, but for a fetch
abbrev pub want_of_client : ClientWant → Passed
want_of_client (client.Cache call) = Wanted (Cache call)
want_of_client (client.Fetch order) = Ordered order
want_of_client (client.Send delivery) = Wanted (Send delivery)
want_of_client (client.Background order) = Ordered order
want_of_client client.Done = Wanted Done

-- and so is what the fetch of this number wants, until it is over
abbrev pub made_of : ℕ → FetchWant → Made
made_of number (fetch.Cache call) = made.Wanted (Cache call)
made_of number (fetch.Ask backend request) = made.Wanted (Exchange number backend request)
made_of number (fetch.Done outcome) = made.Over outcome

-- Where a round stands: before its Begin is answered; at its client, by what that began with and what it was given, the newest
-- first; at the client's fetch of an order, by what that was given; or at its end.
pub data Node : Type 0 where
  Opening : Request → List ℕ → Node
  AtClient : Next → List Given → Node
  AtFetch : Next → List Given → Order → List Given → Node
  Over : Node

-- how it goes on: the client was given something, and may ask for a fetch or comes from one; its fetch was given something; or
-- nothing more comes
pub data Flow : Type 0 where
  ToClient : Next → List Given → Flow
  BackToClient : Next → List Given → Flow
  ToFetch : Next → List Given → Order → List Given → Flow
  Ends : Flow

-- A flow settles where something is wanted. A client waits for the outcome of its fetch, be it behind its response or before
-- it. Behind a fetch it asks for no other at once; where it did, the round would end.
pub data Settles (e : Evaluator) (drawn : Option ℕ) : Flow → Node → Want → Type 0 where
  passes : {start : Next} {givens : List Given} {want : Want} (asked : ClientWant)
      → ClientWants (for_client e) start givens asked → want_of_client asked ≡ Wanted want
      → Settles e drawn (ToClient start givens) (AtClient start givens) want
  orders : {start : Next} {givens : List Given} {node : Node} {want : Want} (asked : ClientWant) (order : Order)
      → ClientWants (for_client e) start givens asked → want_of_client asked ≡ Ordered order
      → Settles e drawn (ToFetch start givens order (given.Start ∷ [])) node want
      → Settles e drawn (ToClient start givens) node want
  asks : {start : Next} {givens : List Given} {order : Order} {told : List Given} {want : Want} (asked : FetchWant)
      → FetchWants e (word_of drawn order.number) (fetch_opening order) told asked → made_of order.number asked ≡ made.Wanted want
      → Settles e drawn (ToFetch start givens order told) (AtFetch start givens order told) want
  returns : {start : Next} {givens : List Given} {order : Order} {told : List Given} {node : Node} {want : Want} (asked : FetchWant) (outcome : FetchOutcome)
      → FetchWants e (word_of drawn order.number) (fetch_opening order) told asked → made_of order.number asked ≡ made.Over outcome
      → Settles e drawn (BackToClient start (given.Fetched outcome ∷ givens)) node want
      → Settles e drawn (ToFetch start givens order told) node want
  passes_back : {start : Next} {givens : List Given} {want : Want} (asked : ClientWant)
      → ClientWants (for_client e) start givens asked → want_of_client asked ≡ Wanted want
      → Settles e drawn (BackToClient start givens) (AtClient start givens) want
  breaks : {start : Next} {givens : List Given} (asked : ClientWant) (order : Order)
      → ClientWants (for_client e) start givens asked → want_of_client asked ≡ Ordered order
      → Settles e drawn (BackToClient start givens) Over Done
  ends : Settles e drawn Ends Over Done

-- the client begins by what the round's Begin was told: its number, and that of its VCL
abbrev pub after_begin : Request → List ℕ → Reply → Flow
after_begin request peer (reply.Began number vcl text) = ToClient (opening number vcl request peer) (given.Start ∷ [])
after_begin request peer other = Ends

-- how a round goes on where it is given this
abbrev pub flow_of : Node → Given → Flow
flow_of (Opening request peer) (given.Reply told) = after_begin request peer told.reply
flow_of (AtClient start givens) given = ToClient start (given ∷ givens)
flow_of (AtFetch start givens order told) given = ToFetch start givens order (given ∷ told)
flow_of node given = Ends

-- After these givens, the newest first, a round of the request from the peer stands here.
abbrev pub Reaches : Evaluator → Request → List ℕ → List Given → Node → Type 0
Reaches e request peer [] node = node ≡ Opening request peer
Reaches e request peer (given ∷ givens) node =
    (before : Node) × (drawn : Option ℕ) × (want : Want) × Reaches e request peer givens before × Settles e drawn (flow_of before given) node want

-- And this is what it wants: first its Begin.
abbrev pub Wants : Evaluator → Option ℕ → Request → List ℕ → List Given → Want → Type 0
Wants e drawn request peer [] want = want ≡ Cache call.Begin
Wants e drawn request peer (given ∷ givens) want =
    (before : Node) × (node : Node) × Reaches e request peer givens before × Settles e drawn (flow_of before given) node want
