-- How a round as a value is tied to where it stands.
use Rattle.std.specs.Prelude.{◌≡◌, ⊤, ℕ, List, Option}
use Rattle.vcl_context.specs.declared.turn.Answer.{Answer}
use Rattle.vcl_runs.specs.Runs.{Ran}
use Rattle.cache_law.specs.declared.rounds.Given.{Given}
use Rattle.cache_law.specs.declared.rounds.Request.{Request}
use Rattle.client_task.specs.Standing.{StandsAt as ClientStands, MayGoOn as ClientMay}
use Rattle.fetch_graph.specs.Opening.{opening}
use Rattle.vcl_runs.specs.Evaluators.{Evaluator}
use Rattle.fetch_task.specs.Standing.{StandsAt as FetchStands}
use Rattle.round_task.specs.declared.place.Place.{Place}
use Rattle.round_task.specs.declared.place.Place.TheVariants as place
use Rattle.round_task.specs.declared.leading.Settled.{Settled}
use Rattle.round_task.specs.Rounds.{Node, Opening, AtClient, AtFetch, Over, Flow, Settles, Reaches, for_client}

-- the place is this node of the round, over what is known of runs
abbrev pub IsAt : {M : Type 0} → Evaluator → (M → Ran → Type 0) → (M → Answer → Type 0) → Place M → Node → Type 0
IsAt e stands fits (place.Opening request peer) (Opening asked address) = (request ≡ asked) × (peer ≡ address)
IsAt e stands fits (place.Client client) (AtClient start givens) = ClientStands (for_client e) stands fits start givens client.place
IsAt e stands fits (place.Fetch client number fetch) (AtFetch start givens order told) =
    ClientStands (for_client e) stands fits start givens client.place × (number ≡ order.number) × FetchStands e (opening order) told fetch.value.place
IsAt e stands fits place.Over Over = ⊤
IsAt e stands fits place node = ⊥

-- after these givens the place is where the round stands
abbrev pub StandsAt : {M : Type 0} → Evaluator → (M → Ran → Type 0) → (M → Answer → Type 0) → Request → List ℕ → List Given → Place M → Type 0
StandsAt e stands fits request peer givens place = (node : Node) × Reaches e request peer givens node × IsAt e stands fits place node

-- a flow settles at this place
abbrev pub SettlesAt : {M : Type 0} → Evaluator → (M → Ran → Type 0) → (M → Answer → Type 0) → Option ℕ → Flow → Settled M → Type 0
SettlesAt e stands fits drawn flow settled = (node : Node) × IsAt e stands fits settled.place node × Settles e drawn flow node settled.want

-- its client may go on
abbrev pub MayGoOn : {M : Type 0} → (M → Ran → Type 0) → (M → Answer → Type 0) → Place M → Type 0
MayGoOn stands fits (place.Client client) = ClientMay stands fits client.place
MayGoOn stands fits (place.Fetch client number fetch) = ClientMay stands fits client.place
MayGoOn stands fits place = ⊤
