-- How a client is tied to where its round stands.
use Rattle.std.specs.Prelude.{◌≡◌, ⊤, ℕ, pos, ◌<◌, ◌^◌, ◌*◌, ◌+◌, ◌-◌, List}
use Rattle.vcl_context.specs.declared.turn.Answer.{Answer}
use Rattle.vcl_context.specs.declared.turn.Answer.TheVariants.{Done, Number}
use Rattle.vcl_runs.specs.Runs.{Ran}
use Rattle.cache_law.specs.declared.rounds.Given.{Given}
use Rattle.client_graph.specs.declared.round.Round.{Round}
use Rattle.client_graph.specs.declared.round.State.{State}
use Rattle.client_graph.specs.declared.round.State.TheVariants as state
use Rattle.client_graph.specs.declared.round.ClientWant.{ClientWant}
use Rattle.client_graph.specs.declared.round.Next.{Next}
use Rattle.client_graph.specs.declared.round.Next.TheVariants.{Enter, Rest}
use Rattle.client_task.specs.declared.settling.Settled.{Settled}
use Rattle.client_task.specs.declared.settling.RunStep.{RunStep}
use Rattle.client_task.specs.declared.settling.RunStep.TheVariants.{Stops, Leads}
use Rattle.client_task.specs.declared.place.Asked.{Asked}
use Rattle.client_task.specs.declared.place.Asked.TheVariants as asked
use Rattle.client_task.specs.declared.place.Place.{Place}
use Rattle.client_task.specs.declared.place.Place.TheVariants as place
use Rattle.client_task.specs.Rounds.{Node, Before, Inside, Between, Step, Moves, Evaluator, Settles, Reaches}

-- the run may be answered to what it asked for
abbrev pub IsReady : (Answer → Type 0) → Asked → Type 0
IsReady fits asked.Ban = fits Done
IsReady fits asked.Xkey = (n : ℕ) → n < 2 ^ 63 → fits (Number (pos n))

-- the place is this node of the round, over what is known of runs
abbrev pub IsAt : {M : Type 0} → (M → Ran → Type 0) → (M → Answer → Type 0) → Place M → Node → Type 0
IsAt stands fits (place.Before next) (Before other) = next ≡ other
IsAt stands fits (place.Inside asked state run round) (Inside other_asked other ran other_round) =
    (asked ≡ other_asked) × (state ≡ other) × (round ≡ other_round) × stands run ran × IsReady (fits run) asked
IsAt stands fits (place.Between point round) (Between other other_round) = (point ≡ other) × (round ≡ other_round)
IsAt stands fits place node = ⊥

-- after these givens the place is where the round stands
abbrev pub StandsAt : {M : Type 0} → Evaluator → (M → Ran → Type 0) → (M → Answer → Type 0) → Next → List Given → Place M → Type 0
StandsAt e stands fits opening givens place = (node : Node) × Reaches e opening givens node × IsAt stands fits place node

-- where a run comes to settles the step, or leads on to what settles it
abbrev pub SettlesAt : {M : Type 0} → Evaluator → (M → Ran → Type 0) → (M → Answer → Type 0) → Step → Settled M → Type 0
SettlesAt e stands fits step settled = (node : Node) × IsAt stands fits settled.place node × Settles e step node settled.want

abbrev pub Went : {M : Type 0} → Evaluator → (M → Ran → Type 0) → (M → Answer → Type 0) → Step → RunStep M → Type 0
Went e stands fits step (Stops settled) = SettlesAt e stands fits step settled
Went e stands fits step (Leads next) = (node : Node) (want : ClientWant) → Settles e (Moves next) node want → Settles e step node want

-- a state's place in a round, which falls along its arrows
abbrev pub rank : State → ℕ
rank state.Recv = 7
rank (state.Hash key_use) = 6
rank (state.Hit found) = 5
rank (state.Miss held) = 4
rank state.Purge = 4
rank state.Pass = 3
rank (state.Deliver body) = 2
rank state.Synth = 1

-- how many subroutines may still run
abbrev pub weight : State → Round → ℕ
weight state round = 8 * (4 - round.restarts) + rank state

abbrev pub weight_of : Next → ℕ
weight_of (Enter state context round) = weight state round
weight_of (Rest point round) = 0

-- fewer may run than before
abbrev pub Lowers : {M : Type 0} → ℕ → RunStep M → Type 0
Lowers before (Stops settled) = ⊤
Lowers before (Leads next) = weight_of next < before

-- the place is one of some round, or memory was wanting
abbrev pub MayGoOn : {M : Type 0} → (M → Ran → Type 0) → (M → Answer → Type 0) → Place M → Type 0
MayGoOn stands fits place.Broken = ⊤
MayGoOn stands fits place = (node : Node) × IsAt stands fits place node
