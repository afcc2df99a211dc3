-- How a fetch is tied to where it stands.
use Rattle.std.specs.Prelude.{ℕ, ◌+◌, ◌*◌, ◌-◌, List, Option, Some, None}
use Rattle.cache_law.specs.declared.rounds.Given.{Given}
use Rattle.fetch_graph.specs.declared.fetch.Fetch.{Fetch}
use Rattle.fetch_graph.specs.declared.fetch.State.{State}
use Rattle.fetch_graph.specs.declared.fetch.State.TheVariants as state
use Rattle.fetch_graph.specs.declared.fetch.Next.{Next}
use Rattle.fetch_graph.specs.declared.fetch.Next.TheVariants.{Enter, Rest}
use Rattle.fetch_task.specs.Fetches.{Settles, Reaches}
use Rattle.vcl_runs.specs.Evaluators.{Evaluator}

-- after these givens this is where the fetch stands; there is no place once memory was wanting
abbrev pub StandsAt : Evaluator → Next → List Given → Option Next → Type 0
StandsAt e opening givens None = ⊥
StandsAt e opening givens (Some place) = Reaches e opening givens place

-- what settles the later settles the earlier
abbrev pub LeadsTo : Evaluator → Next → Next → Type 0
LeadsTo e earlier later = (place : Next) → Settles e later place → Settles e earlier place

-- how many subroutines may still run
abbrev pub rank : State → ℕ
rank state.Request = 2
rank (state.Response arrived) = 3
rank (state.Error origin) = 1

abbrev pub weight : State → Fetch → ℕ
weight state fetch = 4 * (4 - fetch.retries) + rank state

abbrev pub weight_of : Next → ℕ
weight_of (Enter state context fetch) = weight state fetch
weight_of (Rest point fetch) = 0
