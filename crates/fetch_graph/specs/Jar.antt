-- The jar of cookies of a fetch, which lives as long as the fetch, over retries too.
use Rattle.std.specs.Prelude.{ℕ, ◌≡◌, ⊤, List, []}
use Rattle.cache_law.specs.declared.rounds.Given.{Given}
use Rattle.cache_law.specs.declared.rounds.Order.{Order}
use Rattle.vcl_context.specs.declared.context.Context.{Context}
use Rattle.vcl_context.specs.declared.turn.Return.{Return}
use Rattle.fetch_graph.specs.declared.fetch.Fetch.{Fetch}
use Rattle.fetch_graph.specs.declared.fetch.State.{State}
use Rattle.fetch_graph.specs.declared.fetch.WaitPoint.{WaitPoint}
use Rattle.fetch_graph.specs.declared.fetch.WaitPoint.TheVariants as point
use Rattle.fetch_graph.specs.declared.fetch.Next.{Next}
use Rattle.fetch_graph.specs.declared.fetch.Next.TheVariants.{Enter, Rest}
use Rattle.fetch_graph.specs.Answers.{takes}
use Rattle.fetch_graph.specs.Graph.{leads}
use Rattle.fetch_graph.specs.Opening.{opening}

-- where a fetch rests it keeps this jar, unless no subroutine follows
abbrev pub KeepsJar : List ℕ → WaitPoint → Type 0
KeepsJar jar (point.Pick context) = context.jar ≡ jar
KeepsJar jar (point.Ask context) = context.jar ≡ jar
KeepsJar jar (point.Insert insertion context) = context.jar ≡ jar
KeepsJar jar point.Drop = ⊤
KeepsJar jar (point.Over outcome) = ⊤

-- what comes next begins with this jar, or rests with it
abbrev pub HasJar : List ℕ → Next → Type 0
HasJar jar (Enter state context fetch) = context.jar ≡ jar
HasJar jar (Rest point fetch) = KeepsJar jar point

-- A fetch begins with the empty jar; what a subroutine leaves is the next one's; and no answer changes it.
pub record JarLives : Type 0 where
  pub begins : (order : Order) → HasJar [] (opening order)
  pub led : (state : State) (word : Return) (context : Context) (fetch : Fetch) → HasJar context.jar (leads state word context fetch)
  pub taken : (jar : List ℕ) (rest : WaitPoint) (given : Given) (fetch : Fetch) → KeepsJar jar rest → HasJar jar (takes rest given fetch)
