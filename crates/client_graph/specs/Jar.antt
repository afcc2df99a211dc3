-- The jar of cookies of a round, which lives as long as the round, over restarts too.
use Rattle.std.specs.Prelude.{ℕ, ◌≡◌, ⊤, List, []}
use Rattle.cache_law.specs.declared.rounds.Given.{Given}
use Rattle.cache_law.specs.declared.rounds.Request.{Request}
use Rattle.vcl_context.specs.declared.context.Context.{Context}
use Rattle.vcl_context.specs.declared.turn.Return.{Return}
use Rattle.client_graph.specs.declared.round.Round.{Round}
use Rattle.client_graph.specs.declared.round.State.{State}
use Rattle.client_graph.specs.declared.round.WaitPoint.{WaitPoint}
use Rattle.client_graph.specs.declared.round.WaitPoint.TheVariants as point
use Rattle.client_graph.specs.declared.round.Next.{Next}
use Rattle.client_graph.specs.declared.round.Next.TheVariants.{Enter, Rest}
use Rattle.client_graph.specs.Answers.{takes}
use Rattle.client_graph.specs.Graph.{leads}
use Rattle.client_graph.specs.Opening.{opening}

-- where a round rests it keeps this jar, unless no subroutine follows
abbrev pub KeepsJar : List ℕ → WaitPoint → Type 0
KeepsJar jar (point.Look query context) = context.jar ≡ jar
KeepsJar jar (point.Purge context) = context.jar ≡ jar
KeepsJar jar (point.Drop token state context) = context.jar ≡ jar
KeepsJar jar (point.Draw context) = context.jar ≡ jar
KeepsJar jar (point.Fetch kind context) = context.jar ≡ jar
KeepsJar jar (point.Send context body) = context.jar ≡ jar
KeepsJar jar (point.Fail context) = context.jar ≡ jar
KeepsJar jar (point.Background held context) = context.jar ≡ jar
KeepsJar jar point.End = ⊤
KeepsJar jar point.Over = ⊤

-- what comes next begins with this jar, or rests with it
abbrev pub HasJar : List ℕ → Next → Type 0
HasJar jar (Enter state context round) = context.jar ≡ jar
HasJar jar (Rest point round) = KeepsJar jar point

-- A round begins with the empty jar; what a subroutine leaves is the next one's; and no answer changes it.
pub record JarLives : Type 0 where
  pub begins : (number vcl : ℕ) (request : Request) (peer : List ℕ) → HasJar [] (opening number vcl request peer)
  pub led : (state : State) (word : Return) (context : Context) (round : Round) → HasJar context.jar (leads state word context round)
  pub taken : (jar : List ℕ) (rest : WaitPoint) (given : Given) (round : Round) → KeepsJar jar rest → HasJar jar (takes rest given round)
