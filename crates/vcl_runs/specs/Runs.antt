-- What is known of the runs of subroutines without knowing how they run.
use Rattle.std.specs.Prelude.{⊤, ℕ, pos, ◌<◌, ◌^◌, List, [], ◌∷◌, ◌++◌}
use Rattle.vcl_context.specs.declared.context.Context.{Context}
use Rattle.vcl_language.specs.declared.scope.Subroutine.{Subroutine}
use Rattle.vcl_context.specs.declared.turn.Answer.{Answer}
use Rattle.vcl_context.specs.declared.turn.Answer.TheVariants as answer
use Rattle.vcl_context.specs.declared.turn.Command.TheVariants.{Ban, Xkey}
use Rattle.vcl_context.specs.declared.turn.Turn.{Turn}
use Rattle.vcl_context.specs.declared.turn.Turn.TheVariants.{Need, End}

-- a subroutine that runs: what it began with, and what it was answered so far
pub record Ran : Type 0 where
  pub subroutine : Subroutine
  pub context : Context
  pub answers : List Answer

abbrev pub begun : Subroutine → Context → Ran
begun subroutine context = record { subroutine = subroutine; context = context; answers = [] }

-- one more answer; the first says no more than that it begins
abbrev pub answered : Answer → Ran → Ran
answered answer.Begin ran = ran
answered other ran = record ran { answers = ran.answers ++ other ∷ [] }

-- what may be answered to a turn, of the answers that fit
abbrev pub Awaits : (Answer → Type 0) → Turn → Type 0
Awaits fits (Need (Ban text)) = fits answer.Done
Awaits fits (Need (Xkey keys soft)) = (n : ℕ) → n < 2 ^ 63 → fits (answer.Number (pos n))
Awaits fits (End word context) = ⊤

-- a turn that wants a ban leaves less to do: whoever asks nothing of a ban goes on at once, and comes to an end
abbrev pub LeavesLess : ℕ → ℕ → Turn → Type 0
LeavesLess before after (Need (Ban text)) = after < before
LeavesLess before after (Need (Xkey keys soft)) = ⊤
LeavesLess before after (End word context) = ⊤
