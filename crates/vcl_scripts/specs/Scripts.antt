-- The turns of a script's subroutines.
use Rattle.std.specs.Prelude.{◌≡◌, ◌≢◌, ⊤, ℕ, pos, Bool, true, false, [], Option, Some, None, length, if◌then◌else◌, ◌==◌}
use Rattle.vcl_context.specs.declared.context.Context.{Context}
use Rattle.vcl_language.specs.declared.scope.Subroutine.{Subroutine}
use Rattle.vcl_language.specs.declared.scope.Subroutine.TheVariants as subroutine
use Rattle.vcl_context.specs.declared.turn.Answer.{Answer}
use Rattle.vcl_context.specs.declared.turn.Answer.TheVariants.{Begin}
use Rattle.vcl_context.specs.declared.turn.Command.TheVariants.{Ban, Xkey}
use Rattle.vcl_context.specs.declared.turn.Return.{Return}
use Rattle.vcl_context.specs.declared.turn.Return.TheVariants as word
use Rattle.vcl_context.specs.declared.turn.Turn.{Turn}
use Rattle.vcl_context.specs.declared.turn.Turn.TheVariants.{Need, End}
use Rattle.vcl_runs.specs.Runs.{Ran}
use Rattle.vcl_scripts.specs.declared.script.Route.{Route}
use Rattle.vcl_scripts.specs.declared.script.Route.TheVariants as route
use Rattle.vcl_scripts.specs.declared.script.Script.{Script}
use Rattle.vcl_scripts.specs.declared.script.Stage.{Stage}
use Rattle.vcl_scripts.specs.declared.script.Stage.TheVariants as stage
use Rattle.vcl_scripts.specs.declared.script.ScriptRun.{ScriptRun}

-- how vcl_recv ends
abbrev pub routed : Route → Return
routed route.Hash = word.Hash
routed route.Pass = word.Pass
routed route.Purge = word.Purge
routed route.Restart = word.Restart

-- how a subroutine ends
abbrev pub word_of : Route → Subroutine → Return
word_of route subroutine.Recv = routed route
word_of route subroutine.Hash = word.Lookup
word_of route subroutine.Purge = word.Synth (pos 200) []
word_of route subroutine.Hit = word.Deliver
word_of route subroutine.Miss = word.Fetch
word_of route subroutine.Pass = word.Fetch
word_of route subroutine.Deliver = word.Deliver
word_of route subroutine.Synth = word.Deliver
word_of route subroutine.BackendFetch = word.Fetch
word_of route subroutine.BackendResponse = word.Deliver
word_of route subroutine.BackendError = word.Deliver
word_of route subroutine.Init = word.Ok
word_of route subroutine.Fini = word.Ok

abbrev pub is_recv : Subroutine → Bool
is_recv subroutine.Recv = true
is_recv s = false

-- vcl_recv after so many answers: it bans and purges first
abbrev pub received : Script → Context → ℕ → Turn
received script context n =
    if n == 0 then Need (Ban script.ban) else if n == 1 then Need (Xkey script.keys true) else End (routed script.route) context

abbrev pub ended : Script → Subroutine → Context → Turn
ended script s context = End (word_of script.route s) context

-- the turn of a run that was answered so
abbrev pub turn_of : Script → Ran → Turn
turn_of script ran = if is_recv ran.subroutine then received script ran.context (length ran.answers) else ended script ran.subroutine ran.context

-- how many answers there were at a stage of which subroutine
abbrev pub IsAtStage : Stage → Subroutine → ℕ → Type 0
IsAtStage stage.Ready s n = n ≡ 0
IsAtStage stage.Banning s n = (is_recv s ≡ true) × (n ≡ 0)
IsAtStage stage.Purging s n = (is_recv s ≡ true) × (n ≡ 1)
IsAtStage stage.Over s n = ⊤

-- what the run still works on, until it has ended
abbrev pub IsContext : Option Context → Context → Type 0
IsContext None context = ⊤
IsContext (Some one) context = one ≡ context

-- the run of a subroutine that was answered so
pub record IsRun (run : ScriptRun) (ran : Ran) : Type 0 where
  pub subroutine : run.subroutine ≡ ran.subroutine
  pub context : IsContext run.context ran.context
  pub stage : IsAtStage run.stage run.subroutine (length ran.answers)

-- a run begins once
abbrev pub Fits : Stage → Answer → Type 0
Fits stage.Ready answer = answer ≡ Begin
Fits stage.Banning answer = answer ≢ Begin
Fits stage.Purging answer = answer ≢ Begin
Fits stage.Over answer = ⊥

abbrev pub left_of : Stage → ℕ
left_of stage.Ready = 3
left_of stage.Banning = 2
left_of stage.Purging = 1
left_of stage.Over = 0
