use Rattle.vcl_context.specs.declared.turn.Answer.{Answer}
use Rattle.vcl_runs.specs.Runs.{Ran}
use Rattle.vcl_scripts.specs.declared.script.ScriptRun.{ScriptRun}
use Rattle.vcl_scripts.specs.Scripts.{IsRun, Fits}
use Rattle.round_task.specs.Standing.{MayGoOn}
use Rattle.round_tests.proofs.rounds.play.Given as goal

-- the round may go on
abbrev pub invariant-words : goal.invariant-words
invariant-words l = MayGoOn (λ (run : ScriptRun) (ran : Ran). IsRun run ran) (λ (run : ScriptRun) (answer : Answer). Fits run.stage answer) l.round.place
