-- What a machine is at, and what it comes to at a turn.
use Rattle.std.specs.Prelude.{◌≡◌, ℤ, List, [], ◌∷◌, Option, Some, None}
use Rattle.vmod_host.specs.declared.signature.Stored.{Stored}
use Rattle.vcl_context.specs.declared.context.Context.{Context}
use Rattle.vcl_program.specs.declared.code.Code.{Code}
use Rattle.vcl_context.specs.declared.turn.Answer.{Answer}
use Rattle.vcl_context.specs.declared.turn.Answer.TheVariants as answer
use Rattle.vcl_context.specs.declared.turn.Command.TheVariants as command
use Rattle.vcl_operands.specs.Outs.{Out, On, Ends, Asks, Stuck, IsSure}
use Rattle.vcl_eval.specs.declared.run_state.RunState.{RunState}
use Rattle.vcl_eval.specs.declared.machine.Asked.{Asked}
use Rattle.vcl_eval.specs.declared.machine.Asked.TheVariants as asked
use Rattle.vcl_eval.specs.declared.machine.Machine.{Machine}
use Rattle.vcl_eval.specs.declared.machine.Waiting.{Waiting}
use Rattle.vcl_eval.specs.declared.task.Task.{Task}
use Rattle.vcl_eval.specs.declared.task.Task.TheVariants as task
use Rattle.vcl_context.specs.declared.turn.Turn.{Turn}
use Rattle.vcl_context.specs.declared.turn.Turn.TheVariants as turn
use Rattle.vcl_eval.specs.States.{State}
use Rattle.vcl_eval.specs.RunStates.{rest_of, counted_on}

-- what is left of a run, by the answers that are still to come
abbrev pub Left : Type 0
Left = List Answer → Out State (Unit {0})

-- a run that waits has this left to do: before Begin all of it, and else what is behind the answer that it waits for
abbrev pub WaitsFor : Code → List Stored → Left → RunState → Asked → Type 0
WaitsFor code stored left live asked.Begin = (answers : List Answer) → left answers ≡ rest_of code stored task.Run live answers
WaitsFor code stored left live asked.Ban = (a : Answer) (answers : List Answer) → left (a ∷ answers) ≡ rest_of code stored task.Run live answers
WaitsFor code stored left live (asked.Purge what) = (n : ℤ) (answers : List Answer) → left (answer.Number n ∷ answers) ≡ counted_on code stored live what n answers

abbrev pub WaitsAt : Code → List Stored → Left → Option Waiting → Type 0
WaitsAt code stored left None = ⊥
WaitsAt code stored left (Some w) = WaitsFor code stored left w.live w.asked

abbrev pub IsAt : Code → List Stored → Left → Machine → Type 0
IsAt code stored left machine = WaitsAt code stored left machine.waiting

-- whatever it is answered, it isn't stuck
abbrev pub SureFor : Code → List Stored → RunState → Asked → Type 0
SureFor code stored live asked.Begin = (answers : List Answer) → IsSure (rest_of code stored task.Run live answers)
SureFor code stored live asked.Ban = (answers : List Answer) → IsSure (rest_of code stored task.Run live answers)
SureFor code stored live (asked.Purge what) = (n : ℤ) (answers : List Answer) → IsSure (counted_on code stored live what n answers)

abbrev pub SureWaiting : Code → List Stored → Option Waiting → Type 0
SureWaiting code stored None = Unit {0}
SureWaiting code stored (Some w) = SureFor code stored w.live w.asked

abbrev pub IsSureAt : Code → List Stored → Machine → Type 0
IsSureAt code stored machine = SureWaiting code stored machine.waiting

-- the answer is the one that is waited for; one that has ended, or wanted memory, waits for none
abbrev pub SuitsAsked : Answer → Asked → Type 0
SuitsAsked answer.Begin asked.Begin = Unit {0}
SuitsAsked answer.Done asked.Ban = Unit {0}
SuitsAsked (answer.Number n) (asked.Purge what) = Unit {0}
SuitsAsked _ _ = ⊥

abbrev pub SuitsWaiting : Answer → Option Waiting → Type 0
SuitsWaiting a None = Unit {0}
SuitsWaiting a (Some w) = SuitsAsked a w.asked

abbrev pub Suits : Answer → Machine → Type 0
Suits a machine = SuitsWaiting a machine.waiting

-- what is left behind an answer; Begin isn't counted among the answers
abbrev pub behind_answer : Answer → Left → Left
behind_answer answer.Begin left answers = left answers
behind_answer answer.Done left answers = left (answer.Done ∷ answers)
behind_answer (answer.Number n) left answers = left (answer.Number n ∷ answers)

-- the values of variables at the end, with the count of statements
abbrev pub closed : State → Context
closed s = record s.context { statements = s.statements }

abbrev pub EndsAs : Out State (Unit {0}) → Turn → Type 0
EndsAs (Ends word s) t = t ≡ turn.End word (closed s)
EndsAs (On done s) t = ⊥
EndsAs (Asks wanted) t = ⊥
EndsAs Stuck t = ⊥

-- a turn of what is left: it wants this command and the machine waits for its answer, or it ends so whatever comes
abbrev pub IsTurn : Code → List Stored → Left → Turn → Machine → Type 0
IsTurn code stored left (turn.Need wanted) machine = (left [] ≡ Asks wanted) × IsAt code stored left machine
IsTurn code stored left (turn.End word c) machine = (answers : List Answer) → EndsAs (left answers) (turn.End word c)

-- the same where what is left is the rest of a run that has come to something
abbrev pub IsTurnBehind : Code → List Stored → Task → Option Waiting → Turn → Machine → Type 0
IsTurnBehind code stored stopped None t machine = Unit {0}
IsTurnBehind code stored stopped (Some w) t machine = IsTurn code stored (rest_of code stored stopped w.live) t machine

-- a run that waits for something else
abbrev pub waits_for : Asked → Waiting → Waiting
waits_for asked w = record w { asked = asked }

-- the answer that each command wants suits the machine behind it; one that has ended waits for nothing
abbrev pub SuitsBehind : Turn → Machine → Type 0
SuitsBehind (turn.Need (command.Ban text)) machine = Suits answer.Done machine
SuitsBehind (turn.Need (command.Xkey keys soft)) machine = (n : ℤ) → Suits (answer.Number n) machine
SuitsBehind (turn.End word c) machine = machine.waiting ≡ None
