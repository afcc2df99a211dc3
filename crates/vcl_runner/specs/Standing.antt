-- Where a run stands on a program: as the joined text and the stored functions say, and nothing else of the program.
use Rattle.std.specs.Prelude.{◌≡◌, List, ◌++◌, Option, Some, None}
use Rattle.std.proofs.Common.{sym, ◌∙◌}
use Rattle.vcl_tree.specs.declared.item.Item.{Item}
use Rattle.vmod_host.specs.declared.signature.Stored.{Stored}
use Rattle.vcl_program.specs.declared.code.Code.{Code}
use Rattle.vcl_context.specs.declared.turn.Answer.{Answer}
use Rattle.vcl_context.specs.declared.turn.Turn.{Turn}
use Rattle.vcl_context.specs.declared.turn.Turn.TheVariants as turn
use Rattle.vcl_operands.specs.Outs.{Out, On, Ends, Asks, Stuck, IsSure}
use Rattle.vcl_eval.specs.declared.machine.Machine.{Machine}
use Rattle.vcl_eval.specs.declared.machine.Waiting.{Waiting}
use Rattle.vcl_eval.specs.States.{State}
use Rattle.vcl_eval.specs.Turns.{Left, WaitsAt, closed}
use Rattle.vcl_meaning.specs.Meaning.{run_of}
use Rattle.vcl_runs.specs.Runs.{Ran}

-- what is left of a run behind the answers that it was given
abbrev pub left_after : List Item → List Stored → Ran → Left
left_after items stored ran answers = run_of items stored ran.subroutine ran.context (ran.answers ++ answers)

-- the turn that a run comes to: it wants a command, or it ends with a word and the values of the variables
abbrev pub ComesTo : Out State (Unit {0}) → Turn → Type 0
ComesTo (Asks wanted) t = t ≡ turn.Need wanted
ComesTo (Ends word s) t = t ≡ turn.End word (closed s)
ComesTo (On done s) t = ⊥
ComesTo Stuck t = ⊥

abbrev pub IsTurnOf : List Item → List Stored → Ran → Turn → Type 0
IsTurnOf items stored ran t = ComesTo (run_of items stored ran.subroutine ran.context ran.answers) t

-- there is one
pub one_turn : (o : Out State (Unit {0})) (t u : Turn) → ComesTo o t → ComesTo o u → u ≡ t
one_turn (Asks wanted) t u h k = k ∙ sym h
one_turn (Ends word s) t u h k = k ∙ sym h
one_turn (On done s) t u h k = absurd h
one_turn Stuck t u h k = absurd h

-- a machine that waits has this left, which isn't stuck; one that has ended stands everywhere
abbrev pub StandsWaiting : Code → List Stored → Left → Option Waiting → Type 0
StandsWaiting code stored left None = Unit {0}
StandsWaiting code stored left (Some w) = WaitsAt code stored left (Some w)

abbrev pub StandsAt : Code → List Stored → Left → Machine → Type 0
StandsAt code stored left machine = StandsWaiting code stored left machine.waiting × ((answers : List Answer) → IsSure (left answers))
