-- What is done in a run that isn't stuck.
use Rattle.std.proofs.Common.{◌≡◌, ℕ, ℤ, List, [], ◌∷◌, Option, Some, None, refl, sym, subst}
use Rattle.vcl_values.specs.declared.value.Value.{Value}
use Rattle.vmod_host.specs.declared.signature.Stored.{Stored}
use Rattle.vcl_program.specs.declared.code.Code.{Code}
use Rattle.vcl_context.specs.declared.turn.Answer.{Answer}
use Rattle.vcl_context.specs.declared.turn.Answer.TheVariants as answer
use Rattle.vcl_context.specs.declared.turn.Turn.{Turn}
use Rattle.vcl_context.specs.declared.turn.Turn.TheVariants as turn
use Rattle.vcl_operands.specs.Outs.{Out, On, Ends, Asks, Stuck, and_then, IsSure, number_of}
use Rattle.vcl_operands.specs.Nodes.{world, value_at, given_number}
use Rattle.vcl_operands.proofs.Binds.{sure-along}
use Rattle.vcl_eval.specs.declared.finish.Finish.{Finish}
use Rattle.vcl_eval.specs.declared.run_state.RunState.{RunState}
use Rattle.vcl_eval.specs.declared.machine.Asked.{Asked}
use Rattle.vcl_eval.specs.declared.machine.Asked.TheVariants as asked
use Rattle.vcl_eval.specs.declared.machine.Machine.{Machine}
use Rattle.vcl_eval.specs.declared.machine.Waiting.{Waiting}
use Rattle.vcl_eval.specs.declared.task.Task.TheVariants as task
use Rattle.vcl_eval.specs.States.{State, Doing, in_state}
use Rattle.vcl_eval.specs.RunStates.{state_of, given_to, counted_on, rest_of}
use Rattle.vcl_eval.specs.Runs.{with_operand}
use Rattle.vcl_eval.specs.Turns.{Left, WaitsFor, WaitsAt, SureFor, SureWaiting, IsSureAt, SuitsAsked, SuitsWaiting, behind_answer, IsTurn, SuitsBehind}

-- what goes on behind a part
pub first-sure : {S A B : Type 0} (m : Out S A) (f : A → S → Out S B) → IsSure (and_then m f) → IsSure m
first-sure (On a s) f h = tt
first-sure (Ends word s) f h = tt
first-sure (Asks command) f h = tt
first-sure Stuck f h = h

state-sure : {A : Type 0} (s : State) (o : Out (List Answer) A) → IsSure (in_state s o) → IsSure o
state-sure s (On a answers) h = tt
state-sure s (Ends word answers) h = tt
state-sure s (Asks command) h = tt
state-sure s Stuck h = h

pub operand-sure : (code : Code) (stored : List Stored) (e : ℕ) (next : Value → Doing) (s : State) (f : Unit {0} → Doing) → IsSure (and_then (with_operand code stored e next s) f)
    → IsSure (value_at (world code stored s.context) e s.answers)
operand-sure code stored e next s f h =
    let o : Out (List Answer) Value = value_at (world code stored s.context) e s.answers in
    state-sure s o (first-sure (in_state s o) next (first-sure (with_operand code stored e next s) f h))

pub count-sure : (code : Code) (stored : List Stored) (live : RunState) (what : Finish) (n : ℤ) (answers : List Answer) → IsSure (counted_on code stored live what n answers)
    → IsSure (given_number (world code stored live.context) live.evaluation (answer.Number n) answers)
count-sure code stored live what n answers h =
    let o : Out (List Answer) Value = given_number (world code stored live.context) live.evaluation (answer.Number n) answers in
    state-sure (state_of live answers) o (first-sure (in_state (state_of live answers) o) (given_to code stored live what) h)

-- what waits
pub asked-along : (code : Code) (stored : List Stored) (live : RunState) (w x : Asked) → w ≡ x → SureFor code stored live w → SureFor code stored live x
asked-along code stored live w x e h = subst (λ (o : Asked). SureFor code stored live o) e h

pub waiting-along : (code : Code) (stored : List Stored) (o : Option Waiting) (w : Waiting) → o ≡ Some w → SureWaiting code stored o → SureFor code stored w.live w.asked
waiting-along code stored o w e h = subst (λ (x : Option Waiting). SureWaiting code stored x) e h

at-asked : (code : Code) (stored : List Stored) (left : Left) (live : RunState) (w : Asked) → WaitsFor code stored left live w → ((answers : List Answer) → IsSure (left answers)) → SureFor code stored live w
at-asked code stored left live asked.Begin at h = λ answers. sure-along (left answers) (rest_of code stored task.Run live answers) (at answers) (h answers)
at-asked code stored left live asked.Ban at h = λ answers. sure-along (left (answer.Done ∷ answers)) (rest_of code stored task.Run live answers) (at answer.Done answers) (h (answer.Done ∷ answers))
at-asked code stored left live (asked.Purge what) at h =
    λ n answers. sure-along (left (answer.Number n ∷ answers)) (counted_on code stored live what n answers) (at n answers) (h (answer.Number n ∷ answers))

-- a machine that has this left
pub at-sure : (code : Code) (stored : List Stored) (left : Left) (o : Option Waiting) → WaitsAt code stored left o → ((answers : List Answer) → IsSure (left answers)) → SureWaiting code stored o
at-sure code stored left None at h = tt
at-sure code stored left (Some w) at h = at-asked code stored left w.live w.asked at h

-- what is left of a run that waits, of which nothing else is known
abbrev left_for : Code → List Stored → RunState → Asked → Left
left_for code stored live asked.Begin answers = rest_of code stored task.Run live answers
left_for code stored live asked.Ban [] = rest_of code stored task.Run live []
left_for code stored live asked.Ban (a ∷ answers) = rest_of code stored task.Run live answers
left_for code stored live (asked.Purge what) [] = rest_of code stored task.Run live []
left_for code stored live (asked.Purge what) (a ∷ answers) = counted_on code stored live what (number_of a) answers

waits-left : (code : Code) (stored : List Stored) (live : RunState) (w : Asked) → WaitsFor code stored (left_for code stored live w) live w
waits-left code stored live asked.Begin = λ answers. refl
waits-left code stored live asked.Ban = λ a answers. refl
waits-left code stored live (asked.Purge what) = λ n answers. refl

behind-sure : (code : Code) (stored : List Stored) (live : RunState) (w : Asked) (a : Answer) → SuitsAsked a w → SureFor code stored live w → (answers : List Answer)
    → IsSure (behind_answer a (left_for code stored live w) answers)
behind-sure code stored live asked.Begin answer.Begin fits h answers = h answers
behind-sure code stored live asked.Begin answer.Done fits h answers = absurd fits
behind-sure code stored live asked.Begin (answer.Number n) fits h answers = absurd fits
behind-sure code stored live asked.Ban answer.Begin fits h answers = absurd fits
behind-sure code stored live asked.Ban answer.Done fits h answers = h answers
behind-sure code stored live asked.Ban (answer.Number n) fits h answers = absurd fits
behind-sure code stored live (asked.Purge what) answer.Begin fits h answers = absurd fits
behind-sure code stored live (asked.Purge what) answer.Done fits h answers = absurd fits
behind-sure code stored live (asked.Purge what) (answer.Number n) fits h answers = h n answers

turn-sure : (code : Code) (stored : List Stored) (left : Left) (t : Turn) (m : Machine) → IsTurn code stored left t m → SuitsBehind t m → ((answers : List Answer) → IsSure (left answers))
    → IsSureAt code stored m
turn-sure code stored left (turn.Need wanted) m h s sure = at-sure code stored left m.waiting h.1 sure
turn-sure code stored left (turn.End word c) m h s sure = subst (λ (o : Option Waiting). SureWaiting code stored o) (sym s) tt

-- a turn of a machine that isn't stuck
pub turned-sure : (code : Code) (stored : List Stored) (a : Answer) (o : Option Waiting) (w : Waiting) (t : Turn) (m : Machine) → o ≡ Some w → SuitsWaiting a o → SureWaiting code stored o
    → ((left : Left) → WaitsAt code stored left o → IsTurn code stored (behind_answer a left) t m) → SuitsBehind t m → IsSureAt code stored m
turned-sure code stored a o w t m e fits sure turns suits =
    let left : Left = left_for code stored w.live w.asked in
    let at : WaitsAt code stored left o = subst (λ (x : Option Waiting). WaitsAt code stored left x) (sym e) (waits-left code stored w.live w.asked) in
    turn-sure code stored (behind_answer a left) t m (turns left at) suits
    (behind-sure code stored w.live w.asked a (subst (λ (x : Option Waiting). SuitsWaiting a x) e fits) (waiting-along code stored o w e sure))
