-- What the turns of a machine come to.
use Rattle.std.proofs.Math.Path.{fun_ext}
use Rattle.std.proofs.Common.{◌≡◌, ◌≤◌, ◌<◌, ℕ, ℤ, List, Option, Some, None, option_map, Result, Ok, Err, IfOk, refl, sym, ap, ◌∙◌, subst, arith}
use Rattle.vcl_values.specs.declared.value.Value.{Value}
use Rattle.vmod_host.specs.declared.signature.Stored.{Stored}
use Rattle.vcl_program.specs.declared.code.Code.{Code}
use Rattle.vcl_context.specs.declared.turn.Answer.{Answer}
use Rattle.vcl_context.specs.declared.turn.Answer.TheVariants as answer
use Rattle.vcl_context.specs.declared.turn.Command.TheVariants as command
use Rattle.vcl_context.specs.declared.turn.Turn.{Turn}
use Rattle.vcl_context.specs.declared.turn.Turn.TheVariants as turn
use Rattle.vcl_operands.specs.declared.evaluation.Outcome.{Outcome}
use Rattle.vcl_operands.specs.declared.evaluation.Outcome.TheVariants as outcome
use Rattle.vcl_operands.specs.declared.frame.Frame.{Frame}
use Rattle.vcl_operands.specs.Outs.{Out, and_then}
use Rattle.vcl_operands.specs.Nodes.{world, given_number, came_to}
use Rattle.vcl_eval.specs.declared.finish.Finish.{Finish}
use Rattle.vcl_eval.specs.declared.run_state.RunState.{RunState}
use Rattle.vcl_eval.specs.declared.machine.Asked.{Asked}
use Rattle.vcl_eval.specs.declared.machine.Asked.TheVariants as asked
use Rattle.vcl_eval.specs.declared.machine.Machine.{Machine}
use Rattle.vcl_eval.specs.declared.machine.Waiting.{Waiting}
use Rattle.vcl_eval.specs.declared.task.Stop.{Stop}
use Rattle.vcl_eval.specs.declared.task.Stop.TheVariants as stop
use Rattle.vcl_eval.specs.declared.task.Task.{Task}
use Rattle.vcl_eval.specs.declared.task.Task.TheVariants as task
use Rattle.vcl_eval.specs.States.{in_state}
use Rattle.vcl_eval.specs.RunStates.{state_of, given_to, counted_on, task_after, rest_of, stopped}
use Rattle.vcl_eval.specs.Turns.{Left, WaitsFor, WaitsAt, SuitsAsked, behind_answer, IsTurn, waits_for}
use Rattle.vcl_eval.specs.Weights.{weight, left_asked, left_waiting, StopsWithin, Lessens}

-- what a run comes to behind its answer
abbrev pub Follows : {E : Type 0} → Code → List Stored → Left → Result Stop E → RunState → Type 0
Follows code stored left r new = IfOk r (λ s. (answers : List Answer) → left answers ≡ rest_of code stored (stopped s) new answers)

follows-along : {E : Type 0} (code : Code) (stored : List Stored) (f g : Left) (r : Result Stop E) (new : RunState) → ((answers : List Answer) → f answers ≡ g answers) → Follows code stored g r new
    → Follows code stored f r new
follows-along code stored f g (Ok s) new e h = λ answers. e answers ∙ h answers
follows-along code stored f g (Err z) new e h = tt

-- what is left behind an evaluation
came-on : (code : Code) (stored : List Stored) (live : RunState) (fs : List Frame) (what : Finish) (o : Outcome) (answers : List Answer)
    → and_then (in_state (state_of live answers) (came_to (world code stored live.context) o fs answers)) (given_to code stored live what)
    ≡ rest_of code stored (task_after what o) (record live { evaluation = fs }) answers
came-on code stored live fs what (outcome.Value v) answers = refl
came-on code stored live fs what (outcome.Purge keys soft) answers = refl
came-on code stored live fs what outcome.Fail answers = refl

pub counted-is : (code : Code) (stored : List Stored) (live : RunState) (fs : List Frame) (what : Finish) (o : Outcome) (n : ℤ) (t : Task) → t ≡ task_after what o
    → ((answers : List Answer) → given_number (world code stored live.context) live.evaluation (answer.Number n) answers ≡ came_to (world code stored live.context) o fs answers) → (answers : List Answer)
    → counted_on code stored live what n answers ≡ rest_of code stored t (record live { evaluation = fs }) answers
counted-is code stored live fs what o n t e h answers =
    ap (λ (x : Out (List Answer) Value). and_then (in_state (state_of live answers) x) (given_to code stored live what)) (h answers)
    ∙ came-on code stored live fs what o answers ∙ ap (λ (x : Task). rest_of code stored x (record live { evaluation = fs }) answers) (sym e)

pub counted-follows : {E : Type 0} (code : Code) (stored : List Stored) (live new : RunState) (fs : List Frame) (what : Finish) (o : Outcome) (n : ℤ) (t : Task) (r : Result Stop E) → t ≡ task_after what o
    → ((answers : List Answer) → given_number (world code stored live.context) live.evaluation (answer.Number n) answers ≡ came_to (world code stored live.context) o fs answers)
    → Follows code stored (rest_of code stored t (record live { evaluation = fs })) r new → Follows code stored (counted_on code stored live what n) r new
counted-follows code stored live new fs what o n t r e h =
    follows-along code stored (counted_on code stored live what n) (rest_of code stored t (record live { evaluation = fs })) r new
    (counted-is code stored live fs what o n t e h)

pub begin-answered : {E : Type 0} (code : Code) (stored : List Stored) (left : Left) (a : Answer) (w : Asked) (live new : RunState) (r : Result Stop E) → w ≡ asked.Begin → SuitsAsked a w
    → WaitsFor code stored left live w → Follows code stored (rest_of code stored task.Run live) r new → Follows code stored (behind_answer a left) r new
begin-answered code stored left answer.Begin w live new r e fits h k =
    follows-along code stored (behind_answer answer.Begin left) (rest_of code stored task.Run live) r new (subst (λ (o : Asked). WaitsFor code stored left live o) e h) k
begin-answered code stored left answer.Done w live new r e fits h k = absurd (subst (λ (o : Asked). SuitsAsked answer.Done o) e fits)
begin-answered code stored left (answer.Number n) w live new r e fits h k = absurd (subst (λ (o : Asked). SuitsAsked (answer.Number n) o) e fits)

pub ban-answered : {E : Type 0} (code : Code) (stored : List Stored) (left : Left) (a : Answer) (w : Asked) (live new : RunState) (r : Result Stop E) → w ≡ asked.Ban → SuitsAsked a w
    → WaitsFor code stored left live w → Follows code stored (rest_of code stored task.Run live) r new → Follows code stored (behind_answer a left) r new
ban-answered code stored left answer.Done w live new r e fits h k =
    let at : WaitsFor code stored left live asked.Ban = subst (λ (o : Asked). WaitsFor code stored left live o) e h in
    follows-along code stored (behind_answer answer.Done left) (rest_of code stored task.Run live) r new (λ answers. at answer.Done answers) k
ban-answered code stored left answer.Begin w live new r e fits h k = absurd (subst (λ (o : Asked). SuitsAsked answer.Begin o) e fits)
ban-answered code stored left (answer.Number n) w live new r e fits h k = absurd (subst (λ (o : Asked). SuitsAsked (answer.Number n) o) e fits)

pub purge-answered : {E : Type 0} (code : Code) (stored : List Stored) (left : Left) (a : Answer) (w : Asked) (n : ℤ) (what : Finish) (live new : RunState) (r : Result Stop E) → w ≡ asked.Purge what
    → a ≡ answer.Number n → WaitsFor code stored left live w → Follows code stored (counted_on code stored live what n) r new → Follows code stored (behind_answer a left) r new
purge-answered code stored left a w n what live new r e q h k =
    let at : WaitsFor code stored left live (asked.Purge what) = subst (λ (o : Asked). WaitsFor code stored left live o) e h in
    subst (λ (x : Answer). Follows code stored (behind_answer x left) r new) (sym q)
    (follows-along code stored (behind_answer (answer.Number n) left) (counted_on code stored live what n) r new (λ answers. at n answers) k)

pub purge-suits : (w : Asked) (a : Answer) (what : Finish) → w ≡ asked.Purge what → SuitsAsked a w → ((n : ℤ) → a ≡ answer.Number n → ⊥) → ⊥
purge-suits w answer.Begin what e fits none = subst (λ (o : Asked). SuitsAsked answer.Begin o) e fits
purge-suits w answer.Done what e fits none = subst (λ (o : Asked). SuitsAsked answer.Done o) e fits
purge-suits w (answer.Number n) what e fits none = none n refl

-- the turn behind an answer
pub turn-answered : (code : Code) (stored : List Stored) (left : Left) (a : Answer) (o : Option Waiting) (w new : Waiting) (s : Stop) (t : Turn) (m : Machine) → o ≡ Some w
    → WaitsAt code stored left o → (WaitsFor code stored left w.live w.asked → (answers : List Answer) → behind_answer a left answers ≡ rest_of code stored (stopped s) new.live answers)
    → IsTurn code stored (rest_of code stored (stopped s) new.live) t m → IsTurn code stored (behind_answer a left) t m
turn-answered code stored left a o w new s t m e h run k =
    let at : WaitsFor code stored left w.live w.asked = subst (λ (x : Option Waiting). WaitsAt code stored left x) e h in
    subst (λ (l : Left). IsTurn code stored l t m) (sym (fun_ext (run at))) k

-- how much is left behind an evaluation
after-left : (code : Code) (what : Finish) (o : Outcome) (l : RunState) (fs : List Frame) → weight code (task_after what o) (record l { evaluation = fs }) ≤ left_asked code l (asked.Purge what)
after-left code what (outcome.Value v) l fs = omega arith
after-left code what (outcome.Purge keys soft) l fs = omega arith
after-left code what outcome.Fail l fs = omega arith

lessened : {E : Type 0} (code : Code) (a b : ℕ) (r : Result Stop E) (new : RunState) → a ≤ b → IfOk r (λ s. weight code (stopped s) new ≤ a) → IfOk r (λ s. weight code (stopped s) new ≤ b)
lessened code a b (Ok s) new h k = omega (arith, h, k)
lessened code a b (Err e) new h k = tt

pub counted-left : {E : Type 0} (code : Code) (what : Finish) (o : Outcome) (t : Task) (l new : RunState) (fs : List Frame) (r : Result Stop E) → t ≡ task_after what o
    → IfOk r (λ s. weight code (stopped s) new ≤ weight code t (record l { evaluation = fs })) → IfOk r (λ s. weight code (stopped s) new ≤ left_asked code l (asked.Purge what))
counted-left code what o t l new fs r e h =
    let P : Task → Type 0 = λ x. IfOk r (λ s. weight code (stopped s) new ≤ weight code x (record l { evaluation = fs })) in
    lessened code (weight code (task_after what o) (record l { evaluation = fs })) (left_asked code l (asked.Purge what)) r new (after-left code what o l fs) (subst P e h)

-- behind a ban less is left
pub ban-lessens : (code : Code) (most : ℕ) (s : Stop) (text : List ℕ) (o : Option Waiting) (m : Machine) → s ≡ stop.Ban text → StopsWithin code most s o → m.waiting ≡ option_map (waits_for asked.Ban) o
    → Lessens code most (turn.Need (command.Ban text)) m
ban-lessens code most s text None m q h e = absurd h
ban-lessens code most s text (Some w) m q h e =
    let P : Option Waiting → Type 0 = λ x. left_waiting code x < most in
    let there : weight code (task.Ban text) w.live ≤ most = subst (λ (x : Stop). StopsWithin code most x (Some w)) q h in
    subst P (sym e) (omega (arith, there))
