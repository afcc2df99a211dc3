-- Behind an answer what is left is that of the run with one answer more, and its turn is that of the run.
use Rattle.std.proofs.Math.Path.{fun_ext}
use Rattle.std.proofs.lemmas.Bool.{false≢true}
use Rattle.std.proofs.lemmas.List.{append_assoc, append-nil}
use Rattle.std.proofs.Common.{◌≡◌, ℕ, pos, List, [], ◌∷◌, ◌++◌, Option, Some, None, IsSome, Result, Ok, Err, IfOk, OnOk, refl, sym, ap, subst}
use Rattle.vcl_tree.specs.declared.item.Item.{Item}
use Rattle.vmod_host.specs.declared.signature.Stored.{Stored}
use Rattle.vcl_context.specs.declared.context.Context.{Context}
use Rattle.vcl_language.specs.declared.scope.Subroutine.{Subroutine}
use Rattle.vcl_program.specs.declared.code.Code.{Code}
use Rattle.vcl_context.specs.declared.turn.Answer.{Answer}
use Rattle.vcl_context.specs.declared.turn.Answer.TheVariants as answer
use Rattle.vcl_context.specs.declared.turn.Command.TheVariants as command
use Rattle.vcl_context.specs.declared.turn.Turn.{Turn}
use Rattle.vcl_context.specs.declared.turn.Turn.TheVariants as turn
use Rattle.vcl_operands.specs.Outs.{Out, On, Ends, Asks, Stuck, IsSure}
use Rattle.vcl_eval.specs.declared.machine.Machine.{Machine}
use Rattle.vcl_eval.specs.declared.machine.Waiting.{Waiting}
use Rattle.vcl_eval.specs.Runs.{run_at}
use Rattle.vcl_eval.specs.States.{State}
use Rattle.vcl_eval.specs.Turns.{Left, WaitsAt, IsAt, SureWaiting, EndsAs, IsTurn, behind_answer, Suits, SuitsBehind}
use Rattle.vcl_eval.proofs.Sure.{at-sure}
use Rattle.vcl_eval.specs.Weights.{left_in, Lessens}
use Rattle.vcl_meaning.specs.Meaning.{run_of}
use Rattle.vcl_runs.specs.Runs.{Ran, begun, answered, Awaits, LeavesLess}
use Rattle.vcl_runner.specs.Standing.{left_after, ComesTo, IsTurnOf, StandsWaiting, StandsAt}

-- one answer more
behind-more : (items : List Item) (stored : List Stored) (ran : Ran) (a : Answer) (answers : List Answer)
    → left_after items stored (record ran { answers = ran.answers ++ a ∷ [] }) answers ≡ left_after items stored ran (a ∷ answers)
behind-more items stored ran a answers =
    ap (λ (l : List Answer). run_of items stored ran.subroutine ran.context l) (append_assoc ran.answers (a ∷ []) answers)

pub left-behind : (items : List Item) (stored : List Stored) (ran : Ran) (a : Answer) → left_after items stored (answered a ran) ≡ behind_answer a (left_after items stored ran)
left-behind items stored ran answer.Begin = refl
left-behind items stored ran answer.Done = fun_ext (behind-more items stored ran answer.Done)
left-behind items stored ran (answer.Number n) = fun_ext (behind-more items stored ran (answer.Number n))

-- a machine that waits stands
at-stands : (code : Code) (table : List Stored) (left : Left) (o : Option Waiting) → WaitsAt code table left o → StandsWaiting code table left o
at-stands code table left None h = tt
at-stands code table left (Some w) h = h

-- a run from its beginning, by the code that a program keeps, which does what the text says
pub begun-stands : (code : Code) (items : List Item) (stored table : List Stored) (subroutine : Subroutine) (c : Context) (m : Machine)
    → ((answers : List Answer) → run_of items stored subroutine c answers ≡ run_at code stored subroutine c answers) → table ≡ stored → IsAt code table (run_at code table subroutine c) m
    → ((answers : List Answer) → IsSure (run_of items stored subroutine c answers)) → StandsAt code table (left_after items stored (begun subroutine c)) m
begun-stands code items stored table subroutine c m same f at sure =
    let here : IsAt code table (run_at code stored subroutine c) m = subst (λ (s : List Stored). IsAt code table (run_at code s subroutine c) m) f at in
    let there : IsAt code table (run_of items stored subroutine c) m = subst (λ (l : Left). IsAt code table l m) (sym (fun_ext same)) here in
    (at-stands code table (run_of items stored subroutine c) m.waiting there, sure)

-- what is left behind an answer isn't stuck
sure-behind : (a : Answer) (left : Left) → ((answers : List Answer) → IsSure (left answers)) → (answers : List Answer) → IsSure (behind_answer a left answers)
sure-behind answer.Begin left h answers = h answers
sure-behind answer.Done left h answers = h (answer.Done ∷ answers)
sure-behind (answer.Number n) left h answers = h (answer.Number n ∷ answers)

-- so the machine doesn't
pub stands-sure : (code : Code) (table : List Stored) (left : Left) (o : Option Waiting) → StandsWaiting code table left o → ((answers : List Answer) → IsSure (left answers)) → SureWaiting code table o
stands-sure code table left None h sure = tt
stands-sure code table left (Some w) h sure = at-sure code table left (Some w) h sure

-- a turn
pub stands-at : (code : Code) (table : List Stored) (left : Left) (o : Option Waiting) → IsSome o → StandsWaiting code table left o → WaitsAt code table left o
stands-at code table left None h s = absurd (false≢true h)
stands-at code table left (Some w) h s = s

ends-comes : (o : Out State (Unit {0})) (t : Turn) → EndsAs o t → ComesTo o t
ends-comes (Ends word s) t h = h
ends-comes (On done s) t h = absurd h
ends-comes (Asks wanted) t h = absurd h
ends-comes Stuck t h = absurd h

turn-comes : (code : Code) (table : List Stored) (left : Left) (t : Turn) (m : Machine) → IsTurn code table left t m → ComesTo (left []) t
turn-comes code table left (turn.Need wanted) m h = subst (λ (o : Out State (Unit {0})). ComesTo o (turn.Need wanted)) (sym h.0) refl
turn-comes code table left (turn.End word c) m h = ends-comes (left []) (turn.End word c) (h [])

pub turn-stands : (code : Code) (table : List Stored) (left : Left) (t : Turn) (m : Machine) → IsTurn code table left t m → SuitsBehind t m → ((answers : List Answer) → IsSure (left answers)) → StandsAt code table left m
turn-stands code table left (turn.Need wanted) m h s sure = (at-stands code table left m.waiting h.1, sure)
turn-stands code table left (turn.End word c) m h s sure =
    let P : Option Waiting → Type 0 = λ o. StandsWaiting code table left o × ((answers : List Answer) → IsSure (left answers)) in subst P (sym s) (tt, sure)

pub turn-awaits : (t : Turn) (m : Machine) → SuitsBehind t m → Awaits (λ a. Suits a m) t
turn-awaits (turn.Need (command.Ban text)) m h = h
turn-awaits (turn.Need (command.Xkey keys soft)) m h = λ n low. h (pos n)
turn-awaits (turn.End word c) m h = tt

pub turn-less : (code : Code) (before : ℕ) (t : Turn) (m : Machine) → Lessens code before t m → LeavesLess before (left_in code m) t
turn-less code before (turn.Need (command.Ban text)) m h = h
turn-less code before (turn.Need (command.Xkey keys soft)) m h = tt
turn-less code before (turn.End word c) m h = tt

-- an answer
pub resumed-stands : {E : Type 0} (code : Code) (items : List Item) (stored table : List Stored) (a : Answer) (old new : Machine) (r : Result Turn E)
    → ((left : Left) → IsAt code table left old → IfOk r (λ t. IsTurn code table (behind_answer a left) t new)) → IfOk r (λ t. SuitsBehind t new) → OnOk r (IsSome old.waiting)
    → OnOk r ((ran : Ran) → StandsAt code table (left_after items stored ran) old → StandsAt code table (left_after items stored (answered a ran)) new)
resumed-stands code items stored table a old new (Ok t) turns suits alive =
    λ ran s. subst (λ (l : Left). StandsAt code table l new) (sym (left-behind items stored ran a))
    (turn-stands code table (behind_answer a (left_after items stored ran)) t new
    (turns (left_after items stored ran) (stands-at code table (left_after items stored ran) old.waiting alive s.0)) suits (sure-behind a (left_after items stored ran) s.1))
resumed-stands code items stored table a old new (Err e) turns suits alive = tt

none-behind : (items : List Item) (stored : List Stored) (ran : Ran) → left_after items stored ran [] ≡ run_of items stored ran.subroutine ran.context ran.answers
none-behind items stored ran = ap (λ (l : List Answer). run_of items stored ran.subroutine ran.context l) (append-nil ran.answers)

turns-of : (code : Code) (items : List Item) (stored table : List Stored) (ran : Ran) (a : Answer) (t : Turn) (new : Machine) → IsTurn code table (behind_answer a (left_after items stored ran)) t new
    → IsTurnOf items stored (answered a ran) t
turns-of code items stored table ran a t new here =
    let there : ComesTo (left_after items stored (answered a ran) []) t =
    subst (λ (l : Left). ComesTo (l []) t) (sym (left-behind items stored ran a)) (turn-comes code table (behind_answer a (left_after items stored ran)) t new here) in
    subst (λ (o : Out State (Unit {0})). ComesTo o t) (none-behind items stored (answered a ran)) there

pub resumed-turns : {E : Type 0} (code : Code) (items : List Item) (stored table : List Stored) (a : Answer) (old new : Machine) (r : Result Turn E)
    → ((left : Left) → IsAt code table left old → IfOk r (λ t. IsTurn code table (behind_answer a left) t new)) → OnOk r (IsSome old.waiting)
    → IfOk r (λ t. (ran : Ran) → StandsAt code table (left_after items stored ran) old → IsTurnOf items stored (answered a ran) t)
resumed-turns code items stored table a old new (Ok t) turns alive =
    λ ran s. turns-of code items stored table ran a t new (turns (left_after items stored ran) (stands-at code table (left_after items stored ran) old.waiting alive s.0))
resumed-turns code items stored table a old new (Err e) turns alive = tt

pub resumed-awaits : {E : Type 0} (r : Result Turn E) (new : Machine) → IfOk r (λ t. SuitsBehind t new) → IfOk r (λ t. Awaits (λ a. Suits a new) t)
resumed-awaits (Ok t) new suits = turn-awaits t new suits
resumed-awaits (Err e) new suits = tt

pub resumed-less : {E : Type 0} (code : Code) (before : ℕ) (r : Result Turn E) (new : Machine) → IfOk r (λ t. Lessens code before t new) → IfOk r (λ t. LeavesLess before (left_in code new) t)
resumed-less code before (Ok t) new less = turn-less code before t new less
resumed-less code before (Err e) new less = tt
