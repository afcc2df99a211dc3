-- A step of a run changes nothing of what it comes to, and lessens its weight.
use Rattle.std.proofs.lemmas.Bool.Decides.{nat_tests}
use Rattle.std.proofs.lemmas.Option.{slice_get_within}
use Rattle.std.specs.Prelude.{IsSome}
use Rattle.std.proofs.Common.{◌≡◌, ◌≤◌, ◌<◌, ◌+◌, ◌-◌, ◌*◌, ℕ, suc, Bool, true, false, List, [], ◌∷◌, length, Option, Some, None, option_map, option_and_then, slice_get, nat_lt, if◌then◌else◌, refl, sym, ap, ◌∙◌, subst, arith}
use Rattle.vcl_values.specs.declared.value.Value.{Value}
use Rattle.vcl_values.specs.Values.{truth_of}
use Rattle.vmod_host.specs.declared.signature.Stored.{Stored}
use Rattle.vcl_code.specs.declared.node.Action.{Action}
use Rattle.vcl_code.specs.declared.node.Action.TheVariants as action
use Rattle.vcl_code.specs.declared.node.Arguments.TheVariants.{Zero, One, Two, Three, More}
use Rattle.vcl_code.specs.declared.node.Block.{Block}
use Rattle.vcl_code.specs.declared.node.Block.TheVariants.{End, Then}
use Rattle.vcl_code.specs.declared.node.Branch.{Branch}
use Rattle.vcl_code.specs.declared.node.Choice.{Choice}
use Rattle.vcl_code.specs.declared.node.Choice.TheVariants as choice
use Rattle.vcl_program.specs.declared.code.Code.{Code}
use Rattle.vcl_context.specs.Fields.{field_unset}
use Rattle.vcl_context.specs.declared.context.Context.{Context}
use Rattle.vcl_context.specs.declared.turn.Answer.{Answer}
use Rattle.vcl_context.specs.declared.turn.Command.TheVariants.{Ban}
use Rattle.vcl_context.specs.declared.turn.Return.{Return}
use Rattle.vcl_context.specs.declared.turn.Return.TheVariants.{Fail}
use Rattle.vcl_operands.specs.Falls.{ChoicesFall}
use Rattle.vcl_operands.specs.Outs.{Out, Stuck, and_then, fail, known_on, ask, IsSure}
use Rattle.vcl_operands.specs.Values.{as_text}
use Rattle.vcl_operands.proofs.Binds.{bind_bind, sure-along}
use Rattle.vcl_eval.specs.declared.finish.Finish.{Finish}
use Rattle.vcl_eval.specs.declared.finish.Finish.TheVariants as finish
use Rattle.vcl_eval.specs.declared.finish.Plan.{Plan}
use Rattle.vcl_eval.specs.declared.finish.Plan.TheVariants as plan
use Rattle.vcl_eval.specs.declared.run_state.RunState.{RunState}
use Rattle.vcl_eval.specs.declared.task.Task.{Task}
use Rattle.vcl_eval.specs.declared.task.Task.TheVariants as task
use Rattle.vcl_eval.specs.RunStates.{state_of, behind, rest_of, ended}
use Rattle.vcl_eval.specs.Returns.{plain, with_one, with_two}
use Rattle.vcl_eval.specs.Runs.{planned, plan_of, block_on, begun_by, taken_by, choice_at, block_done, block_at, blocks_at}
use Rattle.vcl_eval.specs.Statements.{set_to, field_to, append_to, append_field, key_given, body_given}
use Rattle.vcl_eval.specs.States.{State, in_state, nothing, set_on, set_due, counted, ends_due, most_statements}
use Rattle.vcl_eval.specs.Steps.{Step, step, with_ahead, set_step, stay, banned, chosen_step, taken_step, finished_step, begun_step, block_step, next_step}
use Rattle.vcl_eval.specs.Weights.{weight, run_weight, finish_weight, choice_weight, plan_weight, most_weight}
use Rattle.vcl_eval.proofs.Depths.{block-is, branch-is, branch-none, nothing-is, block-chosen}

-- what is left behind a step, if there is one
abbrev pub behind_step : Code → List Stored → Option Step → List Answer → Out State (Unit {0})
behind_step code stored None answers = Stuck
behind_step code stored (Some next) answers = rest_of code stored next.next next.live answers

-- what is left behind something that is done in a run
abbrev left_behind : Code → List Stored → RunState → Out State (Unit {0}) → Out State (Unit {0})
left_behind code stored live o = and_then o (behind code stored live.ahead)

set-behind : (code : Code) (stored : List Stored) (due : Option (Option Context)) (live : RunState) (answers : List Answer)
    → left_behind code stored live (set_due due (state_of live answers)) ≡ behind_step code stored (option_map (set_step live) due) answers
set-behind code stored None live answers = refl
set-behind code stored (Some None) live answers = refl
set-behind code stored (Some (Some c)) live answers = refl

given-behind : (code : Code) (stored : List Stored) (due : Option Context) (live : RunState) (answers : List Answer)
    → left_behind code stored live (set_on due (state_of live answers)) ≡ behind_step code stored (Some (set_step live due)) answers
given-behind code stored None live answers = refl
given-behind code stored (Some c) live answers = refl

ended-behind : (code : Code) (stored : List Stored) (due : Option (Option Return)) (live : RunState) (answers : List Answer)
    → left_behind code stored live (ends_due due (state_of live answers)) ≡ behind_step code stored (option_map (stay live) (option_map ended due)) answers
ended-behind code stored None live answers = refl
ended-behind code stored (Some None) live answers = refl
ended-behind code stored (Some (Some word)) live answers = refl

banned-behind : (code : Code) (stored : List Stored) (text : Option (List ℕ)) (live : RunState) (answers : List Answer)
    → left_behind code stored live (and_then (known_on text (state_of live answers)) (λ text s. and_then (in_state s (ask (Ban text) s.answers)) (λ answer. nothing)))
    ≡ behind_step code stored (Some (step (banned text) live)) answers
banned-behind code stored None live answers = refl
banned-behind code stored (Some text) live answers = bind_bind (in_state (state_of live answers) (ask (Ban text) answers)) (λ answer. nothing) (behind code stored live.ahead)

chosen-behind : (code : Code) → ChoicesFall code.arena.branches → (stored : List Stored) (other : Choice) (live : RunState) (answers : List Answer)
    → left_behind code stored live (choice_at code stored (block_at code stored) other (state_of live answers)) ≡ behind_step code stored (chosen_step code other live) answers
chosen-behind code falls stored choice.Nothing live answers = ap (left_behind code stored live) (nothing-is code stored (block_at code stored) (state_of live answers))
chosen-behind code falls stored (choice.Block b) live answers = ap (left_behind code stored live) (block-chosen code stored (block_at code stored) b (state_of live answers))
chosen-behind code falls stored (choice.Branch k) live answers = by-branch (slice_get code.arena.branches k) refl
  where
    by-branch : (o : Option Branch) → slice_get code.arena.branches k ≡ o
        → left_behind code stored live (choice_at code stored (block_at code stored) (choice.Branch k) (state_of live answers))
        ≡ behind_step code stored (option_map (λ (b : Branch). step (task.Evaluate b.condition (finish.Choose k)) live) o) answers
    by-branch None e = ap (left_behind code stored live) (branch-none code stored (block_at code stored) k (state_of live answers) e)
    by-branch (Some b) e = ap (left_behind code stored live) (branch-is code falls stored (block_at code stored) k b (state_of live answers) e)

taken-behind : (code : Code) → ChoicesFall code.arena.branches → (stored : List Stored) (b : Option Branch) (truth : Option Bool) (live : RunState) (answers : List Answer)
    → left_behind code stored live (taken_by (block_at code stored) (choice_at code stored (block_at code stored)) b truth (state_of live answers))
    ≡ behind_step code stored (taken_step code b truth live) answers
taken-behind code falls stored None truth live answers = refl
taken-behind code falls stored (Some b) None live answers = refl
taken-behind code falls stored (Some b) (Some true) live answers = refl
taken-behind code falls stored (Some b) (Some false) live answers = chosen-behind code falls stored b.otherwise live answers

-- what is done with an expression's value
pub finished-behind : (code : Code) → ChoicesFall code.arena.branches → (stored : List Stored) (what : Finish) (v : Value) (live : RunState) (answers : List Answer)
    → rest_of code stored (task.Finish what v) live answers ≡ behind_step code stored (finished_step code what v live) answers
finished-behind code falls stored (finish.Assign variable) v live answers = set-behind code stored (set_to variable v live.context) live answers
finished-behind code falls stored (finish.Append variable) v live answers = set-behind code stored (append_to variable v live.context) live answers
finished-behind code falls stored (finish.AssignField message k) v live answers =
    set-behind code stored (option_and_then (λ name. field_to message name v live.context) (slice_get code.arena.texts k)) live answers
finished-behind code falls stored (finish.AppendField message k) v live answers =
    set-behind code stored (option_and_then (λ name. append_field message name v live.context) (slice_get code.arena.texts k)) live answers
finished-behind code falls stored finish.HashData v live answers = given-behind code stored (key_given v live.context) live answers
finished-behind code falls stored finish.Synthetic v live answers = given-behind code stored (body_given v live.context) live answers
finished-behind code falls stored finish.Ban v live answers = banned-behind code stored (as_text v) live answers
finished-behind code falls stored finish.Forget v live answers = refl
finished-behind code falls stored (finish.Choose k) v live answers = taken-behind code falls stored (slice_get code.arena.branches k) (truth_of v) live answers
finished-behind code falls stored (finish.Return word) v live answers = ended-behind code stored (with_one word v) live answers
finished-behind code falls stored (finish.ReturnFirst word e) v live answers = refl
finished-behind code falls stored (finish.ReturnSecond word first) v live answers = ended-behind code stored (with_two word first v) live answers

-- a statement
unset-behind : (code : Code) (stored : List Stored) (name : Option (List ℕ)) (due : List ℕ → Context) (live : RunState) (answers : List Answer)
    → left_behind code stored live (set_due (option_map (λ n. Some (due n)) name) (state_of live answers))
    ≡ behind_step code stored (option_map (λ n. step task.Run (record live { context = due n })) name) answers
unset-behind code stored None due live answers = refl
unset-behind code stored (Some name) due live answers = refl

call-behind : (code : Code) (stored : List Stored) (block : Option ℕ) (live : RunState) (answers : List Answer)
    → left_behind code stored live (block_on (block_at code stored) block (state_of live answers))
    ≡ behind_step code stored (option_map (λ b. step task.Run (with_ahead live (b ∷ live.ahead))) block) answers
call-behind code stored None live answers = refl
call-behind code stored (Some b) live answers = refl

begun-behind : (code : Code) → ChoicesFall code.arena.branches → (stored : List Stored) (p : Plan) (live : RunState) (answers : List Answer)
    → left_behind code stored live (planned code stored (block_at code stored) p (state_of live answers)) ≡ behind_step code stored (begun_step code p live) answers
begun-behind code falls stored (plan.Evaluate e what) live answers = refl
begun-behind code falls stored (plan.Unset message k) live answers = unset-behind code stored (slice_get code.arena.texts k) (λ name. field_unset message name live.context) live answers
begun-behind code falls stored (plan.Call k) live answers = call-behind code stored (slice_get code.customs k) live answers
begun-behind code falls stored (plan.Choose other) live answers = chosen-behind code falls stored other live answers
begun-behind code falls stored (plan.Return word) live answers = ended-behind code stored (plain word) live answers

-- the run as one more statement is counted, before the block behind it
abbrev pub counted_live : ℕ → RunState → RunState
counted_live next live = record live { statements = live.statements + 1; ahead = next ∷ live.ahead }

planned-behind : (code : Code) → ChoicesFall code.arena.branches → (stored : List Stored) (p : Option Plan) (next : ℕ) (live : RunState) (answers : List Answer)
    → and_then (begun_by code stored (block_at code stored) p (state_of (counted_live next live) answers)) (behind code stored (next ∷ live.ahead))
    ≡ behind_step code stored (option_and_then (λ p. begun_step code p (counted_live next live)) p) answers
planned-behind code falls stored None next live answers = refl
planned-behind code falls stored (Some p) next live answers = begun-behind code falls stored p (counted_live next live) answers

counted-behind : (code : Code) → ChoicesFall code.arena.branches → (stored : List Stored) (what : Action) (next : ℕ) (room : Bool) (live : RunState) (answers : List Answer)
    → left_behind code stored live
    (if room then and_then (begun_by code stored (block_at code stored) (plan_of what) (state_of (counted_live next live) answers)) (λ done. block_at code stored next) else fail (state_of live answers))
    ≡ behind_step code stored (if room then option_and_then (λ p. begun_step code p (counted_live next live)) (plan_of what) else Some (step (task.End Fail) live)) answers
counted-behind code falls stored what next true live answers =
    bind_bind (begun_by code stored (block_at code stored) (plan_of what) (state_of (counted_live next live) answers)) (λ done. block_at code stored next) (behind code stored live.ahead)
    ∙ planned-behind code falls stored (plan_of what) next live answers
counted-behind code falls stored what next false live answers = refl

block-behind : (code : Code) → ChoicesFall code.arena.branches → (stored : List Stored) (b : Option Block) (live : RunState) (answers : List Answer)
    → left_behind code stored live (block_done code stored (block_at code stored) b (state_of live answers)) ≡ behind_step code stored (block_step code b live) answers
block-behind code falls stored None live answers = refl
block-behind code falls stored (Some End) live answers = refl
block-behind code falls stored (Some (Then what next)) live answers = counted-behind code falls stored what next (nat_lt live.statements most_statements) live answers

-- the block on top
pub next-behind : (code : Code) → ChoicesFall code.arena.branches → (stored : List Stored) (blocks : List ℕ) (live : RunState) (answers : List Answer)
    → blocks_at code stored blocks (state_of live answers) ≡ behind_step code stored (next_step code blocks live) answers
next-behind code falls stored [] live answers = refl
next-behind code falls stored (b ∷ bs) live answers =
    ap (λ (o : Out State (Unit {0})). and_then o (behind code stored bs)) (block-is code stored b (state_of live answers))
    ∙ block-behind code falls stored (slice_get code.arena.blocks b) (with_ahead live bs) answers

-- what isn't stuck has a step
pub step-sure : (code : Code) (stored : List Stored) (o : Option Step) (x : Out State (Unit {0})) (answers : List Answer) → x ≡ behind_step code stored o answers → IsSure x → IsSome o
step-sure code stored (Some next) x answers e h = refl
step-sure code stored None x answers e h = absurd (sure-along x Stuck e h)

-- the rest of a run that a step has come to
pub stepped : (code : Code) (stored : List Stored) (o : Option Step) (x : Out State (Unit {0})) (next : Task) (new : RunState) (answers : List Answer)
    → x ≡ behind_step code stored o answers → o ≡ Some (step next new) → x ≡ rest_of code stored next new answers
stepped code stored o x next new answers e h = e ∙ ap (λ (p : Option Step). behind_step code stored p answers) h

-- a step within a statement: no more than so much is left behind it, without the statements that may still run
abbrev Within : ℕ → ℕ → Option Step → Type 0
Within most count None = Unit {0}
Within most count (Some next) = (run_weight next.next next.live ≤ most) × (next.live.statements ≡ count)

within-more : (m n count : ℕ) (o : Option Step) → m ≤ n → Within m count o → Within n count o
within-more m n count None h w = tt
within-more m n count (Some next) h w = (omega (arith, h, w.0), w.1)

set-within : (n : ℕ) (due : Option (Option Context)) (live : RunState) → Within (suc n + length live.ahead) live.statements (option_map (set_step live) due)
set-within n None live = tt
set-within n (Some None) live = (omega arith, refl)
set-within n (Some (Some c)) live = (omega arith, refl)

given-within : (n : ℕ) (due : Option Context) (live : RunState) → Within (suc n + length live.ahead) live.statements (Some (set_step live due))
given-within n None live = (omega arith, refl)
given-within n (Some c) live = (omega arith, refl)

ended-within : (n : ℕ) (due : Option (Option Return)) (live : RunState) → Within (n + length live.ahead) live.statements (option_map (stay live) (option_map ended due))
ended-within n None live = tt
ended-within n (Some None) live = (omega arith, refl)
ended-within n (Some (Some word)) live = (omega arith, refl)

chosen-within : (code : Code) (other : Choice) (live : RunState) → Within (choice_weight other + length live.ahead) live.statements (chosen_step code other live)
chosen-within code choice.Nothing live = (omega arith, refl)
chosen-within code (choice.Block b) live = (omega arith, refl)
chosen-within code (choice.Branch k) live = by-branch (slice_get code.arena.branches k)
  where
    by-branch : (o : Option Branch) → Within (choice_weight (choice.Branch k) + length live.ahead) live.statements (option_map (λ (b : Branch). step (task.Evaluate b.condition (finish.Choose k)) live) o)
    by-branch None = tt
    by-branch (Some b) = (omega arith, refl)

-- a branch of the text weighs no more than the most, and what is taken otherwise weighs less than the branch
chosen-most : (code : Code) (other : Choice) (live : RunState) → Within (most_weight code + length live.ahead) live.statements (chosen_step code other live)
chosen-most code choice.Nothing live = (omega arith, refl)
chosen-most code (choice.Block b) live = (omega arith, refl)
chosen-most code (choice.Branch k) live = by-branch (slice_get code.arena.branches k) refl
  where
    by-branch : (o : Option Branch) → slice_get code.arena.branches k ≡ o
        → Within (most_weight code + length live.ahead) live.statements (option_map (λ (b : Branch). step (task.Evaluate b.condition (finish.Choose k)) live) o)
    by-branch None e = tt
    by-branch (Some b) e = let low : k < length code.arena.branches = slice_get_within code.arena.branches k b e in (omega (arith, low), refl)

otherwise-lighter : (code : Code) → ChoicesFall code.arena.branches → (k : ℕ) (b : Branch) → slice_get code.arena.branches k ≡ Some b → choice_weight b.otherwise ≤ 2 + (3 * k + 3)
otherwise-lighter code falls k b e = by-choice b.otherwise refl
  where
    by-choice : (c : Choice) → b.otherwise ≡ c → choice_weight c ≤ 2 + (3 * k + 3)
    by-choice choice.Nothing q = omega arith
    by-choice (choice.Block j) q = omega arith
    by-choice (choice.Branch j) q = let low : j < k = falls k j b e q in omega arith

taken-within : (code : Code) → ChoicesFall code.arena.branches → (k : ℕ) (b : Option Branch) (truth : Option Bool) (live : RunState) → slice_get code.arena.branches k ≡ b
    → Within (2 + (3 * k + 3) + length live.ahead) live.statements (taken_step code b truth live)
taken-within code falls k None truth live e = tt
taken-within code falls k (Some b) None live e = tt
taken-within code falls k (Some b) (Some true) live e = (omega arith, refl)
taken-within code falls k (Some b) (Some false) live e =
    within-more (choice_weight b.otherwise + length live.ahead) (2 + (3 * k + 3) + length live.ahead) live.statements (chosen_step code b.otherwise live)
    (omega (arith, otherwise-lighter code falls k b e)) (chosen-within code b.otherwise live)

banned-within : (text : Option (List ℕ)) (live : RunState) → Within (2 + length live.ahead) live.statements (Some (step (banned text) live))
banned-within None live = (omega arith, refl)
banned-within (Some text) live = (omega arith, refl)

finished-within : (code : Code) → ChoicesFall code.arena.branches → (what : Finish) (v : Value) (live : RunState)
    → Within (2 + finish_weight what + length live.ahead) live.statements (finished_step code what v live)
finished-within code falls (finish.Assign variable) v live = set-within 1 (set_to variable v live.context) live
finished-within code falls (finish.Append variable) v live = set-within 1 (append_to variable v live.context) live
finished-within code falls (finish.AssignField message k) v live = set-within 1 (option_and_then (λ name. field_to message name v live.context) (slice_get code.arena.texts k)) live
finished-within code falls (finish.AppendField message k) v live = set-within 1 (option_and_then (λ name. append_field message name v live.context) (slice_get code.arena.texts k)) live
finished-within code falls finish.HashData v live = given-within 1 (key_given v live.context) live
finished-within code falls finish.Synthetic v live = given-within 1 (body_given v live.context) live
finished-within code falls finish.Ban v live = banned-within (as_text v) live
finished-within code falls finish.Forget v live = (omega arith, refl)
finished-within code falls (finish.Choose k) v live = taken-within code falls k (slice_get code.arena.branches k) (truth_of v) live refl
finished-within code falls (finish.Return word) v live = ended-within 2 (with_one word v) live
finished-within code falls (finish.ReturnFirst word e) v live = (omega arith, refl)
finished-within code falls (finish.ReturnSecond word first) v live = ended-within 2 (with_two word first v) live

unset-within : (n : ℕ) (name : Option (List ℕ)) (due : List ℕ → Context) (live : RunState) → 1 ≤ n
    → Within (n + length live.ahead) live.statements (option_map (λ m. step task.Run (record live { context = due m })) name)
unset-within n None due live h = tt
unset-within n (Some name) due live h = (omega (arith, h), refl)

call-within : (n : ℕ) (block : Option ℕ) (live : RunState) → 2 ≤ n → Within (n + length live.ahead) live.statements (option_map (λ b. step task.Run (with_ahead live (b ∷ live.ahead))) block)
call-within n None live h = tt
call-within n (Some b) live h = (omega (arith, h), refl)

-- a plan of a statement weighs no more than the most
abbrev PlanWithin : Code → Option Plan → Type 0
PlanWithin code None = Unit {0}
PlanWithin code (Some p) = plan_weight code p ≤ most_weight code

plan-within : (code : Code) (what : Action) → PlanWithin code (plan_of what)
plan-within code (action.Return word Zero) = omega arith
plan-within code (action.Return word (One e)) = omega arith
plan-within code (action.Return word (Two e f)) = omega arith
plan-within code (action.Return word (Three e f g)) = tt
plan-within code (action.Return word More) = tt
plan-within code action.Absent = tt
plan-within code _ = omega arith

begun-within : (code : Code) (p : Plan) (live : RunState) → Within (plan_weight code p + length live.ahead) live.statements (begun_step code p live)
begun-within code (plan.Evaluate e what) live = (omega arith, refl)
begun-within code (plan.Unset message k) live = unset-within (most_weight code) (slice_get code.arena.texts k) (λ name. field_unset message name live.context) live (omega arith)
begun-within code (plan.Call k) live = call-within (most_weight code) (slice_get code.customs k) live (omega arith)
begun-within code (plan.Choose other) live = chosen-most code other live
begun-within code (plan.Return word) live = ended-within (most_weight code) (plain word) live

planned-within : (code : Code) (p : Option Plan) (live : RunState) → PlanWithin code p → Within (most_weight code + length live.ahead) live.statements (option_and_then (λ p. begun_step code p live) p)
planned-within code None live h = tt
planned-within code (Some p) live h =
    within-more (plan_weight code p + length live.ahead) (most_weight code + length live.ahead) live.statements (begun_step code p live) (omega (arith, h)) (begun-within code p live)

-- weights
abbrev pub LessBehind : Code → ℕ → Option Step → Type 0
LessBehind code n None = Unit {0}
LessBehind code n (Some next) = weight code next.next next.live < n

pub less-behind : (code : Code) (n : ℕ) (o : Option Step) (next : Task) (new : RunState) → LessBehind code n o → o ≡ Some (step next new) → weight code next new < n
less-behind code n o next new h e = subst (λ (p : Option Step). LessBehind code n p) e h

still : (code : Code) (m count : ℕ) (o : Option Step) → Within m count o → LessBehind code (suc (m + (most_statements - count) * (most_weight code + 2))) o
still code m count None w = tt
still code m count (Some next) w =
    let P : ℕ → Type 0 = λ n. run_weight next.next next.live + (most_statements - next.live.statements) * (most_weight code + 2) < suc (m + (most_statements - n) * (most_weight code + 2)) in
    subst P w.1 (on-both (run_weight next.next next.live) m ((most_statements - next.live.statements) * (most_weight code + 2)) w.0)
  where
    on-both : (a b c : ℕ) → a ≤ b → a + c < suc (b + c)
    on-both a b c h = omega arith

less-more : (code : Code) (m n : ℕ) (o : Option Step) → m ≤ n → LessBehind code m o → LessBehind code n o
less-more code m n None h w = tt
less-more code m n (Some next) h w = omega (arith, h, w)

pub finished-less : (code : Code) → ChoicesFall code.arena.branches → (what : Finish) (v : Value) (live : RunState)
    → LessBehind code (weight code (task.Finish what v) live) (finished_step code what v live)
finished-less code falls what v live =
    less-more code (suc (2 + finish_weight what + length live.ahead + (most_statements - live.statements) * (most_weight code + 2))) (weight code (task.Finish what v) live) (finished_step code what v live)
    (same (finish_weight what) (length live.ahead) ((most_statements - live.statements) * (most_weight code + 2)))
    (still code (2 + finish_weight what + length live.ahead) live.statements (finished_step code what v live) (finished-within code falls what v live))
  where
    same : (a b c : ℕ) → suc (2 + a + b + c) ≤ 3 + a + b + c
    same a b c = omega arith

-- one statement fewer may run
spent : (ahead most m n : ℕ) → n ≡ suc m → suc (most + suc ahead + m * (most + 2)) ≤ 1 + suc ahead + n * (most + 2)
spent ahead most m n e = subst (λ (x : ℕ). suc (most + suc ahead + m * (most + 2)) ≤ 1 + suc ahead + x * (most + 2)) (sym e) (omega arith)

counted-less : (code : Code) (what : Action) (next : ℕ) (live : RunState) (room : Bool) → nat_lt live.statements most_statements ≡ room
    → LessBehind code (1 + suc (length live.ahead) + (most_statements - live.statements) * (most_weight code + 2))
    (if room then option_and_then (λ p. begun_step code p (counted_live next live)) (plan_of what) else Some (step (task.End Fail) live))
counted-less code what next live true e =
    less-more code (suc (most_weight code + suc (length live.ahead) + (most_statements - (live.statements + 1)) * (most_weight code + 2)))
    (1 + suc (length live.ahead) + (most_statements - live.statements) * (most_weight code + 2)) (option_and_then (λ p. begun_step code p (counted_live next live)) (plan_of what))
    (spent (length live.ahead) (most_weight code) (most_statements - (live.statements + 1)) (most_statements - live.statements) (one-more live.statements (below live.statements e)))
    (still code (most_weight code + suc (length live.ahead)) (live.statements + 1) (option_and_then (λ p. begun_step code p (counted_live next live)) (plan_of what))
    (planned-within code (plan_of what) (counted_live next live) (plan-within code what)))
  where
    below : (n : ℕ) → nat_lt n most_statements ≡ true → n < most_statements
    below n h = grind (arith, nat_tests)

    one-more : (n : ℕ) → n < most_statements → most_statements - n ≡ suc (most_statements - (n + 1))
    one-more n h = omega arith
counted-less code what next live false e = over (length live.ahead) ((most_statements - live.statements) * (most_weight code + 2))
  where
    over : (a b : ℕ) → 0 + a + b < 1 + suc a + b
    over a b = omega arith

block-less : (code : Code) (b : Option Block) (live : RunState) → LessBehind code (1 + suc (length live.ahead) + (most_statements - live.statements) * (most_weight code + 2)) (block_step code b live)
block-less code None live = tt
block-less code (Some End) live = fewer (length live.ahead) ((most_statements - live.statements) * (most_weight code + 2))
  where
    fewer : (a b : ℕ) → 1 + a + b < 1 + suc a + b
    fewer a b = omega arith
block-less code (Some (Then what next)) live = counted-less code what next live (nat_lt live.statements most_statements) refl

pub next-less : (code : Code) (blocks : List ℕ) (live : RunState)
    → LessBehind code (1 + length blocks + (most_statements - live.statements) * (most_weight code + 2)) (next_step code blocks live)
next-less code [] live = none ((most_statements - live.statements) * (most_weight code + 2))
  where
    none : (b : ℕ) → 0 + 0 + b < 1 + 0 + b
    none b = omega arith
next-less code (b ∷ bs) live = block-less code (slice_get code.arena.blocks b) (with_ahead live bs)

-- where a run is, of which nothing was changed since it began
pub record Since (code : Code) (stored : List Stored) (first : Task) (start : RunState) (next : Task) (live : RunState) : Type 0 where
  pub same : (answers : List Answer) → rest_of code stored first start answers ≡ rest_of code stored next live answers
  pub less : weight code next live ≤ weight code first start

-- by a step that is its task's
pub record IsStepOf (code : Code) (stored : List Stored) (next : Task) (live : RunState) (o : Option Step) : Type 0 where
  pub keeps : (answers : List Answer) → rest_of code stored next live answers ≡ behind_step code stored o answers
  pub less : LessBehind code (weight code next live) o

pub run-step : (code : Code) → ChoicesFall code.arena.branches → (stored : List Stored) (t : Task) (live : RunState) → t ≡ task.Run → IsStepOf code stored t live (next_step code live.ahead live)
run-step code falls stored t live e =
    let P : Task → Type 0 = λ x. IsStepOf code stored x live (next_step code live.ahead live) in
    subst P (sym e) (record { keeps = next-behind code falls stored live.ahead live; less = next-less code live.ahead live })

pub finish-step : (code : Code) → ChoicesFall code.arena.branches → (stored : List Stored) (t : Task) (what : Finish) (v : Value) (live : RunState) → t ≡ task.Finish what v
    → IsStepOf code stored t live (finished_step code what v live)
finish-step code falls stored t what v live e =
    let P : Task → Type 0 = λ x. IsStepOf code stored x live (finished_step code what v live) in
    subst P (sym e) (record { keeps = finished-behind code falls stored what v live; less = finished-less code falls what v live })

pub since-sure : (code : Code) (stored : List Stored) (first t : Task) (start live : RunState) (o : Option Step) → Since code stored first start t live → IsStepOf code stored t live o
    → ((answers : List Answer) → IsSure (rest_of code stored first start answers)) → IsSome o
since-sure code stored first t start live o since is h = step-sure code stored o (rest_of code stored first start []) [] (since.same [] ∙ is.keeps []) (h [])

pub since-step : (code : Code) (stored : List Stored) (first t next : Task) (start live new : RunState) (o : Option Step) → Since code stored first start t live → IsStepOf code stored t live o
    → o ≡ Some (step next new) → Since code stored first start next new
since-step code stored first t next start live new o since is e =
    let low : weight code next new < weight code t live = less-behind code (weight code t live) o next new is.less e in
    record { same = λ answers. stepped code stored o (rest_of code stored first start answers) next new answers (since.same answers ∙ is.keeps answers) e; less = omega (arith, low, since.less) }

pub step-less : (code : Code) (stored : List Stored) (t next : Task) (live new : RunState) (o : Option Step) → IsStepOf code stored t live o → o ≡ Some (step next new)
    → weight code next new < weight code t live
step-less code stored t next live new o is e = less-behind code (weight code t live) o next new is.less e

-- by another task that is the same
pub since-task : (code : Code) (stored : List Stored) (first t u : Task) (start live : RunState) → Since code stored first start t live → t ≡ u → Since code stored first start u live
since-task code stored first t u start live since e = subst (λ (x : Task). Since code stored first start x live) e since

pub task-sure : (code : Code) (stored : List Stored) (first t u : Task) (start live : RunState) → Since code stored first start t live → t ≡ u
    → ((answers : List Answer) → IsSure (rest_of code stored first start answers)) → (answers : List Answer) → IsSure (rest_of code stored u live answers)
task-sure code stored first t u start live since e h answers =
    sure-along (rest_of code stored first start answers) (rest_of code stored u live answers) (since.same answers ∙ ap (λ (x : Task). rest_of code stored x live answers) e) (h answers)

pub since-on : (code : Code) (stored : List Stored) (first t u next : Task) (start live new : RunState) → Since code stored first start t live → t ≡ u
    → ((answers : List Answer) → rest_of code stored u live answers ≡ rest_of code stored next new answers) → weight code next new < weight code u live → Since code stored first start next new
since-on code stored first t u next start live new since e value low =
    let there : Since code stored first start u live = since-task code stored first t u start live since e in
    record { same = λ answers. there.same answers ∙ value answers; less = omega (arith, low, there.less) }
