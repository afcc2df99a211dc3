-- No statement lessens the count of statements.
use Rattle.std.proofs.Math.Nat.{le_refl}
use Rattle.std.proofs.Common.{◌≤◌, ◌+◌, ℕ, zero, suc, Bool, true, false, List, Option, Some, None, slice_get, nat_lt, length, if◌then◌else◌, arith}
use Rattle.vcl_values.specs.declared.value.Value.{Value}
use Rattle.vcl_values.specs.Values.{truth_of}
use Rattle.vmod_host.specs.declared.signature.Stored.{Stored}
use Rattle.vcl_context.specs.declared.context.Context.{Context}
use Rattle.vcl_code.specs.declared.node.Block.{Block}
use Rattle.vcl_code.specs.declared.node.Block.TheVariants.{End, Then}
use Rattle.vcl_code.specs.declared.node.Branch.{Branch}
use Rattle.vcl_code.specs.declared.node.Choice.{Choice}
use Rattle.vcl_code.specs.declared.node.Choice.TheVariants as choice
use Rattle.vcl_program.specs.declared.code.Code.{Code}
use Rattle.vcl_context.specs.declared.turn.Answer.{Answer}
use Rattle.vcl_context.specs.declared.turn.Command.TheVariants.{Ban}
use Rattle.vcl_context.specs.declared.turn.Return.{Return}
use Rattle.vcl_operands.specs.Outs.{Out, On, Ends, Asks, Stuck, and_then, fail, known_on, ask}
use Rattle.vcl_operands.specs.Nodes.{world, value_at}
use Rattle.vcl_operands.specs.Values.{as_text}
use Rattle.vcl_eval.specs.declared.finish.Finish.{Finish}
use Rattle.vcl_eval.specs.declared.finish.Finish.TheVariants as finish
use Rattle.vcl_eval.specs.declared.finish.Plan.{Plan}
use Rattle.vcl_eval.specs.declared.finish.Plan.TheVariants as plan
use Rattle.vcl_eval.specs.Returns.{plain, with_one, with_two}
use Rattle.vcl_eval.specs.States.{State, Doing, in_state, nothing, set_on, set_due, most_statements, ends_on, ends_due, banned}
use Rattle.vcl_eval.specs.Runs.{block_on, taken_by, condition_of, asked_at, choice_within, choice_at, finished, plan_of, planned, begun_by, block_done, block_within, deepest, block_at, with_operand}

-- where it goes on, at least so many statements were run
abbrev pub AtLeast : {A : Type 0} → ℕ → Out State A → Type 0
AtLeast n (On a s) = n ≤ s.statements
AtLeast n (Ends word s) = Unit {0}
AtLeast n (Asks command) = Unit {0}
AtLeast n Stuck = Unit {0}

abbrev pub Rises : Doing → Type 0
Rises d = (s : State) → AtLeast s.statements (d s)

pub least-then : {A B : Type 0} (n : ℕ) (m : Out State A) (f : A → State → Out State B) → AtLeast n m → ((a : A) (s : State) → n ≤ s.statements → AtLeast n (f a s)) → AtLeast n (and_then m f)
least-then n (On a s) f h k = k a s h
least-then n (Ends word s) f h k = tt
least-then n (Asks command) f h k = tt
least-then n Stuck f h k = tt

pub least-less : {A : Type 0} (n k : ℕ) (m : Out State A) → k ≤ n → AtLeast n m → AtLeast k m
least-less n k (On a s) h p = omega arith
least-less n k (Ends word s) h p = tt
least-less n k (Asks command) h p = tt
least-less n k Stuck h p = tt

-- what rises, from a state with no fewer statements
pub rise-from : (d : Doing) (n : ℕ) (s : State) → Rises d → n ≤ s.statements → AtLeast n (d s)
rise-from d n s r h = least-less s.statements n (d s) h (r s)

in-state-least : {A : Type 0} (s : State) (o : Out (List Answer) A) → AtLeast s.statements (in_state s o)
in-state-least s (On a answers) = le_refl s.statements
in-state-least s (Ends word answers) = tt
in-state-least s (Asks command) = tt
in-state-least s Stuck = tt

operand-rises : (code : Code) (stored : List Stored) (e : ℕ) (next : Value → Doing) → ((v : Value) → Rises (next v)) → Rises (with_operand code stored e next)
operand-rises code stored e next r s =
    least-then s.statements (in_state s (value_at (world code stored s.context) e s.answers)) next (in-state-least s (value_at (world code stored s.context) e s.answers))
    (λ v t h. rise-from (next v) s.statements t (r v) h)

set-rises : (o : Option Context) → Rises (set_on o)
set-rises (Some c) s = le_refl s.statements
set-rises None s = tt

due-rises : (o : Option (Option Context)) → Rises (set_due o)
due-rises (Some o) s = set-rises o s
due-rises None s = tt

ends-rises : (o : Option Return) → Rises (ends_on o)
ends-rises (Some word) s = tt
ends-rises None s = tt

return-rises : (o : Option (Option Return)) → Rises (ends_due o)
return-rises (Some o) s = ends-rises o s
return-rises None s = tt

nothing-rises : Rises nothing
nothing-rises s = le_refl s.statements

known-least : {A : Type 0} (o : Option A) (s : State) → AtLeast s.statements (known_on o s)
known-least (Some a) s = le_refl s.statements
known-least None s = tt

banned-rises : (v : Value) → Rises (banned v)
banned-rises v s =
    least-then s.statements (known_on (as_text v) s) (λ text t. and_then (in_state t (ask (Ban text) t.answers)) (λ answer. nothing)) (known-least (as_text v) s)
    (λ text t h. least-less t.statements s.statements _ h
    (least-then t.statements (in_state t (ask (Ban text) t.answers)) (λ answer. nothing) (in-state-least t (ask (Ban text) t.answers)) (λ answer u k. k)))

taken-rises : (go : ℕ → Doing) (other : Choice → Doing) (b : Option Branch) (t : Option Bool) → ((n : ℕ) → Rises (go n)) → ((c : Choice) → Rises (other c)) → Rises (taken_by go other b t)
taken-rises go other None t r q s = tt
taken-rises go other (Some b) None r q s = tt
taken-rises go other (Some b) (Some true) r q s = r b.block s
taken-rises go other (Some b) (Some false) r q s = q b.otherwise s

asked-rises : (code : Code) (stored : List Stored) (next : Value → Doing) (o : Option ℕ) → ((v : Value) → Rises (next v)) → Rises (asked_at code stored next o)
asked-rises code stored next None r s = tt
asked-rises code stored next (Some e) r s = operand-rises code stored e next r s

choice-rises-within : (d : ℕ) (code : Code) (stored : List Stored) (go : ℕ → Doing) (c : Choice) → ((n : ℕ) → Rises (go n)) → Rises (choice_within d code stored go c)
unfolding choice_within
choice-rises-within d code stored go choice.Nothing r s = le_refl s.statements
choice-rises-within d code stored go (choice.Block b) r s = r b s
choice-rises-within zero code stored go (choice.Branch k) r s = tt
choice-rises-within (suc d) code stored go (choice.Branch k) r s =
    asked-rises code stored (λ v. taken_by go (choice_within d code stored go) (slice_get code.arena.branches k) (truth_of v)) (condition_of code.arena.branches k)
    (λ v. taken-rises go (choice_within d code stored go) (slice_get code.arena.branches k) (truth_of v) r (λ c. choice-rises-within d code stored go c r)) s

choice-rises : (code : Code) (stored : List Stored) (go : ℕ → Doing) (c : Choice) → ((n : ℕ) → Rises (go n)) → Rises (choice_at code stored go c)
unfolding choice_at
choice-rises code stored go c r s = choice-rises-within (length code.arena.branches) code stored go c r s

finish-rises : (code : Code) (stored : List Stored) (go : ℕ → Doing) (what : Finish) (v : Value) → ((n : ℕ) → Rises (go n)) → Rises (finished code stored go what v)
finish-rises code stored go (finish.Assign variable) v r s = due-rises _ s
finish-rises code stored go (finish.Append variable) v r s = due-rises _ s
finish-rises code stored go (finish.AssignField message k) v r s = due-rises _ s
finish-rises code stored go (finish.AppendField message k) v r s = due-rises _ s
finish-rises code stored go finish.HashData v r s = set-rises _ s
finish-rises code stored go finish.Synthetic v r s = set-rises _ s
finish-rises code stored go finish.Ban v r s = banned-rises v s
finish-rises code stored go finish.Forget v r s = le_refl s.statements
finish-rises code stored go (finish.Choose k) v r s =
    taken-rises go (choice_at code stored go) (slice_get code.arena.branches k) (truth_of v) r (λ c. choice-rises code stored go c r) s
finish-rises code stored go (finish.Return word) v r s = return-rises (with_one word v) s
finish-rises code stored go (finish.ReturnFirst word e) v r s = operand-rises code stored e (λ w. ends_due (with_two word v w)) (λ w. return-rises (with_two word v w)) s
finish-rises code stored go (finish.ReturnSecond word v) w r s = return-rises (with_two word v w) s

block-on-rises : (go : ℕ → Doing) (o : Option ℕ) → ((n : ℕ) → Rises (go n)) → Rises (block_on go o)
block-on-rises go (Some b) r s = r b s
block-on-rises go None r s = tt

pub plan-rises : (code : Code) (stored : List Stored) (go : ℕ → Doing) (p : Plan) → ((n : ℕ) → Rises (go n)) → Rises (planned code stored go p)
plan-rises code stored go (plan.Evaluate e what) r s = operand-rises code stored e (finished code stored go what) (λ v. finish-rises code stored go what v r) s
plan-rises code stored go (plan.Unset message k) r s = due-rises _ s
plan-rises code stored go (plan.Call k) r s = block-on-rises go (slice_get code.customs k) r s
plan-rises code stored go (plan.Choose c) r s = choice-rises code stored go c r s
plan-rises code stored go (plan.Return word) r s = return-rises (plain word) s

pub begun-rises : (code : Code) (stored : List Stored) (go : ℕ → Doing) (o : Option Plan) → ((n : ℕ) → Rises (go n)) → Rises (begun_by code stored go o)
begun-rises code stored go (Some p) r s = plan-rises code stored go p r s
begun-rises code stored go None r s = tt

pub counted-rises : (next : Doing) (b : Bool) (s : State) → Rises next → AtLeast s.statements (if b then next (record s { statements = s.statements + 1 }) else fail s)
counted-rises next true s r = rise-from next s.statements (record s { statements = s.statements + 1 }) r (omega arith)
counted-rises next false s r = tt

pub block-done-rises : (code : Code) (stored : List Stored) (go : ℕ → Doing) (b : Option Block) → ((n : ℕ) → Rises (go n)) → Rises (block_done code stored go b)
block-done-rises code stored go None r s = tt
block-done-rises code stored go (Some End) r s = le_refl s.statements
block-done-rises code stored go (Some (Then what next)) r s =
    counted-rises (λ s. and_then (begun_by code stored go (plan_of what) s) (λ done. go next)) (nat_lt s.statements most_statements) s
    (λ t. least-then t.statements (begun_by code stored go (plan_of what) t) (λ done. go next) (begun-rises code stored go (plan_of what) r t)
    (λ done u h. rise-from (go next) t.statements u (r next) h))

pub block-rises : (d : ℕ) (code : Code) (stored : List Stored) (b : ℕ) → Rises (block_within d code stored b)
unfolding block_within
block-rises zero code stored b s = tt
block-rises (suc d) code stored b s = block-done-rises code stored (block_within d code stored) (slice_get code.arena.blocks b) (block-rises d code stored) s

pub at-rises : (code : Code) (stored : List Stored) (b : ℕ) → Rises (block_at code stored b)
unfolding block_at
at-rises code stored b s = block-rises deepest code stored b s
