-- How deep blocks may nest doesn't matter where statements are counted out before.
use Rattle.std.proofs.Math.Nat.{le_refl}
use Rattle.std.proofs.lemmas.Bool.Decides.{nat_tests}
use Rattle.std.proofs.Common.{◌≡◌, ◌≤◌, ◌<◌, ◌+◌, ℕ, zero, suc, Bool, true, false, List, Option, Some, None, option_map, slice_get, nat_lt, length, if◌then◌else◌, refl, ap, ◌∙◌, arith}
use Rattle.std.proofs.lemmas.Option.{slice_get_within}
use Rattle.vcl_values.specs.declared.value.Value.{Value}
use Rattle.vcl_values.specs.Values.{truth_of}
use Rattle.vmod_host.specs.declared.signature.Stored.{Stored}
use Rattle.vcl_code.specs.declared.node.Block.{Block}
use Rattle.vcl_code.specs.declared.node.Block.TheVariants.{End, Then}
use Rattle.vcl_code.specs.declared.node.Branch.{Branch}
use Rattle.vcl_code.specs.declared.node.Choice.{Choice}
use Rattle.vcl_code.specs.declared.node.Choice.TheVariants as choice
use Rattle.vcl_program.specs.declared.code.Code.{Code}
use Rattle.vcl_context.specs.declared.turn.Answer.{Answer}
use Rattle.vcl_operands.specs.Falls.{ChoicesFall}
use Rattle.vcl_operands.specs.Outs.{Out, On, Ends, Asks, Stuck, and_then, fail}
use Rattle.vcl_operands.specs.Nodes.{world, value_at}
use Rattle.vcl_eval.specs.declared.finish.Finish.{Finish}
use Rattle.vcl_eval.specs.declared.finish.Finish.TheVariants as finish
use Rattle.vcl_eval.specs.declared.finish.Plan.{Plan}
use Rattle.vcl_eval.specs.declared.finish.Plan.TheVariants as plan
use Rattle.vcl_eval.specs.States.{State, Doing, in_state, most_statements}
use Rattle.vcl_eval.specs.Runs.{block_on, taken_by, condition_of, asked_at, choice_within, choice_at, finished, plan_of, planned, begun_by, block_done, block_within, deepest, block_at, with_operand}
use Rattle.vcl_eval.proofs.Rises.{AtLeast, Rises, begun-rises, block-rises}

-- the same from so many statements on
abbrev pub SameFrom : ℕ → Doing → Doing → Type 0
SameFrom k d e = (s : State) → k ≤ s.statements → d s ≡ e s

pub then-same : {A B : Type 0} (k : ℕ) (m : Out State A) (f g : A → State → Out State B) → AtLeast k m → ((a : A) (s : State) → k ≤ s.statements → f a s ≡ g a s) → and_then m f ≡ and_then m g
then-same k (On a s) f g h e = e a s h
then-same k (Ends word s) f g h e = refl
then-same k (Asks command) f g h e = refl
then-same k Stuck f g h e = refl

pub in-state-same : (k : ℕ) (s : State) (o : Out (List Answer) Value) (f g : Value → Doing) → k ≤ s.statements → ((v : Value) → SameFrom k (f v) (g v)) → and_then (in_state s o) f ≡ and_then (in_state s o) g
in-state-same k s (On v answers) f g h e = e v (record s { answers = answers }) h
in-state-same k s (Ends word answers) f g h e = refl
in-state-same k s (Asks command) f g h e = refl
in-state-same k s Stuck f g h e = refl

operand-same : (k : ℕ) (code : Code) (stored : List Stored) (e : ℕ) (f g : Value → Doing) → ((v : Value) → SameFrom k (f v) (g v)) → SameFrom k (with_operand code stored e f) (with_operand code stored e g)
operand-same k code stored e f g h s low = in-state-same k s (value_at (world code stored s.context) e s.answers) f g low h

taken-same : (k : ℕ) (f g : ℕ → Doing) (p q : Choice → Doing) (b : Option Branch) (t : Option Bool) → ((n : ℕ) → SameFrom k (f n) (g n)) → ((c : Branch) → b ≡ Some c → SameFrom k (p c.otherwise) (q c.otherwise))
    → SameFrom k (taken_by f p b t) (taken_by g q b t)
taken-same k f g p q None t h e s low = refl
taken-same k f g p q (Some b) None h e s low = refl
taken-same k f g p q (Some b) (Some true) h e s low = h b.block s low
taken-same k f g p q (Some b) (Some false) h e s low = e b refl s low

asked-same : (k : ℕ) (code : Code) (stored : List Stored) (f g : Value → Doing) (o : Option ℕ) → ((v : Value) → SameFrom k (f v) (g v)) → SameFrom k (asked_at code stored f o) (asked_at code stored g o)
asked-same k code stored f g None h s low = refl
asked-same k code stored f g (Some e) h s low = operand-same k code stored e f g h s low

choice-same-within : (d k : ℕ) (code : Code) (stored : List Stored) (f g : ℕ → Doing) (c : Choice) → ((n : ℕ) → SameFrom k (f n) (g n)) → SameFrom k (choice_within d code stored f c) (choice_within d code stored g c)
unfolding choice_within
choice-same-within d k code stored f g choice.Nothing h s low = refl
choice-same-within d k code stored f g (choice.Block b) h s low = h b s low
choice-same-within zero k code stored f g (choice.Branch j) h s low = refl
choice-same-within (suc d) k code stored f g (choice.Branch j) h s low =
    asked-same k code stored (λ v. taken_by f (choice_within d code stored f) (slice_get code.arena.branches j) (truth_of v))
    (λ v. taken_by g (choice_within d code stored g) (slice_get code.arena.branches j) (truth_of v)) (condition_of code.arena.branches j)
    (λ v. taken-same k f g (choice_within d code stored f) (choice_within d code stored g) (slice_get code.arena.branches j) (truth_of v) h
    (λ b e. choice-same-within d k code stored f g b.otherwise h)) s low

choice-same : (k : ℕ) (code : Code) (stored : List Stored) (f g : ℕ → Doing) (c : Choice) → ((n : ℕ) → SameFrom k (f n) (g n)) → SameFrom k (choice_at code stored f c) (choice_at code stored g c)
unfolding choice_at
choice-same k code stored f g c h s low = choice-same-within (length code.arena.branches) k code stored f g c h s low

finish-same : (k : ℕ) (code : Code) (stored : List Stored) (f g : ℕ → Doing) (what : Finish) (v : Value) → ((n : ℕ) → SameFrom k (f n) (g n))
    → SameFrom k (finished code stored f what v) (finished code stored g what v)
finish-same k code stored f g (finish.Choose j) v h s low =
    taken-same k f g (choice_at code stored f) (choice_at code stored g) (slice_get code.arena.branches j) (truth_of v) h (λ b e. choice-same k code stored f g b.otherwise h) s low
finish-same k code stored f g _ v h s low = refl

block-on-same : (k : ℕ) (f g : ℕ → Doing) (o : Option ℕ) → ((n : ℕ) → SameFrom k (f n) (g n)) → SameFrom k (block_on f o) (block_on g o)
block-on-same k f g (Some b) h s low = h b s low
block-on-same k f g None h s low = refl

plan-same : (k : ℕ) (code : Code) (stored : List Stored) (f g : ℕ → Doing) (p : Plan) → ((n : ℕ) → SameFrom k (f n) (g n)) → SameFrom k (planned code stored f p) (planned code stored g p)
plan-same k code stored f g (plan.Evaluate e what) h s low = operand-same k code stored e (finished code stored f what) (finished code stored g what) (λ v. finish-same k code stored f g what v h) s low
plan-same k code stored f g (plan.Call j) h s low = block-on-same k f g (slice_get code.customs j) h s low
plan-same k code stored f g (plan.Choose c) h s low = choice-same k code stored f g c h s low
plan-same k code stored f g _ h s low = refl

begun-same : (k : ℕ) (code : Code) (stored : List Stored) (f g : ℕ → Doing) (o : Option Plan) → ((n : ℕ) → SameFrom k (f n) (g n)) → SameFrom k (begun_by code stored f o) (begun_by code stored g o)
begun-same k code stored f g (Some p) h s low = plan-same k code stored f g p h s low
begun-same k code stored f g None h s low = refl

-- a statement and what is behind it
statement-same : (k : ℕ) (code : Code) (stored : List Stored) (f g : ℕ → Doing) (p : Option Plan) (next : ℕ) (s : State) → k ≤ s.statements → ((n : ℕ) → SameFrom k (f n) (g n)) → ((n : ℕ) → Rises (g n))
    → and_then (begun_by code stored f p s) (λ done. f next) ≡ and_then (begun_by code stored g p s) (λ done. g next)
statement-same k code stored f g p next s low h r =
    ap (λ (o : Out State (Unit {0})). and_then o (λ done. f next)) (begun-same k code stored f g p h s low)
    ∙ then-same k (begun_by code stored g p s) (λ done. f next) (λ done. g next) (least-low k s (begun_by code stored g p s) low (begun-rises code stored g p r s)) (λ done t there. h next t there)
  where
    least-low : (k : ℕ) (s : State) (m : Out State (Unit {0})) → k ≤ s.statements → AtLeast s.statements m → AtLeast k m
    least-low k s (On a t) low h = omega arith
    least-low k s (Ends word t) low h = tt
    least-low k s (Asks command) low h = tt
    least-low k s Stuck low h = tt

pub counted-same : (d e : Doing) (b : Bool) (s : State) → nat_lt s.statements most_statements ≡ b
    → (s.statements < most_statements → d (record s { statements = s.statements + 1 }) ≡ e (record s { statements = s.statements + 1 }))
    → (if b then d (record s { statements = s.statements + 1 }) else fail s) ≡ (if b then e (record s { statements = s.statements + 1 }) else fail s)
counted-same d e true s t h = h (grind (arith, nat_tests))
counted-same d e false s t h = refl

done-same : (code : Code) (stored : List Stored) (f g : ℕ → Doing) (b : Option Block) (s : State)
    → (s.statements < most_statements → (n : ℕ) → SameFrom (s.statements + 1) (f n) (g n)) → ((n : ℕ) → Rises (g n)) → block_done code stored f b s ≡ block_done code stored g b s
done-same code stored f g None s h r = refl
done-same code stored f g (Some End) s h r = refl
done-same code stored f g (Some (Then what next)) s h r =
    counted-same (λ t. and_then (begun_by code stored f (plan_of what) t) (λ done. f next)) (λ t. and_then (begun_by code stored g (plan_of what) t) (λ done. g next))
    (nat_lt s.statements most_statements) s refl
    (λ low. statement-same (s.statements + 1) code stored f g (plan_of what) next (record s { statements = s.statements + 1 }) (le_refl (s.statements + 1)) (h low) r)

depth-same : (code : Code) (stored : List Stored) (m n b : ℕ) (s : State) → 1 ≤ m → 1 ≤ n → 100001 ≤ m + s.statements → 100001 ≤ n + s.statements
    → block_within m code stored b s ≡ block_within n code stored b s
unfolding block_within
depth-same code stored zero n b s p q x y = absurd (omega arith)
depth-same code stored (suc m) zero b s p q x y = absurd (omega arith)
depth-same code stored (suc m) (suc n) b s p q x y =
    done-same code stored (block_within m code stored) (block_within n code stored) (slice_get code.arena.blocks b) s
    (λ low c t there. depth-same code stored m n c t (omega arith) (omega arith) (omega arith) (omega arith)) (block-rises n code stored)

within-done : (code : Code) (stored : List Stored) (d b : ℕ) (s : State) → 100001 ≤ d → block_within d code stored b s ≡ block_done code stored (block_within d code stored) (slice_get code.arena.blocks b) s
unfolding block_within
within-done code stored zero b s p = absurd (omega arith)
within-done code stored (suc d) b s p =
    done-same code stored (block_within d code stored) (block_within (suc d) code stored) (slice_get code.arena.blocks b) s
    (λ low c t there. depth-same code stored d (suc d) c t (omega arith) (omega arith) (omega arith) (omega arith)) (block-rises (suc d) code stored)

deep-enough : 100001 ≤ deepest
unfolding deepest
deep-enough = le_refl 100001

-- a block by what its statement and the block behind it do
pub block-is : (code : Code) (stored : List Stored) (b : ℕ) (s : State) → block_at code stored b s ≡ block_done code stored (block_at code stored) (slice_get code.arena.blocks b) s
unfolding block_at
block-is code stored b s = within-done code stored deepest b s deep-enough

-- what is taken is no branch of this number or a greater one
abbrev pub Below : ℕ → Choice → Type 0
Below i (choice.Branch k) = k < i
Below i _ = Unit {0}

otherwise-below : (code : Code) → ChoicesFall code.arena.branches → (j i : ℕ) (b : Branch) (c : Choice) → slice_get code.arena.branches j ≡ Some b → b.otherwise ≡ c → j ≤ i → Below i c
otherwise-below code falls j i b choice.Nothing e q h = tt
otherwise-below code falls j i b (choice.Block k) e q h = tt
otherwise-below code falls j i b (choice.Branch k) e q h = let low : k < j = falls j k b e q in omega arith

choice-depth : (code : Code) → ChoicesFall code.arena.branches → (stored : List Stored) (go : ℕ → Doing) (m n : ℕ) (c : Choice) (s : State) → Below m c → Below n c
    → choice_within m code stored go c s ≡ choice_within n code stored go c s
unfolding choice_within
choice-depth code falls stored go m n choice.Nothing s p q = refl
choice-depth code falls stored go m n (choice.Block b) s p q = refl
choice-depth code falls stored go zero n (choice.Branch j) s p q = absurd (omega arith)
choice-depth code falls stored go (suc m) zero (choice.Branch j) s p q = absurd (omega arith)
choice-depth code falls stored go (suc m) (suc n) (choice.Branch j) s p q =
    asked-same 0 code stored (λ v. taken_by go (choice_within m code stored go) (slice_get code.arena.branches j) (truth_of v))
    (λ v. taken_by go (choice_within n code stored go) (slice_get code.arena.branches j) (truth_of v)) (condition_of code.arena.branches j)
    (λ v. taken-same 0 go go (choice_within m code stored go) (choice_within n code stored go) (slice_get code.arena.branches j) (truth_of v) (λ x t low. refl)
    (λ b e t low. choice-depth code falls stored go m n b.otherwise t (otherwise-below code falls j m b b.otherwise e refl (omega arith)) (otherwise-below code falls j n b b.otherwise e refl (omega arith))))
    s (omega arith)

-- a branch by its condition
branch-within : (code : Code) → ChoicesFall code.arena.branches → (stored : List Stored) (go : ℕ → Doing) (d j : ℕ) (b : Branch) (s : State) → slice_get code.arena.branches j ≡ Some b → j < d
    → choice_within d code stored go (choice.Branch j) s ≡ with_operand code stored b.condition (λ v. taken_by go (choice_within d code stored go) (slice_get code.arena.branches j) (truth_of v)) s
unfolding choice_within
branch-within code falls stored go zero j b s e low = absurd (omega arith)
branch-within code falls stored go (suc d) j b s e low =
    ap (λ (o : Option Branch). asked_at code stored (λ v. taken_by go (choice_within d code stored go) (slice_get code.arena.branches j) (truth_of v)) (option_map (λ (x : Branch). x.condition) o) s) e
    ∙ operand-same 0 code stored b.condition (λ v. taken_by go (choice_within d code stored go) (slice_get code.arena.branches j) (truth_of v))
    (λ v. taken_by go (choice_within (suc d) code stored go) (slice_get code.arena.branches j) (truth_of v))
    (λ v. taken-same 0 go go (choice_within d code stored go) (choice_within (suc d) code stored go) (slice_get code.arena.branches j) (truth_of v) (λ x t z. refl)
    (λ c f t z. choice-depth code falls stored go d (suc d) c.otherwise t (otherwise-below code falls j d c c.otherwise f refl (omega arith)) (otherwise-below code falls j (suc d) c c.otherwise f refl (omega arith))))
    s (omega arith)

pub branch-is : (code : Code) → ChoicesFall code.arena.branches → (stored : List Stored) (go : ℕ → Doing) (j : ℕ) (b : Branch) (s : State) → slice_get code.arena.branches j ≡ Some b
    → choice_at code stored go (choice.Branch j) s ≡ with_operand code stored b.condition (finished code stored go (finish.Choose j)) s
unfolding choice_at
branch-is code falls stored go j b s e = branch-within code falls stored go (length code.arena.branches) j b s e (slice_get_within code.arena.branches j b e)

none-within : (code : Code) (stored : List Stored) (go : ℕ → Doing) (d j : ℕ) (s : State) → slice_get code.arena.branches j ≡ None → choice_within d code stored go (choice.Branch j) s ≡ Stuck
unfolding choice_within
none-within code stored go zero j s e = refl
none-within code stored go (suc d) j s e =
    ap (λ (o : Option Branch). asked_at code stored (λ v. taken_by go (choice_within d code stored go) (slice_get code.arena.branches j) (truth_of v)) (option_map (λ (x : Branch). x.condition) o) s) e

pub branch-none : (code : Code) (stored : List Stored) (go : ℕ → Doing) (j : ℕ) (s : State) → slice_get code.arena.branches j ≡ None → choice_at code stored go (choice.Branch j) s ≡ Stuck
unfolding choice_at
branch-none code stored go j s e = none-within code stored go (length code.arena.branches) j s e

pub nothing-is : (code : Code) (stored : List Stored) (go : ℕ → Doing) (s : State) → choice_at code stored go choice.Nothing s ≡ On tt s
unfolding choice_at choice_within
nothing-is code stored go s = refl

pub block-chosen : (code : Code) (stored : List Stored) (go : ℕ → Doing) (b : ℕ) (s : State) → choice_at code stored go (choice.Block b) s ≡ go b s
unfolding choice_at choice_within
block-chosen code stored go b s = refl
