-- What statements one behind another do, and what conditions one behind another do, by their numbers.
use Rattle.std.proofs.Math.Nat.{le_refl}
use Rattle.std.proofs.Math.Path.{fun_ext}
use Rattle.std.proofs.Common.{◌≡◌, ◌+◌, ℕ, Bool, true, false, List, [], ◌∷◌, ◌++◌, length, Option, Some, None, slice_get, nat_lt, if◌then◌else◌, refl, sym, ap, ◌∙◌}
use Rattle.vcl_values.specs.declared.value.Value.{Value}
use Rattle.vcl_values.specs.Values.{truth_of}
use Rattle.vmod_host.specs.declared.signature.Stored.{Stored}
use Rattle.vcl_code.specs.declared.arena.Arena.{Arena}
use Rattle.vcl_code.specs.declared.node.Action.{Action}
use Rattle.vcl_code.specs.declared.node.Arm.{Arm}
use Rattle.vcl_code.specs.declared.node.Block.{Block}
use Rattle.vcl_code.specs.declared.node.Block.TheVariants.{Then}
use Rattle.vcl_code.specs.declared.node.Branch.{Branch}
use Rattle.vcl_code.specs.declared.node.Choice.{Choice}
use Rattle.vcl_code.specs.Arenas.{Numbered}
use Rattle.vcl_code.specs.Statements.{Chosen, branch, with_chain, with_arms}
use Rattle.vcl_program.specs.declared.code.Code.{Code}
use Rattle.vcl_operands.specs.Falls.{ChoicesFall}
use Rattle.vcl_operands.specs.Later.{Later}
use Rattle.vcl_operands.specs.Outs.{Out, On, Ends, Asks, Stuck, and_then, fail}
use Rattle.vcl_operands.proofs.Binds.{bind_bind}
use Rattle.vcl_operands.proofs.Growing.{get-pushed, later-trans, later-block, later-branch}
use Rattle.vcl_meaning.specs.Meaning.{either_by}
use Rattle.vcl_eval.specs.States.{State, Doing, nothing, counted, most_statements}
use Rattle.vcl_eval.specs.Runs.{with_operand, taken_by, choice_at, plan_of, begun_by, block_done, block_at}
use Rattle.vcl_eval.proofs.Depths.{block-is, branch-is}
use Rattle.vcl_eval.proofs.Rises.{Rises, rise-from, least-then, counted-rises, begun-rises, at-rises}

abbrev pub acts_done : Code → List Stored → List Action → Doing
acts_done code stored [] s = nothing s
acts_done code stored (x ∷ xs) s = counted (λ t. and_then (begun_by code stored (block_at code stored) (plan_of x) t) (λ done. acts_done code stored xs)) s

abbrev pub arms_done : Code → List Stored → List Arm → Doing → Doing
arms_done code stored [] other s = other s
arms_done code stored (x ∷ xs) other s = with_operand code stored x.condition (λ v. either_by (truth_of v) (block_at code stored x.block) (arms_done code stored xs other)) s

pub bind-nothing : (m : Out State (Unit {0})) → and_then m (λ done. nothing) ≡ m
bind-nothing (On done s) = refl
bind-nothing (Ends word s) = refl
bind-nothing (Asks command) = refl
bind-nothing Stuck = refl

if-bind : (b : Bool) (m : Out State (Unit {0})) (s : State) (f : Unit {0} → Doing) → and_then (if b then m else fail s) f ≡ (if b then and_then m f else fail s)
if-bind true m s f = refl
if-bind false m s f = refl

counted-bind : (d : Doing) (f : Unit {0} → Doing) (s : State) → and_then (counted d s) f ≡ counted (λ t. and_then (d t) f) s
counted-bind d f s = if-bind (nat_lt s.statements most_statements) (d (record s { statements = s.statements + 1 })) s f

-- what is done behind the first statement
counted-onward : (d e : Doing) (f : Doing) (s : State) → and_then (counted (λ t. and_then (d t) (λ done. e)) s) (λ done. f) ≡ counted (λ t. and_then (d t) (λ done u. and_then (e u) (λ done. f))) s
counted-onward d e f s =
    counted-bind (λ t. and_then (d t) (λ done. e)) (λ done. f) s
    ∙ ap (λ (x : Doing). counted x s) (fun_ext (λ t. bind_bind (d t) (λ done. e) (λ done. f)))

-- statements that were put in
pub chain-is : (code : Code) (stored : List Stored) (xs : List Action) (next : ℕ) (a : Arena) → Later (with_chain xs next a).arena code.arena → (s : State)
    → block_at code stored (with_chain xs next a).number s ≡ and_then (acts_done code stored xs s) (λ done. block_at code stored next)
chain-is code stored [] next a later s = refl
chain-is code stored (x ∷ xs) next a later s =
    let rest : Numbered = with_chain xs next a in
    let before : Later rest.arena code.arena = later-trans rest.arena (with_chain (x ∷ xs) next a).arena code.arena (later-block (Then x rest.number) rest.arena) later in
    block-is code stored (length rest.arena.blocks) s
    ∙ ap (λ (o : Option Block). block_done code stored (block_at code stored) o s) (get-pushed rest.arena.blocks code.arena.blocks (Then x rest.number) later.blocks)
    ∙ ap (λ (f : Doing). counted (λ t. and_then (begun_by code stored (block_at code stored) (plan_of x) t) (λ done. f)) s) (fun_ext (chain-is code stored xs next a before))
    ∙ sym (counted-onward (begun_by code stored (block_at code stored) (plan_of x)) (acts_done code stored xs) (block_at code stored next) s)

-- one statement more
pub acts-append : (code : Code) (stored : List Stored) (xs : List Action) (y : Action) (s : State)
    → acts_done code stored (xs ++ y ∷ []) s ≡ and_then (acts_done code stored xs s) (λ done. counted (begun_by code stored (block_at code stored) (plan_of y)))
acts-append code stored [] y s = ap (λ (d : Doing). counted d s) (fun_ext (λ t. bind-nothing (begun_by code stored (block_at code stored) (plan_of y) t)))
acts-append code stored (x ∷ xs) y s =
    ap (λ (f : Doing). counted (λ t. and_then (begun_by code stored (block_at code stored) (plan_of x) t) (λ done. f)) s) (fun_ext (acts-append code stored xs y))
    ∙ sym (counted-onward (begun_by code stored (block_at code stored) (plan_of x)) (acts_done code stored xs) (counted (begun_by code stored (block_at code stored) (plan_of y))) s)

pub acts-rise : (code : Code) (stored : List Stored) (xs : List Action) → Rises (acts_done code stored xs)
acts-rise code stored [] s = le_refl s.statements
acts-rise code stored (x ∷ xs) s =
    counted-rises (λ t. and_then (begun_by code stored (block_at code stored) (plan_of x) t) (λ done. acts_done code stored xs)) (nat_lt s.statements most_statements) s
    (λ t. least-then t.statements (begun_by code stored (block_at code stored) (plan_of x) t) (λ done. acts_done code stored xs)
    (begun-rises code stored (block_at code stored) (plan_of x) (at-rises code stored) t) (λ done u h. rise-from (acts_done code stored xs) t.statements u (acts-rise code stored xs) h))

-- conditions that were put in
taken-either : (go : ℕ → Doing) (other : Choice → Doing) (b : Branch) (truth : Option Bool) (s : State) → taken_by go other (Some b) truth s ≡ either_by truth (go b.block) (other b.otherwise) s
taken-either go other b None s = refl
taken-either go other b (Some true) s = refl
taken-either go other b (Some false) s = refl

pub arms-are : (code : Code) → ChoicesFall code.arena.branches → (stored : List Stored) (xs : List Arm) (other : Choice) (a : Arena) → Later (with_arms xs other a).arena code.arena → (s : State)
    → choice_at code stored (block_at code stored) (with_arms xs other a).choice s ≡ arms_done code stored xs (choice_at code stored (block_at code stored) other) s
arms-are code falls stored [] other a later s = refl
arms-are code falls stored (x ∷ xs) other a later s =
    let rest : Chosen = with_arms xs other a in
    let b : Branch = branch x rest.choice in
    let there : slice_get code.arena.branches (length rest.arena.branches) ≡ Some b = get-pushed rest.arena.branches code.arena.branches b later.branches in
    let before : Later rest.arena code.arena = later-trans rest.arena (with_arms (x ∷ xs) other a).arena code.arena (later-branch b rest.arena) later in
    branch-is code falls stored (block_at code stored) (length rest.arena.branches) b s there
    ∙ ap (λ (f : Value → Doing). with_operand code stored x.condition f s) (fun_ext (λ v. fun_ext (λ t.
    ap (λ (o : Option Branch). taken_by (block_at code stored) (choice_at code stored (block_at code stored)) o (truth_of v) t) there
    ∙ taken-either (block_at code stored) (choice_at code stored (block_at code stored)) b (truth_of v) t
    ∙ ap (λ (d : Doing). either_by (truth_of v) (block_at code stored x.block) d t) (fun_ext (arms-are code falls stored xs other a before)))))

pub arms-append : (code : Code) (stored : List Stored) (xs ys : List Arm) (other : Doing) (s : State) → arms_done code stored (xs ++ ys) other s ≡ arms_done code stored xs (arms_done code stored ys other) s
arms-append code stored [] ys other s = refl
arms-append code stored (x ∷ xs) ys other s =
    ap (λ (d : Doing). with_operand code stored x.condition (λ v. either_by (truth_of v) (block_at code stored x.block) d) s) (fun_ext (arms-append code stored xs ys other))
