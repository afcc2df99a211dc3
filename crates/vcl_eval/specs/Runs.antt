-- What runs of subroutines do, on a text in numbers, with the answers that they are given. What no sound text has is stuck.
use Rattle.std.specs.Prelude.{ℕ, zero, suc, Bool, List, [], ◌∷◌, Option, Some, None, option_map, option_and_then, slice_get, slice_index, length, if◌then◌else◌}
use Rattle.vcl_values.specs.declared.value.Value.{Value}
use Rattle.vcl_values.specs.Values.{truth_of}
use Rattle.vmod_host.specs.declared.signature.Stored.{Stored}
use Rattle.vcl_language.specs.Scopes.{subroutine_number}
use Rattle.vcl_language.specs.declared.scope.Subroutine.{Subroutine}
use Rattle.vcl_context.specs.declared.context.Context.{Context}
use Rattle.vcl_context.specs.Fields.{field_unset}
use Rattle.vcl_code.specs.declared.node.Action.{Action}
use Rattle.vcl_code.specs.declared.node.Action.TheVariants as action
use Rattle.vcl_code.specs.declared.node.Arguments.TheVariants.{Zero, One, Two, Three, More}
use Rattle.vcl_code.specs.declared.node.Block.{Block}
use Rattle.vcl_code.specs.declared.node.Block.TheVariants.{End, Then}
use Rattle.vcl_code.specs.declared.node.Branch.{Branch}
use Rattle.vcl_code.specs.declared.node.Choice.{Choice}
use Rattle.vcl_code.specs.declared.node.Choice.TheVariants as choice
use Rattle.vcl_program.specs.declared.code.Code.{Code}
use Rattle.vcl_context.specs.declared.turn.Answer.{Answer}
use Rattle.vcl_operands.specs.Outs.{Out, Stuck, and_then, fail}
use Rattle.vcl_operands.specs.Nodes.{world, value_at}
use Rattle.vcl_eval.specs.declared.finish.Finish.{Finish}
use Rattle.vcl_eval.specs.declared.finish.Finish.TheVariants as finish
use Rattle.vcl_eval.specs.declared.finish.Plan.{Plan}
use Rattle.vcl_eval.specs.declared.finish.Plan.TheVariants as plan
use Rattle.vcl_eval.specs.Returns.{plain, with_one, with_two}
use Rattle.vcl_eval.specs.Statements.{set_to, field_to, append_to, append_field, key_given, body_given}
use Rattle.vcl_eval.specs.States.{State, state, Doing, in_state, nothing, set_on, set_due, counted, ends_due, banned}

-- an expression by the number of its node, and what is done with its value
abbrev pub with_operand : Code → List Stored → ℕ → (Value → Doing) → Doing
with_operand code stored e next s = and_then (in_state s (value_at (world code stored s.context) e s.answers)) next

-- a block or nothing, if there is one
abbrev pub block_on : (ℕ → Doing) → Option ℕ → Doing
block_on go (Some block) s = go block s
block_on go None s = Stuck

-- a branch's block, or what is taken where its condition doesn't hold
abbrev pub taken_by : (ℕ → Doing) → (Choice → Doing) → Option Branch → Option Bool → Doing
taken_by go other None truth s = Stuck
taken_by go other (Some branch) None s = Stuck
taken_by go other (Some branch) (Some truth) s = if truth then go branch.block s else other branch.otherwise s

-- a branch by its number: its condition, and what is taken by it; what is taken otherwise has a smaller number
abbrev pub condition_of : List Branch → ℕ → Option ℕ
condition_of branches k = option_map (λ (b : Branch). b.condition) (slice_get branches k)

abbrev pub asked_at : Code → List Stored → (Value → Doing) → Option ℕ → Doing
asked_at code stored next None s = Stuck
asked_at code stored next (Some e) s = with_operand code stored e next s

unfoldable pub choice_within : ℕ → Code → List Stored → (ℕ → Doing) → Choice → Doing
choice_within depth code stored go choice.Nothing s = nothing s
choice_within depth code stored go (choice.Block block) s = go block s
choice_within zero code stored go (choice.Branch k) s = Stuck
choice_within (suc depth) code stored go (choice.Branch k) s =
    asked_at code stored (λ v. taken_by go (choice_within depth code stored go) (slice_get code.arena.branches k) (truth_of v)) (condition_of code.arena.branches k) s

unfoldable pub choice_at : Code → List Stored → (ℕ → Doing) → Choice → Doing
choice_at code stored go other s = choice_within (length code.arena.branches) code stored go other s

-- what is done with an expression's value
abbrev pub finished : Code → List Stored → (ℕ → Doing) → Finish → Value → Doing
finished code stored go (finish.Assign variable) v s = set_due (set_to variable v s.context) s
finished code stored go (finish.Append variable) v s = set_due (append_to variable v s.context) s
finished code stored go (finish.AssignField message k) v s = set_due (option_and_then (λ name. field_to message name v s.context) (slice_get code.arena.texts k)) s
finished code stored go (finish.AppendField message k) v s = set_due (option_and_then (λ name. append_field message name v s.context) (slice_get code.arena.texts k)) s
finished code stored go finish.HashData v s = set_on (key_given v s.context) s
finished code stored go finish.Synthetic v s = set_on (body_given v s.context) s
finished code stored go finish.Ban v s = banned v s
finished code stored go finish.Forget v s = nothing s
finished code stored go (finish.Choose k) v s = taken_by go (choice_at code stored go) (slice_get code.arena.branches k) (truth_of v) s
finished code stored go (finish.Return word) v s = ends_due (with_one word v) s
finished code stored go (finish.ReturnFirst word e) v s = with_operand code stored e (λ w. ends_due (with_two word v w)) s
finished code stored go (finish.ReturnSecond word v) w s = ends_due (with_two word v w) s

-- how a statement begins: with an expression, at once, or with another block
abbrev pub plan_of : Action → Option Plan
plan_of (action.Set variable e) = Some (plan.Evaluate e (finish.Assign variable))
plan_of (action.Append variable e) = Some (plan.Evaluate e (finish.Append variable))
plan_of (action.SetField message k e) = Some (plan.Evaluate e (finish.AssignField message k))
plan_of (action.AppendField message k e) = Some (plan.Evaluate e (finish.AppendField message k))
plan_of (action.UnsetField message k) = Some (plan.Unset message k)
plan_of (action.Call k) = Some (plan.Call k)
plan_of (action.If taken) = Some (plan.Choose taken)
plan_of (action.Return word Zero) = Some (plan.Return word)
plan_of (action.Return word (One e)) = Some (plan.Evaluate e (finish.Return word))
plan_of (action.Return word (Two e f)) = Some (plan.Evaluate e (finish.ReturnFirst word f))
plan_of (action.Return word (Three e f g)) = None
plan_of (action.Return word More) = None
plan_of (action.HashData e) = Some (plan.Evaluate e finish.HashData)
plan_of (action.Synthetic e) = Some (plan.Evaluate e finish.Synthetic)
plan_of (action.Ban e) = Some (plan.Evaluate e finish.Ban)
plan_of (action.Evaluate e) = Some (plan.Evaluate e finish.Forget)
plan_of action.Absent = None

abbrev pub planned : Code → List Stored → (ℕ → Doing) → Plan → Doing
planned code stored go (plan.Evaluate e what) s = with_operand code stored e (finished code stored go what) s
planned code stored go (plan.Unset message k) s = set_due (option_map (λ name. Some (field_unset message name s.context)) (slice_get code.arena.texts k)) s
planned code stored go (plan.Call k) s = block_on go (slice_get code.customs k) s
planned code stored go (plan.Choose other) s = choice_at code stored go other s
planned code stored go (plan.Return word) s = ends_due (plain word) s

abbrev pub begun_by : Code → List Stored → (ℕ → Doing) → Option Plan → Doing
begun_by code stored go (Some p) s = planned code stored go p s
begun_by code stored go None s = Stuck

-- a block: its statement, which is counted, and then the block behind it
abbrev pub block_done : Code → List Stored → (ℕ → Doing) → Option Block → Doing
block_done code stored go None s = Stuck
block_done code stored go (Some End) s = nothing s
block_done code stored go (Some (Then what next)) s = counted (λ s. and_then (begun_by code stored go (plan_of what) s) (λ done. go next)) s

-- blocks nest no deeper than statements are counted
unfoldable pub block_within : ℕ → Code → List Stored → ℕ → Doing
block_within zero code stored block s = fail s
block_within (suc depth) code stored block s = block_done code stored (block_within depth code stored) (slice_get code.arena.blocks block) s

unfoldable pub deepest : ℕ
deepest = 100001

unfoldable pub block_at : Code → List Stored → ℕ → Doing
block_at code stored block s = block_within deepest code stored block s

-- blocks one behind another; behind the last one the run ends as `fail`, since a built-in subroutine's block returns
abbrev pub blocks_at : Code → List Stored → List ℕ → Doing
blocks_at code stored [] s = fail s
blocks_at code stored (b ∷ bs) s = and_then (block_at code stored b s) (λ done. blocks_at code stored bs)

-- A run of a built-in subroutine, with the answers that it is given after Begin: it ends, or it wants a command done of which
-- there is no answer.
abbrev pub run_at : Code → List Stored → Subroutine → Context → List Answer → Out State (Unit {0})
run_at code stored subroutine c answers = blocks_at code stored (slice_index code.built_in (subroutine_number subroutine) ∷ []) (state c c.statements answers)
