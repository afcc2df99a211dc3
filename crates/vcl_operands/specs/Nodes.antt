-- What expressions in numbers are worth, and what is left of one whose evaluation is under way.
use Rattle.std.specs.Prelude.{ℕ, zero, suc, true, false, List, [], ◌∷◌, ◌++◌, length, Option, Some, None, option_map, option_and_then, slice_get}
use Rattle.vcl_values.specs.declared.value.Value.{Value}
use Rattle.vcl_values.specs.declared.value.Value.TheVariants as value
use Rattle.vcl_context.specs.Reading.{value_of as variable_value}
use Rattle.vcl_code.specs.declared.node.Arguments.{Arguments}
use Rattle.vcl_code.specs.declared.node.Arguments.TheVariants.{Zero, One, Two, Three, More}
use Rattle.vcl_code.specs.declared.node.Node.{Node}
use Rattle.vcl_code.specs.declared.node.Node.TheVariants as node
use Rattle.vcl_context.specs.declared.context.Context.{Context}
use Rattle.vmod_host.specs.declared.signature.Stored.{Stored}
use Rattle.vcl_program.specs.declared.code.Code.{Code}
use Rattle.vcl_operands.specs.declared.frame.Binary.{Binary}
use Rattle.vcl_operands.specs.declared.frame.Binary.TheVariants as binary
use Rattle.vcl_operands.specs.declared.frame.Doing.{Doing}
use Rattle.vcl_operands.specs.declared.frame.Doing.TheVariants as doing
use Rattle.vcl_operands.specs.declared.frame.Frame.{Frame}
use Rattle.vcl_operands.specs.declared.frame.Frame.TheVariants as frame
use Rattle.vcl_operands.specs.declared.frame.Plan.{Plan}
use Rattle.vcl_operands.specs.declared.frame.Plan.TheVariants as plan
use Rattle.vcl_operands.specs.declared.frame.Unary.{Unary}
use Rattle.vcl_operands.specs.declared.frame.Unary.TheVariants as unary
use Rattle.vcl_operands.specs.declared.evaluation.Outcome.{Outcome}
use Rattle.vcl_operands.specs.declared.evaluation.Outcome.TheVariants as outcome
use Rattle.vcl_context.specs.declared.turn.Answer.{Answer}
use Rattle.vcl_context.specs.declared.turn.Command.TheVariants.{Xkey}
use Rattle.vcl_operands.specs.Outs.{On, Stuck, and_then, fail, made_on, ask, number_of}
use Rattle.vcl_operands.specs.Meaning.{Operand, decides, purged}
use Rattle.vcl_operands.specs.Values.{literal, named_field, truth_value, opposite, matched, sought, ordered, summed, lessened, substituted, default_backend, backend_at, director_at, asked, applied}

-- what is done with one value, and with two
abbrev pub changed : Code → Unary → Value → Option (Option Value)
changed code unary.Truth v = truth_value v
changed code unary.Not v = opposite v
changed code (unary.Match k wanted) v = option_map (λ pattern. matched pattern wanted v) (slice_get code.arena.patterns k)
changed code (unary.Seek k wanted) v = option_and_then (λ entries. sought entries wanted v) (slice_get code.acls k)
changed code (unary.Direct k) v = asked code.directors k v

abbrev pub combined : Code → Binary → Value → Value → Option (Option Value)
combined code (binary.Compare how) v w = ordered how v w
combined code binary.Add v w = summed v w
combined code binary.Subtract v w = lessened v w
combined code (binary.Substitute all k) v w = option_map (λ pattern. substituted pattern all v w) (slice_get code.arena.patterns k)

-- a stored function with some of its arguments, and the nodes of those behind them
abbrev pub with_none : List Stored → ℕ → List Value → Operand
with_none stored k given s = made_on (applied stored k given) s

abbrev pub with_one : List Stored → (ℕ → Operand) → ℕ → ℕ → List Value → Operand
with_one stored at k x given s = and_then (at x s) (λ v. with_none stored k (given ++ v ∷ []))

abbrev pub with_two : List Stored → (ℕ → Operand) → ℕ → ℕ → ℕ → List Value → Operand
with_two stored at k x y given s = and_then (at x s) (λ v. with_one stored at k y (given ++ v ∷ []))

abbrev pub with_three : List Stored → (ℕ → Operand) → ℕ → ℕ → ℕ → ℕ → List Value → Operand
with_three stored at k x y z given s = and_then (at x s) (λ v. with_two stored at k y z (given ++ v ∷ []))

abbrev pub with_rest : List Stored → (ℕ → Operand) → ℕ → Arguments → List Value → Operand
with_rest stored at k Zero given s = with_none stored k given s
with_rest stored at k (One x) given s = with_one stored at k x given s
with_rest stored at k (Two x y) given s = with_two stored at k x y given s
with_rest stored at k (Three x y z) given s = with_three stored at k x y z given s
with_rest stored at k More given s = Stuck

-- a text in numbers, the stored functions, and the values of variables
pub record World : Type 0 where
  pub code : Code
  pub stored : List Stored
  pub context : Context

abbrev pub world : Code → List Stored → Context → World
world code stored context = record { code = code; stored = stored; context = context }

-- what waits for a value, with what the nodes are worth
abbrev pub onward : World → (ℕ → Operand) → Frame → Value → Operand
onward w at (frame.One what) v s = made_on (changed w.code what v) s
onward w at (frame.Left what right) v s = and_then (at right s) (λ u. made_on (combined w.code what v u))
onward w at (frame.Right what v) u s = made_on (combined w.code what v u) s
onward w at (frame.Decide decided right) v s = decides decided (at right) v s
onward w at (frame.Purge soft) v s = purged soft v s
onward w at (frame.Apply k given rest) v s = with_rest w.stored at k rest (given ++ v ∷ []) s

-- a node without parts
abbrev pub leaf : Code → Context → Node → Option (Option Value)
leaf code context (node.Text k) = literal code.arena.texts k
leaf code context (node.Int n) = Some (Some (value.Int n))
leaf code context (node.Duration time) = Some (Some (value.Duration time))
leaf code context (node.Truth truth) = Some (Some (value.Bool truth))
leaf code context (node.Backend k) = backend_at code.backends k
leaf code context (node.Read variable) = Some (Some (variable_value (default_backend code) variable context))
leaf code context (node.ReadField message k) = named_field context code.arena.texts message k
leaf code context (node.Director k) = director_at code.directors k
leaf code context _ = None

-- how a node is evaluated: a part first, with what waits for it; a stored function with its arguments; or at once
abbrev pub plan_of : Node → Plan
plan_of (node.Either x y) = plan.First x (frame.Decide true y)
plan_of (node.Both x y) = plan.First x (frame.Decide false y)
plan_of (node.Not x) = plan.First x (frame.One unary.Not)
plan_of (node.Compare how x y) = plan.First x (frame.Left (binary.Compare how) y)
plan_of (node.Matches x k wanted) = plan.First x (frame.One (unary.Match k wanted))
plan_of (node.InAcl x k wanted) = plan.First x (frame.One (unary.Seek k wanted))
plan_of (node.Sum x y) = plan.First x (frame.Left binary.Add y)
plan_of (node.Difference x y) = plan.First x (frame.Left binary.Subtract y)
plan_of (node.Substitute all x k y) = plan.First x (frame.Left (binary.Substitute all k) y)
plan_of (node.Xkey soft x) = plan.First x (frame.Purge soft)
plan_of (node.DirectorFor k x) = plan.First x (frame.One (unary.Direct k))
plan_of (node.Stored k arguments) = plan.Calls k arguments
plan_of n = plan.Leaf n

abbrev pub planned : World → (ℕ → Operand) → Plan → Operand
planned w at (plan.First x waiting) s = and_then (at x s) (onward w at waiting)
planned w at (plan.Calls k arguments) s = with_rest w.stored at k arguments [] s
planned w at (plan.Leaf n) s = made_on (leaf w.code w.context n) s

abbrev pub node_value : World → (ℕ → Operand) → Node → Operand
node_value w at n s = planned w at (plan_of n) s

-- a number by its node, where parts lie at most so deep
abbrev pub known_value : World → (ℕ → Operand) → Option Node → Operand
known_value w at None s = Stuck
known_value w at (Some n) s = node_value w at n s

unfoldable pub value_within : ℕ → World → ℕ → Operand
value_within zero w i s = Stuck
value_within (suc depth) w i s = known_value w (value_within depth w) (slice_get w.code.arena.nodes i) s

-- what the node of this number is worth: parts have smaller numbers
unfoldable pub value_at : World → ℕ → Operand
value_at w i s = value_within (length w.code.arena.nodes) w i s

-- what is made of a value by all that waits for it
abbrev pub left_of : World → List Frame → Value → Operand
left_of w [] v s = On v s
left_of w (f ∷ fs) v s = and_then (onward w (value_at w) f v s) (left_of w fs)

-- what an evaluation under way comes to
abbrev pub given_number : World → List Frame → Answer → Operand
given_number w fs answer s = left_of w fs (value.Int (number_of answer)) s

abbrev pub rest_of : World → Doing → List Frame → Operand
rest_of w (doing.Evaluate i) fs s = and_then (value_at w i s) (left_of w fs)
rest_of w (doing.Give v) fs s = left_of w fs v s
rest_of w (doing.Need keys soft) fs s = and_then (ask (Xkey keys soft) s) (given_number w fs)
rest_of w doing.Fail fs s = fail s

-- the same of what it has come to: a value with nothing left, a purge that is wanted, or the end
abbrev pub came_to : World → Outcome → List Frame → Operand
came_to w (outcome.Value v) fs s = On v s
came_to w (outcome.Purge keys soft) fs s = and_then (ask (Xkey keys soft) s) (given_number w fs)
came_to w outcome.Fail fs s = fail s

-- a value that is given, if there is one
abbrev pub given_if : Option Value → Doing
given_if (Some v) = doing.Give v
given_if None = doing.Fail
