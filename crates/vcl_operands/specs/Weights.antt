-- How much is left to do of an evaluation, as a number that falls with each step.
use Rattle.std.specs.Prelude.{ℕ, zero, suc, ◌+◌, ◌*◌, List, [], ◌∷◌}
use Rattle.vcl_code.specs.declared.node.Arguments.{Arguments}
use Rattle.vcl_code.specs.declared.node.Arguments.TheVariants.{Zero, One, Two, Three, More}
use Rattle.vcl_operands.specs.declared.frame.Doing.{Doing}
use Rattle.vcl_operands.specs.declared.frame.Doing.TheVariants as doing
use Rattle.vcl_operands.specs.declared.frame.Frame.{Frame}
use Rattle.vcl_operands.specs.declared.frame.Frame.TheVariants as frame
use Rattle.vcl_operands.specs.declared.frame.Plan.{Plan}
use Rattle.vcl_operands.specs.declared.frame.Plan.TheVariants as plan

-- a node weighs more than any three of smaller numbers
unfoldable pub power : ℕ → ℕ
power zero = 4
power (suc i) = 4 * power i

abbrev pub arguments_weight : Arguments → ℕ
arguments_weight Zero = 0
arguments_weight (One x) = power x + 1
arguments_weight (Two x y) = power x + (power y + 2)
arguments_weight (Three x y z) = power x + (power y + (power z + 3))
arguments_weight More = 0

abbrev pub frame_weight : Frame → ℕ
frame_weight (frame.One what) = 1
frame_weight (frame.Left what right) = power right + 2
frame_weight (frame.Right what left) = 1
frame_weight (frame.Decide decided right) = power right + 2
frame_weight (frame.Purge soft) = 1
frame_weight (frame.Apply k given rest) = arguments_weight rest + 1

abbrev pub frames_weight : List Frame → ℕ
frames_weight [] = 0
frames_weight (f ∷ fs) = frame_weight f + frames_weight fs

abbrev pub doing_weight : Doing → ℕ
doing_weight (doing.Evaluate i) = power i
doing_weight _ = 0

abbrev pub weight : Doing → List Frame → ℕ
weight next fs = doing_weight next + frames_weight fs

abbrev pub plan_weight : Plan → ℕ
plan_weight (plan.First x waiting) = power x + frame_weight waiting
plan_weight (plan.Calls k arguments) = arguments_weight arguments
plan_weight (plan.Leaf n) = 0
