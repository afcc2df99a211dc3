-- In the numbered form a node's parts have smaller numbers than its own, and branches are taken by smaller numbers.
use Rattle.std.specs.Prelude.{◌≡◌, ℕ, suc, max, ◌≤◌, ◌<◌, List, Some, slice_get}
use Rattle.vcl_code.specs.declared.node.Arguments.{Arguments}
use Rattle.vcl_code.specs.declared.node.Arguments.TheVariants.{Zero, One, Two, Three, More}
use Rattle.vcl_code.specs.declared.node.Branch.{Branch}
use Rattle.vcl_code.specs.declared.node.Choice.TheVariants as choice
use Rattle.vcl_code.specs.declared.node.Node.{Node}
use Rattle.vcl_code.specs.declared.node.Node.TheVariants as node

-- the least number above those of all parts
abbrev pub arguments_reach : Arguments → ℕ
arguments_reach Zero = 0
arguments_reach (One x) = suc x
arguments_reach (Two x y) = max (suc x) (suc y)
arguments_reach (Three x y z) = max (suc x) (max (suc y) (suc z))
arguments_reach More = 0

abbrev pub reach : Node → ℕ
reach (node.Either x y) = max (suc x) (suc y)
reach (node.Both x y) = max (suc x) (suc y)
reach (node.Not x) = suc x
reach (node.Compare how x y) = max (suc x) (suc y)
reach (node.Matches x k wanted) = suc x
reach (node.InAcl x k wanted) = suc x
reach (node.Sum x y) = max (suc x) (suc y)
reach (node.Difference x y) = max (suc x) (suc y)
reach (node.Substitute all x k y) = max (suc x) (suc y)
reach (node.Xkey soft x) = suc x
reach (node.DirectorFor k x) = suc x
reach (node.Stored k arguments) = arguments_reach arguments
reach _ = 0

abbrev pub Falls : List Node → Type 0
Falls nodes = (i : ℕ) (n : Node) → slice_get nodes i ≡ Some n → reach n ≤ i

-- the branch that is taken where a branch's condition doesn't hold has a smaller number
abbrev pub ChoicesFall : List Branch → Type 0
ChoicesFall branches = (k j : ℕ) (b : Branch) → slice_get branches k ≡ Some b → b.otherwise ≡ choice.Branch j → j < k
