-- In the numbered form the nodes that a node is made of have smaller numbers than its own, and so has the branch that is taken
-- where a branch's condition doesn't hold.
use Rattle.std.specs.Prelude.{ℕ, ◌+◌, ◌<◌, List, [], ◌∷◌}
use Rattle.vcl_code.specs.declared.node.Arguments.{Arguments}
use Rattle.vcl_code.specs.declared.node.Arguments.TheVariants.{Zero, One, Two, Three, More}
use Rattle.vcl_code.specs.declared.node.Branch.{Branch}
use Rattle.vcl_code.specs.declared.node.Choice.{Choice}
use Rattle.vcl_code.specs.declared.node.Choice.TheVariants as choice
use Rattle.vcl_code.specs.declared.node.Node.{Node}
use Rattle.vcl_code.specs.declared.node.Node.TheVariants as node

abbrev pub AreBelow : ℕ → Arguments → Type 0
AreBelow i Zero = Unit {0}
AreBelow i (One x) = x < i
AreBelow i (Two x y) = (x < i) × (y < i)
AreBelow i (Three x y z) = (x < i) × (y < i) × (z < i)
AreBelow i More = Unit {0}

-- the parts of a node have smaller numbers than this
abbrev pub IsAbove : ℕ → Node → Type 0
IsAbove i (node.Either a b) = (a < i) × (b < i)
IsAbove i (node.Both a b) = (a < i) × (b < i)
IsAbove i (node.Not a) = a < i
IsAbove i (node.Compare how a b) = (a < i) × (b < i)
IsAbove i (node.Matches a pattern truth) = a < i
IsAbove i (node.InAcl a acl truth) = a < i
IsAbove i (node.Sum a b) = (a < i) × (b < i)
IsAbove i (node.Difference a b) = (a < i) × (b < i)
IsAbove i (node.Substitute all a pattern by) = (a < i) × (by < i)
IsAbove i (node.Xkey soft a) = a < i
IsAbove i (node.DirectorFor director a) = a < i
IsAbove i (node.Stored function arguments) = AreBelow i arguments
IsAbove i _ = Unit {0}

-- each node of the list is above its parts, the first one having this number
abbrev pub AllAbove : ℕ → List Node → Type 0
AllAbove i [] = Unit {0}
AllAbove i (n ∷ ns) = IsAbove i n × AllAbove (i + 1) ns

-- of a whole list
abbrev pub IsFalling : List Node → Type 0
IsFalling nodes = AllAbove 0 nodes

-- what is taken is no branch of this number or a greater one
abbrev pub IsBelow : ℕ → Choice → Type 0
IsBelow i (choice.Branch k) = k < i
IsBelow i _ = Unit {0}

-- behind each branch of the list a smaller one is taken, the first one having this number
abbrev pub AllBelow : ℕ → List Branch → Type 0
AllBelow i [] = Unit {0}
AllBelow i (b ∷ bs) = IsBelow i b.otherwise × AllBelow (i + 1) bs

-- of a whole list
abbrev pub BranchesFall : List Branch → Type 0
BranchesFall branches = AllBelow 0 branches
