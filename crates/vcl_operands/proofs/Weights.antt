-- A node weighs more than how it is evaluated.
use Rattle.std.proofs.Common.{◌≡◌, ◌≤◌, ◌<◌, ◌+◌, ◌*◌, ℕ, zero, suc, sym, subst, ⊎_elim, arith}
use Rattle.std.proofs.Math.Nat.{le_refl}
use Rattle.std.proofs.lemmas.Bool.{cases_lt}
use Rattle.vcl_code.specs.declared.node.Arguments.{Arguments}
use Rattle.vcl_code.specs.declared.node.Arguments.TheVariants.{Zero, One, Two, Three, More}
use Rattle.vcl_code.specs.declared.node.Node.{Node}
use Rattle.vcl_code.specs.declared.node.Node.TheVariants as node
use Rattle.vcl_operands.specs.Falls.{arguments_reach, reach}
use Rattle.vcl_operands.specs.Nodes.{plan_of}
use Rattle.vcl_operands.specs.Weights.{power, arguments_weight, plan_weight}

power-four : (i : ℕ) → 4 ≤ power i
unfolding power
power-four zero = omega arith
power-four (suc i) = omega (arith, power-four i)

power-along : (x i : ℕ) → x ≡ i → 4 * power x ≤ power (suc i)
unfolding power
power-along x i e = let P : ℕ → Type 0 = λ y. 4 * power y ≤ 4 * power i in subst P (sym e) (le_refl (4 * power i))

power-more : (i n : ℕ) → n ≤ power i → n ≤ power (suc i)
unfolding power
power-more i n h = omega arith

pub power-below : (x i : ℕ) → x < i → 4 * power x ≤ power i
power-below x zero h = absurd (omega arith)
power-below x (suc i) h =
    ⊎_elim (λ low. power-more i (4 * power x) (power-below x i low)) (λ same. power-along x i (omega arith)) (cases_lt x i)

pub two-light : (x y i : ℕ) → suc x ≤ i → suc y ≤ i → power x + (power y + 2) < power i
two-light x y i p q = omega (arith, power-below x i (omega arith), power-below y i (omega arith), power-four x, power-four y)

pub one-light : (x i : ℕ) → suc x ≤ i → power x + 1 < power i
one-light x i p = omega (arith, power-below x i (omega arith), power-four x)

three-light : (x y z i : ℕ) → suc x ≤ i → suc y ≤ i → suc z ≤ i → power x + (power y + (power z + 3)) < power i
three-light x y z i p q r =
    omega (arith, power-below x i (omega arith), power-below y i (omega arith), power-below z i (omega arith), power-four x, power-four y, power-four z)

pub none-light : (i : ℕ) → 0 < power i
none-light i = omega (arith, power-four i)

arguments-light : (i : ℕ) (rest : Arguments) → arguments_reach rest ≤ i → arguments_weight rest < power i
arguments-light i Zero h = none-light i
arguments-light i (One x) h = one-light x i h
arguments-light i (Two x y) h = two-light x y i (omega arith) (omega arith)
arguments-light i (Three x y z) h = three-light x y z i (omega arith) (omega arith) (omega arith)
arguments-light i More h = none-light i

pub plan-light : (i : ℕ) (n : Node) → reach n ≤ i → plan_weight (plan_of n) < power i
plan-light i (node.Either x y) h = two-light x y i (omega arith) (omega arith)
plan-light i (node.Both x y) h = two-light x y i (omega arith) (omega arith)
plan-light i (node.Not x) h = one-light x i h
plan-light i (node.Compare how x y) h = two-light x y i (omega arith) (omega arith)
plan-light i (node.Matches x k wanted) h = one-light x i h
plan-light i (node.InAcl x k wanted) h = one-light x i h
plan-light i (node.Sum x y) h = two-light x y i (omega arith) (omega arith)
plan-light i (node.Difference x y) h = two-light x y i (omega arith) (omega arith)
plan-light i (node.Substitute all x k y) h = two-light x y i (omega arith) (omega arith)
plan-light i (node.Xkey soft x) h = one-light x i h
plan-light i (node.DirectorFor k x) h = one-light x i h
plan-light i (node.Stored k arguments) h = arguments-light i arguments h
plan-light i _ h = none-light i
