-- Each node of a list of which all are above their parts reaches no further than its number.
use Rattle.std.proofs.Common.{◌≡◌, ◌≤◌, ◌<◌, ◌+◌, ℕ, zero, suc, List, [], ◌∷◌, Some, ap, ◌∙◌, subst, arith, slice_get}
use Rattle.vcl_code.specs.declared.node.Arguments.{Arguments}
use Rattle.vcl_code.specs.declared.node.Arguments.TheVariants.{Zero, One, Two, Three, More}
use Rattle.vcl_code.specs.declared.node.Branch.{Branch}
use Rattle.vcl_code.specs.declared.node.Choice.{Choice}
use Rattle.vcl_code.specs.declared.node.Choice.TheVariants as choice
use Rattle.vcl_code.specs.declared.node.Node.{Node}
use Rattle.vcl_code.specs.declared.node.Node.TheVariants as node
use Rattle.vcl_program.specs.Falling.{AreBelow, IsAbove, AllAbove, IsFalling, IsBelow, AllBelow, BranchesFall}
use Rattle.vcl_operands.specs.Falls.{arguments_reach, reach, Falls, ChoicesFall}

pub low-arguments : (i : ℕ) (g : Arguments) → AreBelow i g → arguments_reach g ≤ i
low-arguments i Zero h = omega arith
low-arguments i (One x) h = omega arith
low-arguments i (Two x y) h = omega (arith, h.0, h.1)
low-arguments i (Three x y z) h = omega (arith, h.0, h.1, h.2)
low-arguments i More h = omega arith

pub low : (i : ℕ) (n : Node) → IsAbove i n → reach n ≤ i
low i (node.Either a b) h = omega (arith, h.0, h.1)
low i (node.Both a b) h = omega (arith, h.0, h.1)
low i (node.Not a) h = omega arith
low i (node.Compare how a b) h = omega (arith, h.0, h.1)
low i (node.Matches a k truth) h = omega arith
low i (node.InAcl a k truth) h = omega arith
low i (node.Sum a b) h = omega (arith, h.0, h.1)
low i (node.Difference a b) h = omega (arith, h.0, h.1)
low i (node.Substitute all a k b) h = omega (arith, h.0, h.1)
low i (node.Xkey soft a) h = omega arith
low i (node.DirectorFor k a) h = omega arith
low i (node.Stored k arguments) h = low-arguments i arguments h
low i _ h = omega arith

above-at : (k i : ℕ) (ns : List Node) (n : Node) → AllAbove k ns → slice_get ns i ≡ Some n → IsAbove (k + i) n
above-at k i [] n h e = absurd (let q : ⊥ = cc in q)
above-at k zero (m ∷ ms) n h e = let P : Node → Type 0 = λ x. IsAbove (k + 0) x in let q : m ≡ n = cc in subst P q (let Q : ℕ → Type 0 = λ j. IsAbove j m in subst Q (omega arith) h.0)
above-at k (suc i) (m ∷ ms) n h e = let Q : ℕ → Type 0 = λ j. IsAbove j n in subst Q (omega arith) (above-at (k + 1) i ms n h.1 e)

pub falls-of : (nodes : List Node) → IsFalling nodes → Falls nodes
falls-of nodes h i n e = low i n (let Q : ℕ → Type 0 = λ j. IsAbove j n in subst Q (omega arith) (above-at 0 i nodes n h e))

below-at : (k i j : ℕ) (bs : List Branch) (b : Branch) → AllBelow k bs → slice_get bs i ≡ Some b → b.otherwise ≡ choice.Branch j → j < k + i
below-at k i j [] b h e q = absurd (let z : ⊥ = cc in z)
below-at k zero j (c ∷ cs) b h e q =
    let same : c ≡ b = cc in
    let P : Choice → Type 0 = λ x. IsBelow k x in
    let low : j < k = subst P (ap (λ (x : Branch). x.otherwise) same ∙ q) h.0 in omega arith
below-at k (suc i) j (c ∷ cs) b h e q = let low : j < k + 1 + i = below-at (k + 1) i j cs b h.1 e q in omega arith

pub choices-fall-of : (branches : List Branch) → BranchesFall branches → ChoicesFall branches
choices-fall-of branches h k j b e q = let low : j < 0 + k = below-at 0 k j branches b h e q in omega arith
