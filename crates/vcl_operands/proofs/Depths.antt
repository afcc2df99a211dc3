-- What a node is worth doesn't hang on the depth, where its parts have smaller numbers.
use Rattle.std.proofs.Common.{◌≡◌, ◌≤◌, ◌<◌, ℕ, zero, suc, Bool, true, false, length, List, [], ◌∷◌, ◌++◌, Option, Some, None, refl, ap, ◌∙◌, arith, slice_get}
use Rattle.std.proofs.lemmas.Option.{slice_get_within}
use Rattle.vcl_code.specs.declared.node.Arguments.{Arguments}
use Rattle.vcl_code.specs.declared.node.Arguments.TheVariants.{Zero, One, Two, Three, More}
use Rattle.vcl_code.specs.declared.node.Node.{Node}
use Rattle.vcl_code.specs.declared.node.Node.TheVariants as node
use Rattle.vcl_values.specs.declared.value.Value.{Value}
use Rattle.vcl_context.specs.declared.turn.Answer.{Answer}
use Rattle.vcl_operands.specs.declared.frame.Binary.{Binary}
use Rattle.vcl_operands.specs.declared.frame.Binary.TheVariants as binary
use Rattle.vcl_operands.specs.declared.frame.Frame.TheVariants as frame
use Rattle.vcl_operands.specs.declared.frame.Plan.TheVariants as plan
use Rattle.vcl_operands.specs.declared.frame.Unary.{Unary}
use Rattle.vcl_operands.specs.declared.frame.Unary.TheVariants as unary
use Rattle.vcl_operands.specs.Outs.{Stuck, and_then, made_on}
use Rattle.vcl_operands.specs.Meaning.{Operand, decides, purged}
use Rattle.vcl_operands.specs.Falls.{arguments_reach, reach, Falls}
use Rattle.vcl_operands.specs.Nodes.{World, with_none, with_rest, changed, combined, planned, node_value, known_value, value_within, value_at}

-- both give the same below a number
abbrev pub SameBelow : ℕ → (ℕ → Operand) → (ℕ → Operand) → Type 0
SameBelow i f g = (x : ℕ) → x < i → f x ≡ g x

along1 : (F : Operand → Operand) (p q : Operand) → p ≡ q → F p ≡ F q
along1 F p q e = ap F e

along2 : (F : Operand → Operand → Operand) (p q r t : Operand) → p ≡ q → r ≡ t → F p r ≡ F q t
along2 F p q r t e f = ap (λ (x : Operand). F x r) e ∙ ap (F q) f

along3 : (F : Operand → Operand → Operand → Operand) (p q r t u v : Operand) → p ≡ q → r ≡ t → u ≡ v → F p r u ≡ F q t v
along3 F p q r t u v e f g = ap (λ (x : Operand). F x r u) e ∙ along2 (F q) r t u v f g

one-rest : (w : World) (f g : ℕ → Operand) (k x : ℕ) (given : List Value) → f x ≡ g x → with_rest w.stored f k (One x) given ≡ with_rest w.stored g k (One x) given
one-rest w f g k x given e = along1 (λ (p : Operand) (s : List Answer). and_then (p s) (λ v. with_none w.stored k (given ++ v ∷ []))) (f x) (g x) e

two-rest : (w : World) (f g : ℕ → Operand) (k x y : ℕ) (given : List Value) → f x ≡ g x → f y ≡ g y
    → with_rest w.stored f k (Two x y) given ≡ with_rest w.stored g k (Two x y) given
two-rest w f g k x y given e d =
    along2 (λ (p q : Operand) (s : List Answer). and_then (p s) (λ v s. and_then (q s) (λ u. with_none w.stored k ((given ++ v ∷ []) ++ u ∷ [])))) (f x) (g x) (f y) (g y) e d

three-rest : (w : World) (f g : ℕ → Operand) (k x y z : ℕ) (given : List Value) → f x ≡ g x → f y ≡ g y → f z ≡ g z
    → with_rest w.stored f k (Three x y z) given ≡ with_rest w.stored g k (Three x y z) given
three-rest w f g k x y z given e d c =
    along3 (λ (p q r : Operand) (s : List Answer). and_then (p s) (λ v s. and_then (q s) (λ u s. and_then (r s) (λ t. with_none w.stored k (((given ++ v ∷ []) ++ u ∷ []) ++ t ∷ [])))))
    (f x) (g x) (f y) (g y) (f z) (g z) e d c

arguments-same : (w : World) (f g : ℕ → Operand) (i k : ℕ) (rest : Arguments) (given : List Value) → arguments_reach rest ≤ i → SameBelow i f g
    → with_rest w.stored f k rest given ≡ with_rest w.stored g k rest given
arguments-same w f g i k Zero given r h = refl
arguments-same w f g i k (One x) given r h = one-rest w f g k x given (h x (omega arith))
arguments-same w f g i k (Two x y) given r h = two-rest w f g k x y given (h x (omega arith)) (h y (omega arith))
arguments-same w f g i k (Three x y z) given r h = three-rest w f g k x y z given (h x (omega arith)) (h y (omega arith)) (h z (omega arith))
arguments-same w f g i k More given r h = refl

one-same : (w : World) (f g : ℕ → Operand) (x : ℕ) (what : Unary) → f x ≡ g x → planned w f (plan.First x (frame.One what)) ≡ planned w g (plan.First x (frame.One what))
one-same w f g x what e = along1 (λ (p : Operand) (s : List Answer). and_then (p s) (λ v. made_on (changed w.code what v))) (f x) (g x) e

purge-same : (w : World) (f g : ℕ → Operand) (x : ℕ) (soft : Bool) → f x ≡ g x → planned w f (plan.First x (frame.Purge soft)) ≡ planned w g (plan.First x (frame.Purge soft))
purge-same w f g x soft e = along1 (λ (p : Operand) (s : List Answer). and_then (p s) (purged soft)) (f x) (g x) e

left-same : (w : World) (f g : ℕ → Operand) (x y : ℕ) (what : Binary) → f x ≡ g x → f y ≡ g y
    → planned w f (plan.First x (frame.Left what y)) ≡ planned w g (plan.First x (frame.Left what y))
left-same w f g x y what e d =
    along2 (λ (p q : Operand) (s : List Answer). and_then (p s) (λ v s. and_then (q s) (λ u. made_on (combined w.code what v u)))) (f x) (g x) (f y) (g y) e d

decide-same : (w : World) (f g : ℕ → Operand) (x y : ℕ) (decided : Bool) → f x ≡ g x → f y ≡ g y
    → planned w f (plan.First x (frame.Decide decided y)) ≡ planned w g (plan.First x (frame.Decide decided y))
decide-same w f g x y decided e d = along2 (λ (p q : Operand) (s : List Answer). and_then (p s) (decides decided q)) (f x) (g x) (f y) (g y) e d

node-same : (w : World) (f g : ℕ → Operand) (i : ℕ) (n : Node) → reach n ≤ i → SameBelow i f g → node_value w f n ≡ node_value w g n
node-same w f g i (node.Either x y) r h = decide-same w f g x y true (h x (omega arith)) (h y (omega arith))
node-same w f g i (node.Both x y) r h = decide-same w f g x y false (h x (omega arith)) (h y (omega arith))
node-same w f g i (node.Not x) r h = one-same w f g x unary.Not (h x (omega arith))
node-same w f g i (node.Compare how x y) r h = left-same w f g x y (binary.Compare how) (h x (omega arith)) (h y (omega arith))
node-same w f g i (node.Matches x k wanted) r h = one-same w f g x (unary.Match k wanted) (h x (omega arith))
node-same w f g i (node.InAcl x k wanted) r h = one-same w f g x (unary.Seek k wanted) (h x (omega arith))
node-same w f g i (node.Sum x y) r h = left-same w f g x y binary.Add (h x (omega arith)) (h y (omega arith))
node-same w f g i (node.Difference x y) r h = left-same w f g x y binary.Subtract (h x (omega arith)) (h y (omega arith))
node-same w f g i (node.Substitute all x k y) r h = left-same w f g x y (binary.Substitute all k) (h x (omega arith)) (h y (omega arith))
node-same w f g i (node.Xkey soft x) r h = purge-same w f g x soft (h x (omega arith))
node-same w f g i (node.DirectorFor k x) r h = one-same w f g x (unary.Direct k) (h x (omega arith))
node-same w f g i (node.Stored k arguments) r h = arguments-same w f g i k arguments [] r h
node-same w f g i _ r h = refl

known-same : (w : World) (f g : ℕ → Operand) (i : ℕ) (o : Option Node) → ((n : Node) → o ≡ Some n → reach n ≤ i) → SameBelow i f g → known_value w f o ≡ known_value w g o
known-same w f g i None r h = refl
known-same w f g i (Some n) r h = node-same w f g i n (r n refl) h

depth-same : (w : World) → Falls w.code.arena.nodes → (m n i : ℕ) → i < m → i < n → value_within m w i ≡ value_within n w i
unfolding value_within
depth-same w falls zero n i p q = absurd (omega arith)
depth-same w falls (suc m) zero i p q = absurd (omega arith)
depth-same w falls (suc m) (suc n) i p q =
    known-same w (value_within m w) (value_within n w) i (slice_get w.code.arena.nodes i) (λ x e. falls i x e)
    (λ x low. depth-same w falls m n x (omega arith) (omega arith))

within-node : (w : World) → Falls w.code.arena.nodes → (d i : ℕ) (n : Node) → slice_get w.code.arena.nodes i ≡ Some n → i < d → i < length w.code.arena.nodes
    → value_within d w i ≡ node_value w (value_at w) n
unfolding value_within value_at
within-node w falls zero i n e p q = absurd (omega arith)
within-node w falls (suc d) i n e p q =
    ap (λ (o : Option Node). known_value w (value_within d w) o) e
    ∙ node-same w (value_within d w) (value_within (length w.code.arena.nodes) w) i n (falls i n e)
    (λ x low. depth-same w falls d (length w.code.arena.nodes) x (omega arith) (omega arith))

-- a node by what its parts are worth
pub at-node : (w : World) → Falls w.code.arena.nodes → (i : ℕ) (n : Node) → slice_get w.code.arena.nodes i ≡ Some n → (s : List Answer) → value_at w i s ≡ node_value w (value_at w) n s
unfolding value_at
at-node w falls i n e s =
    let q : i < length w.code.arena.nodes = slice_get_within w.code.arena.nodes i n e in
    ap (λ (o : Operand). o s) (within-node w falls (length w.code.arena.nodes) i n e q q)

within-none : (w : World) (d i : ℕ) (s : List Answer) → slice_get w.code.arena.nodes i ≡ None → value_within d w i s ≡ Stuck
unfolding value_within
within-none w zero i s e = refl
within-none w (suc d) i s e = ap (λ (o : Option Node). known_value w (value_within d w) o s) e

-- a number without a node
pub at-none : (w : World) (i : ℕ) (s : List Answer) → slice_get w.code.arena.nodes i ≡ None → value_at w i s ≡ Stuck
unfolding value_at
at-none w i s e = within-none w (length w.code.arena.nodes) i s e
