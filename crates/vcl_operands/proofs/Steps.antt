-- A step of an evaluation changes nothing of what it comes to, and lessens its weight.
use Rattle.std.proofs.Common.{◌≡◌, ◌<◌, ◌+◌, ℕ, Bool, true, false, List, [], ◌∷◌, ◌++◌, Option, Some, None, option_map, option_and_then, if◌then◌else◌, refl, sym, ap, ◌∙◌, subst, arith, slice_get}
use Rattle.std.specs.Bool.{beq}
use Rattle.std.specs.Prelude.{IsSome}
use Rattle.vcl_values.specs.declared.value.Value.{Value}
use Rattle.vcl_values.specs.declared.value.Value.TheVariants as value
use Rattle.vcl_values.specs.Values.{truth_of}
use Rattle.vcl_code.specs.declared.node.Arguments.{Arguments}
use Rattle.vcl_code.specs.declared.node.Arguments.TheVariants.{Zero, One, Two, Three, More}
use Rattle.vcl_code.specs.declared.node.Node.{Node}
use Rattle.vmod_host.specs.declared.signature.Stored.{Stored}
use Rattle.vcl_context.specs.declared.turn.Answer.{Answer}
use Rattle.vcl_context.specs.declared.turn.Command.TheVariants.{Xkey}
use Rattle.vcl_program.specs.declared.code.Code.{Code}
use Rattle.vcl_operands.specs.declared.frame.Doing.{Doing}
use Rattle.vcl_operands.specs.declared.frame.Doing.TheVariants as doing
use Rattle.vcl_operands.specs.declared.frame.Frame.{Frame}
use Rattle.vcl_operands.specs.declared.frame.Frame.TheVariants as frame
use Rattle.vcl_operands.specs.declared.frame.Plan.{Plan}
use Rattle.vcl_operands.specs.declared.frame.Plan.TheVariants as plan
use Rattle.vcl_operands.specs.declared.frame.Unary.TheVariants as unary
use Rattle.vcl_operands.specs.Falls.{Falls}
use Rattle.vcl_operands.specs.Meaning.{Operand, decided_by}
use Rattle.vcl_operands.specs.Nodes.{World, changed, combined, onward, with_rest, value_at, left_of, rest_of, given_if, leaf, plan_of, planned}
use Rattle.vcl_operands.specs.Outs.{Out, On, Ends, Asks, Stuck, and_then, known_on, made_on, ask, number_of, IsSure}
use Rattle.vcl_operands.specs.Steps.{Step, step, stay, given_due, called_step, decided_step, purge_due, given_step, planned_step, entered_step}
use Rattle.vcl_operands.specs.Values.{as_text, applied}
use Rattle.vcl_operands.specs.Weights.{power, weight, frames_weight, arguments_weight, plan_weight}
use Rattle.vcl_operands.proofs.Binds.{bind_bind, sure-along, some-before}
use Rattle.vcl_operands.proofs.Depths.{at-node, at-none}
use Rattle.vcl_operands.proofs.Weights.{plan-light}

-- what is left behind a step, if there is one
abbrev pub behind_step : World → Option Step → Operand
behind_step w None s = Stuck
behind_step w (Some next) s = rest_of w next.next next.waiting s

made-behind : (w : World) (o : Option (Option Value)) (fs : List Frame) (s : List Answer) → and_then (made_on o s) (left_of w fs) ≡ behind_step w (option_map (stay fs) (given_due o)) s
made-behind w None fs s = refl
made-behind w (Some None) fs s = refl
made-behind w (Some (Some v)) fs s = refl

called-behind : (w : World) (k : ℕ) (given : List Value) (rest : Arguments) (fs : List Frame) (s : List Answer)
    → and_then (with_rest w.stored (value_at w) k rest given s) (left_of w fs) ≡ behind_step w (called_step w.stored k given rest fs) s
called-behind w k given Zero fs s = made-behind w (applied w.stored k given) fs s
called-behind w k given (One x) fs s = bind_bind (value_at w x s) (onward w (value_at w) (frame.Apply k given Zero)) (left_of w fs)
called-behind w k given (Two x y) fs s = bind_bind (value_at w x s) (onward w (value_at w) (frame.Apply k given (One y))) (left_of w fs)
called-behind w k given (Three x y z) fs s = bind_bind (value_at w x s) (onward w (value_at w) (frame.Apply k given (Two y z))) (left_of w fs)
called-behind w k given More fs s = refl

chosen-behind : (w : World) (decided : Bool) (x : ℕ) (decides : Bool) (fs : List Frame) (s : List Answer)
    → and_then (if decides then On (value.Bool decided) s else and_then (value_at w x s) (onward w (value_at w) (frame.One unary.Truth))) (left_of w fs)
    ≡ behind_step w (if decides then Some (step (doing.Give (value.Bool decided)) fs) else Some (step (doing.Evaluate x) (frame.One unary.Truth ∷ fs))) s
chosen-behind w decided x true fs s = refl
chosen-behind w decided x false fs s = bind_bind (value_at w x s) (onward w (value_at w) (frame.One unary.Truth)) (left_of w fs)

decided-behind : (w : World) (decided : Bool) (x : ℕ) (left : Option Bool) (fs : List Frame) (s : List Answer)
    → and_then (decided_by decided (value_at w x) left s) (left_of w fs) ≡ behind_step w (decided_step decided x left fs) s
decided-behind w decided x None fs s = refl
decided-behind w decided x (Some left) fs s = chosen-behind w decided x (beq left decided) fs s

purged-behind : (w : World) (soft : Bool) (keys : Option (List ℕ)) (fs : List Frame) (s : List Answer)
    → and_then (and_then (known_on keys s) (λ keys s. and_then (ask (Xkey keys soft) s) (λ answer. On (value.Int (number_of answer))))) (left_of w fs)
    ≡ behind_step w (Some (step (purge_due soft keys) fs)) s
purged-behind w soft None fs s = refl
purged-behind w soft (Some keys) fs s = bind_bind (ask (Xkey keys soft) s) (λ answer. On (value.Int (number_of answer))) (left_of w fs)

-- a value for what waits on top
pub given-behind : (w : World) (f : Frame) (v : Value) (fs : List Frame) (s : List Answer) → left_of w (f ∷ fs) v s ≡ behind_step w (given_step w.code w.stored f v fs) s
given-behind w (frame.One what) v fs s = made-behind w (changed w.code what v) fs s
given-behind w (frame.Left what x) v fs s = bind_bind (value_at w x s) (onward w (value_at w) (frame.Right what v)) (left_of w fs)
given-behind w (frame.Right what u) v fs s = made-behind w (combined w.code what u v) fs s
given-behind w (frame.Decide decided x) v fs s = decided-behind w decided x (truth_of v) fs s
given-behind w (frame.Purge soft) v fs s = purged-behind w soft (as_text v) fs s
given-behind w (frame.Apply k given rest) v fs s = called-behind w k (given ++ v ∷ []) rest fs s

-- a node
planned-behind : (w : World) (p : Plan) (fs : List Frame) (s : List Answer) → and_then (planned w (value_at w) p s) (left_of w fs) ≡ behind_step w (planned_step w p fs) s
planned-behind w (plan.First x f) fs s = bind_bind (value_at w x s) (onward w (value_at w) f) (left_of w fs)
planned-behind w (plan.Calls k arguments) fs s = called-behind w k [] arguments fs s
planned-behind w (plan.Leaf n) fs s = made-behind w (leaf w.code w.context n) fs s

pub entered-behind : (w : World) → Falls w.code.arena.nodes → (i : ℕ) (fs : List Frame) (s : List Answer) → and_then (value_at w i s) (left_of w fs) ≡ behind_step w (entered_step w i fs) s
entered-behind w falls i fs s = by-node (slice_get w.code.arena.nodes i) refl
  where
    by-node : (o : Option Node) → slice_get w.code.arena.nodes i ≡ o → and_then (value_at w i s) (left_of w fs) ≡ behind_step w (option_and_then (λ n. planned_step w (plan_of n) fs) o) s
    by-node None e = ap (λ (o : Out (List Answer) Value). and_then o (left_of w fs)) (at-none w i s e)
    by-node (Some n) e = ap (λ (o : Out (List Answer) Value). and_then o (left_of w fs)) (at-node w falls i n e s) ∙ planned-behind w (plan_of n) fs s

-- an evaluation that is at a node, or at a value for what waits on top
pub at-evaluate : (w : World) → Falls w.code.arena.nodes → (first : Operand) (d : Doing) (fs : List Frame) (i : ℕ) → ((s : List Answer) → first s ≡ rest_of w d fs s) → d ≡ doing.Evaluate i
    → (s : List Answer) → first s ≡ behind_step w (entered_step w i fs) s
at-evaluate w falls first d fs i same e s = same s ∙ ap (λ (x : Doing). rest_of w x fs s) e ∙ entered-behind w falls i fs s

pub at-give : (w : World) (first : Operand) (d : Doing) (fs gs : List Frame) (f : Frame) (v : Value) → ((s : List Answer) → first s ≡ rest_of w d fs s) → d ≡ doing.Give v → fs ≡ f ∷ gs
    → (s : List Answer) → first s ≡ behind_step w (given_step w.code w.stored f v gs) s
at-give w first d fs gs f v same e q s =
    same s ∙ ap (λ (x : Doing). rest_of w x fs s) e ∙ ap (λ (l : List Frame). left_of w l v s) q ∙ given-behind w f v gs s

-- what isn't stuck has a step
pub step-sure : (w : World) (o : Option Step) (x : Out (List Answer) Value) (s : List Answer) → x ≡ behind_step w o s → IsSure x → IsSome o
step-sure w (Some next) x s e h = refl
step-sure w None x s e h = absurd (sure-along x Stuck e h)

-- a node without parts that has a step has a value
pub leaf-some : (w : World) (i : ℕ) (n m : Node) (fs : List Frame) → Some n ≡ slice_get w.code.arena.nodes i → plan.Leaf m ≡ plan_of n → IsSome (entered_step w i fs)
    → IsSome (leaf w.code w.context m)
leaf-some w i n m fs e q h =
    let P : Option Node → Type 0 = λ o. IsSome (option_and_then (λ k. planned_step w (plan_of k) fs) o) in
    let Q : Plan → Type 0 = λ p. IsSome (planned_step w p fs) in
    some-before given_if (leaf w.code w.context m) (some-before (stay fs) (given_due (leaf w.code w.context m)) (subst Q (sym q) (subst P (sym e) h)))

-- the rest of an evaluation that a step has come to
pub stepped : (w : World) (o : Option Step) (x : Out (List Answer) Value) (next : Doing) (new : List Frame) (s : List Answer) → x ≡ behind_step w o s → o ≡ Some (step next new)
    → x ≡ rest_of w next new s
stepped w o x next new s e h = e ∙ ap (λ (p : Option Step). behind_step w p s) h

-- weights
abbrev pub LessBehind : ℕ → Option Step → Type 0
LessBehind n None = Unit {0}
LessBehind n (Some next) = weight next.next next.waiting < n

pub less-behind : (n : ℕ) (o : Option Step) (next : Doing) (new : List Frame) → LessBehind n o → o ≡ Some (step next new) → weight next new < n
less-behind n o next new h e = subst (λ (p : Option Step). LessBehind n p) e h

made-less : (n : ℕ) (fs : List Frame) (o : Option (Option Value)) → frames_weight fs < n → LessBehind n (option_map (stay fs) (given_due o))
made-less n fs None h = tt
made-less n fs (Some None) h = omega (arith, h)
made-less n fs (Some (Some v)) h = omega (arith, h)

called-less : (n : ℕ) (stored : List Stored) (k : ℕ) (given : List Value) (rest : Arguments) (fs : List Frame) → arguments_weight rest + frames_weight fs < n
    → LessBehind n (called_step stored k given rest fs)
called-less n stored k given Zero fs h = made-less n fs (applied stored k given) (omega (arith, h))
called-less n stored k given (One x) fs h = omega (arith, h)
called-less n stored k given (Two x y) fs h = omega (arith, h)
called-less n stored k given (Three x y z) fs h = omega (arith, h)
called-less n stored k given More fs h = tt

chosen-less : (decided : Bool) (x : ℕ) (decides : Bool) (fs : List Frame)
    → LessBehind (frames_weight (frame.Decide decided x ∷ fs)) (if decides then Some (step (doing.Give (value.Bool decided)) fs) else Some (step (doing.Evaluate x) (frame.One unary.Truth ∷ fs)))
chosen-less decided x true fs = omega arith
chosen-less decided x false fs = omega arith

decided-less : (decided : Bool) (x : ℕ) (left : Option Bool) (fs : List Frame) → LessBehind (frames_weight (frame.Decide decided x ∷ fs)) (decided_step decided x left fs)
decided-less decided x None fs = tt
decided-less decided x (Some left) fs = chosen-less decided x (beq left decided) fs

purged-less : (soft : Bool) (keys : Option (List ℕ)) (fs : List Frame) → LessBehind (frames_weight (frame.Purge soft ∷ fs)) (Some (step (purge_due soft keys) fs))
purged-less soft None fs = omega arith
purged-less soft (Some keys) fs = omega arith

pub given-less : (code : Code) (stored : List Stored) (f : Frame) (v : Value) (fs : List Frame) → LessBehind (frames_weight (f ∷ fs)) (given_step code stored f v fs)
given-less code stored (frame.One what) v fs = made-less (frames_weight (frame.One what ∷ fs)) fs (changed code what v) (omega arith)
given-less code stored (frame.Left what x) v fs = omega arith
given-less code stored (frame.Right what u) v fs = made-less (frames_weight (frame.Right what u ∷ fs)) fs (combined code what u v) (omega arith)
given-less code stored (frame.Decide decided x) v fs = decided-less decided x (truth_of v) fs
given-less code stored (frame.Purge soft) v fs = purged-less soft (as_text v) fs
given-less code stored (frame.Apply k given rest) v fs = called-less (frames_weight (frame.Apply k given rest ∷ fs)) stored k (given ++ v ∷ []) rest fs (omega arith)

planned-less : (w : World) (p : Plan) (fs : List Frame) (n : ℕ) → plan_weight p < n → LessBehind (n + frames_weight fs) (planned_step w p fs)
planned-less w (plan.First x f) fs n h = omega (arith, h)
planned-less w (plan.Calls k arguments) fs n h = called-less (n + frames_weight fs) w.stored k [] arguments fs (omega (arith, h))
planned-less w (plan.Leaf m) fs n h = made-less (n + frames_weight fs) fs (leaf w.code w.context m) (omega (arith, h))

pub entered-less : (w : World) → Falls w.code.arena.nodes → (i : ℕ) (fs : List Frame) → LessBehind (weight (doing.Evaluate i) fs) (entered_step w i fs)
entered-less w falls i fs = by-node (slice_get w.code.arena.nodes i) refl
  where
    by-node : (o : Option Node) → slice_get w.code.arena.nodes i ≡ o → LessBehind (weight (doing.Evaluate i) fs) (option_and_then (λ n. planned_step w (plan_of n) fs) o)
    by-node None e = tt
    by-node (Some n) e = planned-less w (plan_of n) fs (power i) (plan-light i n (falls i n e))

pub give-less : (n : ℕ) (d : Doing) (fs gs : List Frame) (f : Frame) (v : Value) → d ≡ doing.Give v → fs ≡ f ∷ gs → n < frames_weight (f ∷ gs) → n < weight d fs
give-less n d fs gs f v e q h = rw (e, q) (omega (arith, h))

pub evaluate-less : (n i : ℕ) (d : Doing) (fs : List Frame) → d ≡ doing.Evaluate i → n < weight (doing.Evaluate i) fs → n < weight d fs
evaluate-less n i d fs e h = rw e h

-- an expression alone
pub alone-sure : (w : World) (fs : List Frame) (o : Out (List Answer) Value) → fs ≡ [] → IsSure o → IsSure (and_then o (left_of w fs))
alone-sure w fs o e h = let P : List Frame → Type 0 = λ l. IsSure (and_then o (left_of w l)) in subst P (sym e) (by-out o h)
  where
    by-out : (o : Out (List Answer) Value) → IsSure o → IsSure (and_then o (left_of w []))
    by-out (On v s) h = tt
    by-out (Ends word s) h = tt
    by-out (Asks command) h = tt
    by-out Stuck h = absurd h
