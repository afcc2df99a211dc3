-- Statements in numbers do what the statements do.
use Rattle.std.proofs.Math.Path.{fun_ext}
use Rattle.std.proofs.Common.{◌≡◌, ◌≤◌, ◌<◌, ◌+◌, ℕ, suc, Bool, true, false, List, [], ◌∷◌, ◌++◌, length, Option, Some, None, option_map, option_and_then, slice_get, nat_lt, refl, sym, ap, ◌∙◌, subst, arith}
use Rattle.vcl_tree.specs.Phrase as phrase
use Rattle.vcl_tree.specs.Phrase.{Phrase, Node, Named, More, Bound, Called, Set, Append, Unset, Jump, Return, If, ElseIf, Else}
use Rattle.vcl_values.specs.declared.value.Value.{Value}
use Rattle.vcl_values.specs.Values.{truth_of}
use Rattle.vcl_context.specs.Fields.{field_unset}
use Rattle.vcl_context.specs.declared.context.Context.{Context}
use Rattle.vmod_host.specs.declared.signature.JarUse.TheVariants as jar
use Rattle.vcl_code.specs.declared.arena.Arena.{Arena}
use Rattle.vcl_code.specs.declared.callees.Builtin.TheVariants as builtin
use Rattle.vcl_code.specs.declared.names.Callee.{Callee}
use Rattle.vcl_code.specs.declared.names.Callee.TheVariants as callee
use Rattle.vcl_code.specs.declared.node.Action.{Action}
use Rattle.vcl_code.specs.declared.node.Action.TheVariants as action
use Rattle.vcl_code.specs.declared.node.Arguments.{Arguments}
use Rattle.vcl_code.specs.declared.node.Arguments.TheVariants.{Zero, One, Two, Three, More as TooMany}
use Rattle.vcl_code.specs.declared.node.Block.{Block}
use Rattle.vcl_code.specs.declared.node.Block.TheVariants.{End}
use Rattle.vcl_code.specs.declared.node.Choice.TheVariants as choice
use Rattle.vcl_code.specs.declared.node.ReturnWord.{ReturnWord}
use Rattle.vcl_code.specs.Arenas.{Numbered, with_text}
use Rattle.vcl_code.specs.Names.{Target, Plain, Field, NoTarget, target_of, subroutine_of, word_of, callee_of}
use Rattle.vcl_code.specs.Expressions.{numbered, numbered_arguments, second_string, Given, given}
use Rattle.vcl_code.specs.Expressions.{called as numbered_call}
use Rattle.vcl_code.specs.Statements.{Acts, Arms, one_arm, chained, with_more_arms, if_acted, else_acted, set_acted, append_acted, unset_acted, call_acted, return_acted, action_of, arms_of, arm_of, actions_of, numbered_block}
use Rattle.vcl_code.specs.Statements.{with_one as acted_one, performed as performed_act}
use Rattle.vcl_program.specs.declared.code.Code.{Code}
use Rattle.vcl_context.specs.declared.turn.Answer.{Answer}
use Rattle.vcl_operands.specs.Falls.{Falls, ChoicesFall}
use Rattle.vcl_operands.specs.Later.{Later}
use Rattle.vcl_operands.specs.Outs.{Out, On, Ends, Asks, Stuck, and_then}
use Rattle.vcl_operands.specs.Meaning.{Scene, scene, Operand, value_of, operands_of}
use Rattle.vcl_operands.specs.Meaning.{called as call_value}
use Rattle.vcl_operands.specs.Nodes.{World, world, value_at}
use Rattle.vcl_operands.proofs.Growing.{get-pushed, later-trans, later-text}
use Rattle.vcl_operands.proofs.Trees.{ArgumentsMean, expression-is, arguments-are, call-is}
use Rattle.vcl_eval.specs.Returns.{with_two}
use Rattle.vcl_eval.specs.Statements.{set_to, field_to, append_to, append_field, key_given, body_given}
use Rattle.vcl_eval.specs.States.{State, Doing, in_state, nothing, set_on, set_due, ends_due, counted, banned, most_statements}
use Rattle.vcl_eval.specs.Runs.{with_operand, block_on, choice_at, plan_of, begun_by, block_done, block_at}
use Rattle.vcl_meaning.specs.Meaning.{Text, scene_in, then_with, with_value, with_only, set_target, append_target, unset_target, call_on, returned, jar_changed, performed, either_by, statement_of, branches_of, branch_of, block_of}
use Rattle.vcl_eval.proofs.Depths.{then-same, in-state-same, counted-same, SameFrom, block-is, nothing-is, block-chosen}
use Rattle.vcl_eval.proofs.Rises.{least-less}
use Rattle.vcl_meaning.proofs.Chains.{acts_done, arms_done, bind-nothing, chain-is, acts-append, acts-rise, arms-are, arms-append}
use Rattle.vcl_meaning.proofs.Growing.{chain-later, branches-later, return-later, performed-later, arm-later, actions-later, action-later}

-- a text with its numbered form
pub record Reading : Type 0 where
  pub code : Code
  pub text : Text
  pub nodes : Falls code.arena.nodes
  pub choices : ChoicesFall code.arena.branches
  pub ended : slice_get code.arena.blocks 0 ≡ Some End
  pub scenes : (c : Context) → scene code text.known.stored c ≡ scene_in text c

abbrev pub go : Reading → ℕ → Doing
go r = block_at r.code r.text.known.stored

abbrev pub acts : Reading → Action → Doing
acts r what = begun_by r.code r.text.known.stored (go r) (plan_of what)

abbrev pub world_in : Reading → State → World
world_in r s = world r.code r.text.known.stored s.context

operand-is : (r : Reading) (e : Phrase) (a : Arena) → Later (numbered r.text.known e a).arena r.code.arena → (next : Value → Doing) (s : State)
    → with_operand r.code r.text.known.stored (numbered r.text.known e a).number next s ≡ with_value r.text e next s
operand-is r e a later next s =
    ap (λ (o : Out (List Answer) Value). and_then (in_state s o) next)
    (ap (λ (o : Operand). o s.answers) (expression-is (world_in r s) r.nodes r.text.known e a later)
    ∙ ap (λ (x : Scene). value_of r.text.known x e s.answers) (r.scenes s.context))

arguments-mean : (r : Reading) (e : Phrase) (a : Arena) (s : State) → Later (numbered_arguments r.text.known e a).arena r.code.arena
    → ArgumentsMean (world_in r s) (numbered_arguments r.text.known e a).arguments (operands_of r.text.known (scene_in r.text s.context) e)
arguments-mean r e a s later =
    subst (λ (x : Scene). ArgumentsMean (world_in r s) (numbered_arguments r.text.known e a).arguments (operands_of r.text.known x e)) (r.scenes s.context)
    (arguments-are (world_in r s) r.nodes r.text.known e a later)

-- `set`, `+=` and `unset`
set-is : (r : Reading) (target : Target) (e : Phrase) (a : Arena) → Later (set_acted target (numbered r.text.known e a)).arena r.code.arena → (s : State)
    → acts r (set_acted target (numbered r.text.known e a)).action s ≡ set_target r.text target e s
set-is r (Plain variable) e a later s = operand-is r e a later (λ v s. set_due (set_to variable v s.context) s) s
set-is r (Field message name) e a later s =
    let n : Numbered = numbered r.text.known e a in
    ap (λ (o : Option (List ℕ)). with_operand r.code r.text.known.stored n.number (λ v t. set_due (option_and_then (λ name. field_to message name v t.context) o) t) s)
    (get-pushed n.arena.texts r.code.arena.texts name later.texts)
    ∙ operand-is r e a (later-trans n.arena (with_text name n.arena).arena r.code.arena (later-text name n.arena) later) (λ v s. set_due (field_to message name v s.context) s) s
set-is r NoTarget e a later s = refl

append-is : (r : Reading) (target : Target) (e : Phrase) (a : Arena) → Later (append_acted target (numbered r.text.known e a)).arena r.code.arena → (s : State)
    → acts r (append_acted target (numbered r.text.known e a)).action s ≡ append_target r.text target e s
append-is r (Plain variable) e a later s = operand-is r e a later (λ v s. set_due (append_to variable v s.context) s) s
append-is r (Field message name) e a later s =
    let n : Numbered = numbered r.text.known e a in
    ap (λ (o : Option (List ℕ)). with_operand r.code r.text.known.stored n.number (λ v t. set_due (option_and_then (λ name. append_field message name v t.context) o) t) s)
    (get-pushed n.arena.texts r.code.arena.texts name later.texts)
    ∙ operand-is r e a (later-trans n.arena (with_text name n.arena).arena r.code.arena (later-text name n.arena) later) (λ v s. set_due (append_field message name v s.context) s) s
append-is r NoTarget e a later s = refl

unset-is : (r : Reading) (target : Target) (a : Arena) → Later (unset_acted target a).arena r.code.arena → (s : State) → acts r (unset_acted target a).action s ≡ unset_target target s
unset-is r (Plain variable) a later s = refl
unset-is r (Field message name) a later s =
    ap (λ (o : Option (List ℕ)). set_due (option_map (λ name. Some (field_unset message name s.context)) o) s) (get-pushed a.texts r.code.arena.texts name later.texts)
unset-is r NoTarget a later s = refl

-- return
many-returned : (word : ReturnWord) (ops : List Operand) (s : State) → 3 < length ops → Stuck ≡ returned (Some word) ops s
many-returned word [] s h = absurd (omega arith)
many-returned word (x ∷ []) s h = absurd (omega arith)
many-returned word (x ∷ y ∷ []) s h = absurd (omega arith)
many-returned word (x ∷ y ∷ z ∷ more) s h = refl

second-kept : (r : Reading) (y : ℕ) (next : Value → Value → Doing) (s : State) (o : Out (List Answer) Value)
    → and_then (in_state s o) (λ v. with_operand r.code r.text.known.stored y (next v)) ≡ and_then (in_state s o) (λ v. then_with (value_at (world_in r s) y) (next v))
second-kept r y next s (On v answers) = refl
second-kept r y next s (Ends word answers) = refl
second-kept r y next s (Asks command) = refl
second-kept r y next s Stuck = refl

returned-is : (r : Reading) (word : Option ReturnWord) (g : Given) (args : Arguments) (ops : List Operand) (s : State) → g.arguments ≡ args → ArgumentsMean (world_in r s) args ops
    → acts r (return_acted word g).action s ≡ returned word ops s
returned-is r None g args ops s e h = refl
returned-is r (Some word) g args ops s e h = ap (λ (x : Arguments). acts r (action.Return word x) s) e ∙ by-arguments args h
  where
    by-arguments : (args : Arguments) → ArgumentsMean (world_in r s) args ops → acts r (action.Return word args) s ≡ returned (Some word) ops s
    by-arguments Zero h = sym (ap (λ (l : List Operand). returned (Some word) l s) h)
    by-arguments (One x) h = sym (ap (λ (l : List Operand). returned (Some word) l s) h)
    by-arguments (Two x y) h =
        second-kept r y (λ v w. ends_due (with_two word v w)) s (value_at (world_in r s) x s.answers) ∙ sym (ap (λ (l : List Operand). returned (Some word) l s) h)
    by-arguments (Three x y z) h = sym (ap (λ (l : List Operand). returned (Some word) l s) h)
    by-arguments TooMany h = many-returned word ops s h

-- functions
many-only : (ops : List Operand) (next : Value → Doing) (s : State) → 3 < length ops → Stuck ≡ with_only ops next s
many-only [] next s h = absurd (omega arith)
many-only (x ∷ []) next s h = absurd (omega arith)
many-only (x ∷ y ∷ more) next s h = refl

only-is : (r : Reading) (make : ℕ → Action) (next : Value → Doing) (args : Arguments) (a : Arena) (ops : List Operand) (s : State) → ArgumentsMean (world_in r s) args ops
    → ((x : ℕ) → acts r (make x) s ≡ with_operand r.code r.text.known.stored x next s) → acts r (acted_one make args a).action s ≡ with_only ops next s
only-is r make next Zero a ops s h same = sym (ap (λ (l : List Operand). with_only l next s) h)
only-is r make next (One x) a ops s h same = same x ∙ sym (ap (λ (l : List Operand). with_only l next s) h)
only-is r make next (Two x y) a ops s h same = sym (ap (λ (l : List Operand). with_only l next s) h)
only-is r make next (Three x y z) a ops s h same = sym (ap (λ (l : List Operand). with_only l next s) h)
only-is r make next TooMany a ops s h same = many-only ops next s h

-- what is done with a call's value
evaluated-is : (r : Reading) (f : Callee) (second : Option (List ℕ)) (g : Given) (ops : List Operand) (done : Operand → Out State (Unit {0})) (s : State) → ArgumentsMean (world_in r s) g.arguments ops
    → Later (numbered_call f second g).arena r.code.arena
    → done (value_at (world_in r s) (numbered_call f second g).number) ≡ done (call_value (scene_in r.text s.context) f second ops)
evaluated-is r f second g ops done s h later =
    ap done (call-is (world_in r s) r.nodes f second g ops h later ∙ ap {B = Operand} (λ (x : Scene). call_value x f second ops) (r.scenes s.context))

forgotten-is : (r : Reading) (f : Callee) (second : Option (List ℕ)) (g : Given) (ops : List Operand) (s : State) → ArgumentsMean (world_in r s) g.arguments ops
    → Later (numbered_call f second g).arena r.code.arena
    → acts r (action.Evaluate (numbered_call f second g).number) s ≡ then_with (call_value (scene_in r.text s.context) f second ops) (λ v. nothing) s
forgotten-is r f second g ops s h later = evaluated-is r f second g ops (λ (o : Operand). then_with o (λ v. nothing) s) s h later

performed-is : (r : Reading) (f : Callee) (second : Option (List ℕ)) (g : Given) (ops : List Operand) (s : State) → ArgumentsMean (world_in r s) g.arguments ops
    → Later (performed_act f second g).arena r.code.arena → acts r (performed_act f second g).action s ≡ performed (scene_in r.text s.context) f second ops s
performed-is r (callee.Builtin builtin.HashData) second g ops s h later =
    only-is r action.HashData (λ v s. set_on (key_given v s.context) s) g.arguments g.arena ops s h (λ x. refl)
performed-is r (callee.Builtin builtin.Synthetic) second g ops s h later =
    only-is r action.Synthetic (λ v s. set_on (body_given v s.context) s) g.arguments g.arena ops s h (λ x. refl)
performed-is r (callee.Builtin builtin.Ban) second g ops s h later = only-is r action.Ban banned g.arguments g.arena ops s h (λ x. refl)
performed-is r (callee.Builtin (builtin.Substitute all)) second g ops s h later = forgotten-is r (callee.Builtin (builtin.Substitute all)) second g ops s h later
performed-is r (callee.Builtin (builtin.Xkey soft)) second g ops s h later = forgotten-is r (callee.Builtin (builtin.Xkey soft)) second g ops s h later
performed-is r (callee.Stored k jar.None) second g ops s h later = forgotten-is r (callee.Stored k jar.None) second g ops s h later
performed-is r (callee.Stored k jar.Asks) second g ops s h later = forgotten-is r (callee.Stored k jar.Asks) second g ops s h later
performed-is r (callee.Stored k jar.Changes) second g ops s h later =
    evaluated-is r (callee.Stored k jar.Changes) second g ops (λ (o : Operand). then_with o jar_changed s) s h later
performed-is r (callee.Director k) second g ops s h later = forgotten-is r (callee.Director k) second g ops s h later
performed-is r callee.Absent second g ops s h later = refl

-- calls that do what the numbered subroutines do, behind so many statements
abbrev pub CallsAgree : ℕ → Reading → (ℕ → Doing) → Type 0
CallsAgree n r calls = (k : ℕ) (s : State) → suc n ≤ s.statements → s.statements ≤ most_statements → calls k s ≡ block_on (go r) (slice_get r.code.customs k) s

jump-is : (n : ℕ) (r : Reading) (calls : ℕ → Doing) → CallsAgree n r calls → (k : Option ℕ) (a : Arena) (s : State) → suc n ≤ s.statements → s.statements ≤ most_statements
    → acts r (call_acted k a).action s ≡ call_on calls k s
jump-is n r calls agree (Some k) a s p q = sym (agree k s p q)
jump-is n r calls agree None a s p q = refl

either-same : (n : ℕ) (truth : Option Bool) (d e other last : Doing) → SameFrom n d e → SameFrom n other last → SameFrom n (either_by truth d other) (either_by truth e last)
either-same n None d e other last h k s p = refl
either-same n (Some true) d e other last h k s p = h s p
either-same n (Some false) d e other last h k s p = k s p

-- a statement that is counted first
counted-agrees : (n : ℕ) (d e : Doing) (s : State) → n ≤ s.statements → ((t : State) → suc n ≤ t.statements → t.statements ≤ most_statements → d t ≡ e t) → counted d s ≡ counted e s
counted-agrees n d e s p h = counted-same d e (nat_lt s.statements most_statements) s refl (λ low. h (record s { statements = s.statements + 1 }) (omega arith) (omega arith))

pub end-is : (r : Reading) (s : State) → go r 0 s ≡ nothing s
end-is r s = block-is r.code r.text.known.stored 0 s ∙ ap (λ (o : Option Block). block_done r.code r.text.known.stored (go r) o s) r.ended

ended-block : (r : Reading) (d : Acts) → Later (chained 0 d).arena r.code.arena → (s : State) → go r (chained 0 d).number s ≡ acts_done r.code r.text.known.stored d.actions s
ended-block r d later s =
    chain-is r.code r.text.known.stored d.actions 0 d.arena later s
    ∙ ap (λ (f : Doing). and_then (acts_done r.code r.text.known.stored d.actions s) (λ done. f)) (fun_ext (end-is r))
    ∙ bind-nothing (acts_done r.code r.text.known.stored d.actions s)

nothing-taken : (r : Reading) → choice_at r.code r.text.known.stored (go r) choice.Nothing ≡ nothing
nothing-taken r = fun_ext (nothing-is r.code r.text.known.stored (go r))

-- a block with nothing behind it
made-block : (n : ℕ) (r : Reading) (d : Acts) (e : Doing) → Later (chained 0 d).arena r.code.arena
    → (Later d.arena r.code.arena → SameFrom n (acts_done r.code r.text.known.stored d.actions) e) → SameFrom n (go r (chained 0 d).number) e
made-block n r d e later h s p = ended-block r d later s ∙ h (later-trans d.arena (chained 0 d).arena r.code.arena (chain-later d.actions 0 d.arena) later) s p

-- conditions of which none is left
arms-end : (n : ℕ) (r : Reading) (d : Arms) (e : Doing) → Later (if_acted choice.Nothing d).arena r.code.arena
    → (Later d.arena r.code.arena → SameFrom n (arms_done r.code r.text.known.stored d.arms nothing) e) → SameFrom n (acts r (if_acted choice.Nothing d).action) e
arms-end n r d e later h s p =
    arms-are r.code r.choices r.text.known.stored d.arms choice.Nothing d.arena later s
    ∙ ap (λ (x : Doing). arms_done r.code r.text.known.stored d.arms x s) (nothing-taken r)
    ∙ h (later-trans d.arena (if_acted choice.Nothing d).arena r.code.arena (branches-later d.arms choice.Nothing d.arena) later) s p

-- conditions and one more
abbrev pub ArmsAre : ℕ → Reading → Arms → (Doing → Doing) → Type 0
ArmsAre n r d means = Later d.arena r.code.arena → (other rest : Doing) → SameFrom (suc n) other rest → SameFrom (suc n) (arms_done r.code r.text.known.stored d.arms other) (means rest)

more-arms : (n : ℕ) (r : Reading) (d : Arms) (next : Arena → Arms) (f g : Doing → Doing) → Later d.arena (next d.arena).arena → ArmsAre n r d f → ArmsAre n r (next d.arena) g
    → ArmsAre n r (with_more_arms d next) (λ other. f (g other))
more-arms n r d next f g grows h k later other rest same s p =
    arms-append r.code r.text.known.stored d.arms (next d.arena).arms other s
    ∙ h (later-trans d.arena (next d.arena).arena r.code.arena grows later) (arms_done r.code r.text.known.stored (next d.arena).arms other) (g rest) (k later other rest same) s p

-- conditions and a last block
else-is : (n : ℕ) (r : Reading) (d : Arms) (block : Arena → Acts) (f : Doing → Doing) (e : Doing) → Later (else_acted d block).arena r.code.arena → Later d.arena (block d.arena).arena → ArmsAre n r d f
    → (Later (block d.arena).arena r.code.arena → SameFrom n (acts_done r.code r.text.known.stored (block d.arena).actions) e) → SameFrom (suc n) (acts r (else_acted d block).action) (f e)
else-is n r d block f e later grows h k s p =
    let b : Acts = block d.arena in
    let last : Numbered = chained 0 b in
    let there : Later last.arena r.code.arena = later-trans last.arena (else_acted d block).arena r.code.arena (branches-later d.arms (choice.Block last.number) last.arena) later in
    let front : Later d.arena r.code.arena =
    later-trans d.arena b.arena r.code.arena grows (later-trans b.arena last.arena r.code.arena (chain-later b.actions 0 b.arena) there) in
    arms-are r.code r.choices r.text.known.stored d.arms (choice.Block last.number) last.arena later s
    ∙ h front (choice_at r.code r.text.known.stored (go r) (choice.Block last.number)) e
    (λ t q. block-chosen r.code r.text.known.stored (go r) last.number t ∙ made-block n r b e there k t (omega arith)) s p

-- one condition with its block
arm-made-is : (n : ℕ) (r : Reading) (condition : Phrase) (block : Arena → Acts) (a : Arena) (e : Doing) → Later (numbered r.text.known condition a).arena (block (numbered r.text.known condition a).arena).arena
    → (Later (block (numbered r.text.known condition a).arena).arena r.code.arena → SameFrom n (acts_done r.code r.text.known.stored (block (numbered r.text.known condition a).arena).actions) e)
    → ArmsAre n r (one_arm (numbered r.text.known condition a) block) (λ other. with_value r.text condition (λ v. either_by (truth_of v) e other))
arm-made-is n r condition block a e grows h later other rest same s p =
    let c : Numbered = numbered r.text.known condition a in
    let b : Acts = block c.arena in
    let made : Numbered = chained 0 b in
    let there : Later c.arena r.code.arena = later-trans c.arena b.arena r.code.arena grows (later-trans b.arena made.arena r.code.arena (chain-later b.actions 0 b.arena) later) in
    operand-is r condition a there (λ v. either_by (truth_of v) (go r made.number) other) s
    ∙ in-state-same (suc n) s (value_of r.text.known (scene_in r.text s.context) condition s.answers) (λ v. either_by (truth_of v) (go r made.number) other)
    (λ v. either_by (truth_of v) e rest) p
    (λ v. either-same (suc n) (truth_of v) (go r made.number) e other rest (λ t q. made-block n r b e later h t (omega arith)) same)

-- statements and one more, which is counted first
one-more-is : (n : ℕ) (r : Reading) (d : Acts) (x : Action) (front last : Doing) → SameFrom n (acts_done r.code r.text.known.stored d.actions) front
    → ((t : State) → suc n ≤ t.statements → t.statements ≤ most_statements → acts r x t ≡ last t)
    → SameFrom n (acts_done r.code r.text.known.stored (d.actions ++ x ∷ [])) (λ s. and_then (front s) (λ done. counted last))
one-more-is n r d x front last h k s p =
    acts-append r.code r.text.known.stored d.actions x s
    ∙ then-same n (acts_done r.code r.text.known.stored d.actions s) (λ done. counted (acts r x)) (λ done. counted last)
    (least-less s.statements n (acts_done r.code r.text.known.stored d.actions s) p (acts-rise r.code r.text.known.stored d.actions s))
    (λ done t q. counted-agrees n (acts r x) last t q k)
    ∙ ap (λ (m : Out State (Unit {0})). and_then m (λ done. counted last)) (h s p)

mutual
  unfolding action_of statement_of

  pub action-is : (n : ℕ) (r : Reading) (calls : ℕ → Doing) → CallsAgree n r calls → (e : Phrase) (a : Arena) → Later (action_of r.text.known e a).arena r.code.arena → (s : State)
      → suc n ≤ s.statements → s.statements ≤ most_statements → acts r (action_of r.text.known e a).action s ≡ statement_of r.text calls e s
  action-is n r calls agree (Node Set sign (Node Bound (Named place name) e)) a later s p q = set-is r (target_of name) e a later s
  action-is n r calls agree (Node Append sign (Node Bound (Named place name) e)) a later s p q = append-is r (target_of name) e a later s
  action-is n r calls agree (Node Unset sign (Named place name)) a later s p q = unset-is r (target_of name) a later s
  action-is n r calls agree (Node Jump sign (Named place name)) a later s p q = jump-is n r calls agree (subroutine_of r.text.known name) a s p q
  action-is n r calls agree (Node Return sign (Named place word)) a later s p q = returned-is r (word_of word) (given Zero a) Zero [] s refl refl
  action-is n r calls agree (Node Return sign (Node Called (Named place word) arguments)) a later s p q =
      let g : Given = numbered_arguments r.text.known arguments a in
      returned-is r (word_of word) g g.arguments (operands_of r.text.known (scene_in r.text s.context) arguments) s refl
      (arguments-mean r arguments a s (later-trans g.arena (return_acted (word_of word) g).arena r.code.arena (return-later (word_of word) g) later))
  action-is n r calls agree (Node Called (Named place name) arguments) a later s p q =
      let g : Given = numbered_arguments r.text.known arguments a in
      performed-is r (callee_of r.text.known name) (second_string arguments) g (operands_of r.text.known (scene_in r.text s.context) arguments) s
      (arguments-mean r arguments a s (later-trans g.arena (performed_act (callee_of r.text.known name) (second_string arguments) g).arena r.code.arena
      (performed-later (callee_of r.text.known name) (second_string arguments) g) later)) later
  action-is n r calls agree (Node If sign first) a later s p q =
      arms-end (suc n) r (arm_of r.text.known first a) (branch_of r.text calls first nothing) later
      (λ there. arm-is n r calls agree first a there nothing nothing (λ t h. refl)) s p
  action-is n r calls agree (Node ElseIf front last) a later s p q =
      arms-end (suc n) r (with_more_arms (arms_of r.text.known front a) (arm_of r.text.known last)) (branches_of r.text calls front (branch_of r.text calls last nothing)) later
      (λ there. more-arms n r (arms_of r.text.known front a) (arm_of r.text.known last) (branches_of r.text calls front) (branch_of r.text calls last)
      (arm-later r.text.known last (arms_of r.text.known front a).arena) (branches-are n r calls agree front a) (arm-is n r calls agree last (arms_of r.text.known front a).arena)
      there nothing nothing (λ t h. refl)) s p
  action-is n r calls agree (Node Else front block) a later s p q =
      else-is n r (arms_of r.text.known front a) (actions_of r.text.known block) (branches_of r.text calls front) (block_of r.text calls block) later
      (actions-later r.text.known block (arms_of r.text.known front a).arena) (branches-are n r calls agree front a) (actions-are n r calls agree block (arms_of r.text.known front a).arena) s p
  action-is n r calls agree _ a later s p q = refl

  pub branches-are : (n : ℕ) (r : Reading) (calls : ℕ → Doing) → CallsAgree n r calls → (e : Phrase) (a : Arena) → ArmsAre n r (arms_of r.text.known e a) (branches_of r.text calls e)
  branches-are n r calls agree (Node If sign first) a later other rest h s p = arm-is n r calls agree first a later other rest h s p
  branches-are n r calls agree (Node ElseIf front last) a later other rest h s p =
      more-arms n r (arms_of r.text.known front a) (arm_of r.text.known last) (branches_of r.text calls front) (branch_of r.text calls last)
      (arm-later r.text.known last (arms_of r.text.known front a).arena) (branches-are n r calls agree front a) (arm-is n r calls agree last (arms_of r.text.known front a).arena)
      later other rest h s p
  branches-are n r calls agree _ a later other rest h s p = h s p

  pub arm-is : (n : ℕ) (r : Reading) (calls : ℕ → Doing) → CallsAgree n r calls → (e : Phrase) (a : Arena) → ArmsAre n r (arm_of r.text.known e a) (branch_of r.text calls e)
  arm-is n r calls agree (Node phrase.Branch condition block) a later other rest h s p =
      arm-made-is n r condition (actions_of r.text.known block) a (block_of r.text calls block) (actions-later r.text.known block (numbered r.text.known condition a).arena)
      (actions-are n r calls agree block (numbered r.text.known condition a).arena) later other rest h s p
  arm-is n r calls agree _ a later other rest h s p = h s p

  pub actions-are : (n : ℕ) (r : Reading) (calls : ℕ → Doing) → CallsAgree n r calls → (e : Phrase) (a : Arena) → Later (actions_of r.text.known e a).arena r.code.arena
      → SameFrom n (acts_done r.code r.text.known.stored (actions_of r.text.known e a).actions) (block_of r.text calls e)
  actions-are n r calls agree (Node More front statement) a later s p =
      let d : Acts = actions_of r.text.known front a in
      one-more-is n r d (action_of r.text.known statement d.arena).action (block_of r.text calls front) (statement_of r.text calls statement)
      (actions-are n r calls agree front a (later-trans d.arena (action_of r.text.known statement d.arena).arena r.code.arena (action-later r.text.known statement d.arena) later))
      (action-is n r calls agree statement d.arena later) s p
  actions-are n r calls agree _ a later s p = refl

-- a block in numbers, with the block of a number behind it
pub block-made-is : (n : ℕ) (r : Reading) (calls : ℕ → Doing) → CallsAgree n r calls → (e : Phrase) (next : ℕ) (a : Arena) → Later (numbered_block r.text.known e next a).arena r.code.arena → (s : State)
    → n ≤ s.statements → go r (numbered_block r.text.known e next a).number s ≡ and_then (block_of r.text calls e s) (λ done. go r next)
unfolding numbered_block
block-made-is n r calls agree e next a later s p =
    let d : Acts = actions_of r.text.known e a in
    chain-is r.code r.text.known.stored d.actions next d.arena later s
    ∙ ap (λ (m : Out State (Unit {0})). and_then m (λ done. go r next))
    (actions-are n r calls agree e a (later-trans d.arena (chained next d).arena r.code.arena (chain-later d.actions next d.arena) later) s p)
