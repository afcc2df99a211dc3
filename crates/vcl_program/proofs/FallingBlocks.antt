-- Statements and blocks are numbered with each node above its parts.
use Rattle.std.proofs.Common.{◌≡◌, ℕ, ◌+◌, suc, Bool, true, false, length, List, [], ◌∷◌, ◌++◌, refl, sym, subst, Option, Some, None, add-zero, zero-add, arith}
use Rattle.std.proofs.lemmas.List.{length-append}
use Rattle.vcl_tree.specs.Phrase as phrase
use Rattle.vcl_tree.specs.Phrase.{Phrase, Node, Named, More, Bound, Called, Set, Append, Unset, Jump, Return, If, ElseIf, Else}
use Rattle.vcl_tree.specs.declared.item.Item.{Item}
use Rattle.vcl_tree.specs.declared.item.Item.TheVariants as item
use Rattle.vmod_host.specs.declared.signature.Stored.{Stored}
use Rattle.vcl_language.specs.Names.{is_reserved, subroutine_named}
use Rattle.vcl_language.specs.declared.scope.Subroutine.{Subroutine}
use Rattle.vmod_host.specs.declared.signature.JarUse.TheVariants as jar
use Rattle.vcl_code.specs.declared.arena.Arena.{Arena}
use Rattle.vcl_code.specs.declared.node.Action.{Action}
use Rattle.vcl_code.specs.declared.node.Action.TheVariants as action
use Rattle.vcl_code.specs.declared.node.Arm.{Arm}
use Rattle.vcl_code.specs.declared.node.Branch.{Branch}
use Rattle.vcl_code.specs.declared.node.Choice.{Choice}
use Rattle.vcl_code.specs.declared.node.Choice.TheVariants as choice
use Rattle.vcl_code.specs.declared.node.ReturnWord.{ReturnWord}
use Rattle.vcl_code.specs.declared.node.Arguments.{Arguments}
use Rattle.vcl_code.specs.declared.node.Arguments.TheVariants.{Zero, One}
use Rattle.vcl_code.specs.declared.node.Node.{Node as Made}
use Rattle.vcl_code.specs.declared.callees.Builtin.TheVariants as builtin
use Rattle.vcl_code.specs.declared.names.Callee.{Callee}
use Rattle.vcl_code.specs.declared.names.Callee.TheVariants as callee
use Rattle.vcl_code.specs.Arenas.{Numbered, empty}
use Rattle.vcl_symbols.specs.Known.{Known}
use Rattle.vcl_code.specs.Names.{Target, Plain, Field, NoTarget, target_of, subroutine_of, word_of, callee_of}
use Rattle.vcl_code.specs.Expressions.{numbered, numbered_arguments, second_string, Given, called}
use Rattle.vcl_code.specs.Statements.{Acts, with_chain, chained, Arms, arms_in, Chosen, branch, with_more_arms, with_arms, if_acted, set_acted, append_acted, unset_acted, call_acted, return_acted, with_one, performed, action_of, arms_of, arm_of, actions_of, numbered_block}
use Rattle.vcl_check.specs.Sentences.{known_in}
use Rattle.vcl_program.specs.Codes.{own_of, code_of}
use Rattle.vcl_program.specs.Blocks.{Heads, heads, no_bodies, own_block, with_own, all_own, body, with_body, all_bodies}
use Rattle.vcl_program.specs.Falling.{IsFalling, IsBelow, AllBelow, BranchesFall}
use Rattle.vcl_program.proofs.Falling.{shift, Step, Gives, expression-step, arguments-step, call-step}

-- the nodes and branches of one arena fall where those of another do
abbrev pub Falls : List Made → List Branch → Type 0
Falls nodes branches = IsFalling nodes × BranchesFall branches

abbrev pub Keeps : Arena → Arena → Type 0
Keeps a b = Falls a.nodes a.branches → Falls b.nodes b.branches

-- what an expression puts in
step-keeps : (a : Arena) (n : Numbered) → Step a.nodes a.branches n → Keeps a n.arena
step-keeps a n s h = (s.falls h.0, subst BranchesFall (sym s.branches) h.1)

gives-keep : (a : Arena) (g : Given) → Gives a.nodes a.branches g → Keeps a g.arena
gives-keep a g s h = (s.falls h.0, subst BranchesFall (sym s.branches) h.1)

chain-nodes : (xs : List Action) (next : ℕ) (a : Arena) → (with_chain xs next a).arena.nodes ≡ a.nodes
chain-nodes [] next a = refl
chain-nodes (x ∷ xs) next a = chain-nodes xs next a

chain-branches : (xs : List Action) (next : ℕ) (a : Arena) → (with_chain xs next a).arena.branches ≡ a.branches
chain-branches [] next a = refl
chain-branches (x ∷ xs) next a = chain-branches xs next a

chain-keeps : (d : Acts) (next : ℕ) → Keeps d.arena (chained next d).arena
chain-keeps d next h = (subst IsFalling (sym (chain-nodes d.actions next d.arena)) h.0, subst BranchesFall (sym (chain-branches d.actions next d.arena)) h.1)

arms-nodes : (xs : List Arm) (other : Choice) (a : Arena) → (with_arms xs other a).arena.nodes ≡ a.nodes
arms-nodes [] other a = refl
arms-nodes (x ∷ xs) other a = arms-nodes xs other a

-- one branch more at the end
choice-along : (c : Choice) (i j : ℕ) → i ≡ j → IsBelow i c → IsBelow j c
choice-along c i j e p = let P : ℕ → Type 0 = λ k. IsBelow k c in subst P e p

branches-push : (k : ℕ) (bs : List Branch) (b : Branch) → AllBelow k bs → IsBelow (k + length bs) b.otherwise → AllBelow k (bs ++ b ∷ [])
branches-push k [] b h p = (choice-along b.otherwise (k + 0) k (add-zero k) p, tt)
branches-push k (x ∷ xs) b h p =
    (h.0, branches-push (k + 1) xs b h.1 (choice-along b.otherwise (k + suc (length xs)) (k + 1 + length xs) (shift k (length xs)) p))

-- branches one behind another fall, and what is taken first is one of them or what is taken at last
arms-fall : (xs : List Arm) (other : Choice) (a : Arena) → IsBelow (length a.branches) other → BranchesFall a.branches
    → BranchesFall (with_arms xs other a).arena.branches × IsBelow (length (with_arms xs other a).arena.branches) (with_arms xs other a).choice
arms-fall [] other a p h = (h, p)
arms-fall (x ∷ xs) other a p h =
    let rest : Chosen = with_arms xs other a in
    let r : BranchesFall rest.arena.branches × IsBelow (length rest.arena.branches) rest.choice = arms-fall xs other a p h in
    let b : Branch = branch x rest.choice in (
      branches-push 0 rest.arena.branches b r.0 (choice-along rest.choice (length rest.arena.branches) (0 + length rest.arena.branches) (sym (zero-add (length rest.arena.branches))) r.1),
      omega (arith, length-append rest.arena.branches (b ∷ [])),
    )

if-keeps : (other : Choice) (d : Arms) → IsBelow (length d.arena.branches) other → Keeps d.arena (if_acted other d).arena
if-keeps other d p h = (subst IsFalling (sym (arms-nodes d.arms other d.arena)) h.0, (arms-fall d.arms other d.arena p h.1).0)

set-keeps : (t : Target) (n : Numbered) → Keeps n.arena (set_acted t n).arena
set-keeps (Plain variable) n h = h
set-keeps (Field message name) n h = h
set-keeps NoTarget n h = h

append-keeps : (t : Target) (n : Numbered) → Keeps n.arena (append_acted t n).arena
append-keeps (Plain variable) n h = h
append-keeps (Field message name) n h = h
append-keeps NoTarget n h = h

unset-keeps : (t : Target) (a : Arena) → Keeps a (unset_acted t a).arena
unset-keeps (Plain variable) a h = h
unset-keeps (Field message name) a h = h
unset-keeps NoTarget a h = h

call-keeps : (k : Option ℕ) (a : Arena) → Keeps a (call_acted k a).arena
call-keeps (Some k) a h = h
call-keeps None a h = h

return-keeps : (word : Option ReturnWord) (g : Given) → Keeps g.arena (return_acted word g).arena
return-keeps (Some word) g h = h
return-keeps None g h = h

one-keeps : (make : ℕ → Action) (g : Arguments) (a : Arena) → Keeps a (with_one make g a).arena
one-keeps make (One x) a h = h
one-keeps make _ a h = h

perform-keeps : (a : Arena) (f : Callee) (second : Option (List ℕ)) (g : Given) → Gives a.nodes a.branches g → Keeps a (performed f second g).arena
perform-keeps a (callee.Builtin builtin.HashData) second g s h = one-keeps action.HashData g.arguments g.arena (gives-keep a g s h)
perform-keeps a (callee.Builtin builtin.Synthetic) second g s h = one-keeps action.Synthetic g.arguments g.arena (gives-keep a g s h)
perform-keeps a (callee.Builtin builtin.Ban) second g s h = one-keeps action.Ban g.arguments g.arena (gives-keep a g s h)
perform-keeps a callee.Absent second g s h = gives-keep a g s h
perform-keeps a (callee.Builtin (builtin.Substitute all)) second g s h = step-keeps a (called (callee.Builtin (builtin.Substitute all)) second g) (call-step a.nodes a.branches (callee.Builtin (builtin.Substitute all)) second g s) h
perform-keeps a (callee.Builtin (builtin.Xkey soft)) second g s h = step-keeps a (called (callee.Builtin (builtin.Xkey soft)) second g) (call-step a.nodes a.branches (callee.Builtin (builtin.Xkey soft)) second g s) h
perform-keeps a (callee.Stored k jar.None) second g s h = step-keeps a (called (callee.Stored k jar.None) second g) (call-step a.nodes a.branches (callee.Stored k jar.None) second g s) h
perform-keeps a (callee.Stored k jar.Asks) second g s h = step-keeps a (called (callee.Stored k jar.Asks) second g) (call-step a.nodes a.branches (callee.Stored k jar.Asks) second g s) h
perform-keeps a (callee.Stored k jar.Changes) second g s h =
    step-keeps a (called (callee.Stored k jar.Changes) second g) (call-step a.nodes a.branches (callee.Stored k jar.Changes) second g s) h
perform-keeps a (callee.Director k) second g s h = step-keeps a (called (callee.Director k) second g) (call-step a.nodes a.branches (callee.Director k) second g s) h

mutual
  unfolding action_of

  action-keeps : (known : Known) (p : Phrase) (a : Arena) → Keeps a (action_of known p a).arena
  action-keeps known (Node Set sign (Node Bound (Named place name) e)) a h = set-keeps (target_of name) (numbered known e a) (step-keeps a (numbered known e a) (expression-step known e a) h)
  action-keeps known (Node Append sign (Node Bound (Named place name) e)) a h = append-keeps (target_of name) (numbered known e a) (step-keeps a (numbered known e a) (expression-step known e a) h)
  action-keeps known (Node Unset sign (Named place name)) a h = unset-keeps (target_of name) a h
  action-keeps known (Node Jump sign (Named place name)) a h = call-keeps (subroutine_of known name) a h
  action-keeps known (Node Return sign (Named place word)) a h = return-keeps (word_of word) (record { arguments = Zero; arena = a }) h
  action-keeps known (Node Return sign (Node Called (Named place word) arguments)) a h =
      return-keeps (word_of word) (numbered_arguments known arguments a) (gives-keep a (numbered_arguments known arguments a) (arguments-step known arguments a) h)
  action-keeps known (Node Called (Named place name) arguments) a h =
      perform-keeps a (callee_of known name) (second_string arguments) (numbered_arguments known arguments a) (arguments-step known arguments a) h
  action-keeps known (Node If sign first) a h = if-keeps choice.Nothing (arm_of known first a) tt (arm-keeps known first a h)
  action-keeps known (Node ElseIf front other) a h =
      if-keeps choice.Nothing (with_more_arms (arms_of known front a) (arm_of known other)) tt (arm-keeps known other (arms_of known front a).arena (arms-keep known front a h))
  action-keeps known (Node Else front block) a h =
      let d : Arms = arms_of known front a in
      let last : Numbered = chained 0 (actions_of known block d.arena) in
      if-keeps (choice.Block last.number) (arms_in d.arms last.arena) tt
      (chain-keeps (actions_of known block d.arena) 0 (actions-keep known block d.arena (arms-keep known front a h)))
  action-keeps known _ a h = h

  arms-keep : (known : Known) (p : Phrase) (a : Arena) → Keeps a (arms_of known p a).arena
  arms-keep known (Node If sign first) a h = arm-keeps known first a h
  arms-keep known (Node ElseIf front other) a h = arm-keeps known other (arms_of known front a).arena (arms-keep known front a h)
  arms-keep known _ a h = h

  arm-keeps : (known : Known) (p : Phrase) (a : Arena) → Keeps a (arm_of known p a).arena
  arm-keeps known (Node phrase.Branch condition block) a h =
      let b : Arena = (numbered known condition a).arena in
      chain-keeps (actions_of known block b) 0 (actions-keep known block b (step-keeps a (numbered known condition a) (expression-step known condition a) h))
  arm-keeps known _ a h = h

  actions-keep : (known : Known) (p : Phrase) (a : Arena) → Keeps a (actions_of known p a).arena
  actions-keep known (Node More front s) a h = action-keeps known s (actions_of known front a).arena (actions-keep known front a h)
  actions-keep known _ a h = h

block-keeps : (known : Known) (block : Phrase) (next : ℕ) (a : Arena) → Keeps a (numbered_block known block next a).arena
unfolding numbered_block
block-keeps known block next a h = chain-keeps (actions_of known block a) next (actions-keep known block a h)

-- the blocks of a whole text
own-keeps : (known : Known) (name : List ℕ) (block : Phrase) (h : Heads) (reserved : Bool) → is_reserved name ≡ reserved → Keeps h.arena (own_block known name block h).arena
own-keeps known name block h true e p = rw (e) p
own-keeps known name block h false e p = rw (e) (block-keeps known block 0 h.arena p)

item-keeps : (known : Known) (h : Heads) (i : Item) → Keeps h.arena (with_own known h i).arena
item-keeps known h (item.Sub place name block) p = own-keeps known name.text block h (is_reserved name.text) refl p
item-keeps known h (item.Import place name) p = p
item-keeps known h (item.Backend place name attributes) p = p
item-keeps known h (item.NoBackend place name) p = p
item-keeps known h (item.Probe place name attributes) p = p
item-keeps known h (item.Acl place name entries) p = p

own-all-keep : (known : Known) (items : List Item) (h : Heads) → Keeps h.arena (all_own known h items).arena
own-all-keep known [] h p = p
own-all-keep known (i ∷ is) h p = own-all-keep known is (with_own known h i) (item-keeps known h i p)

body-keeps : (known : Known) (s : Option Subroutine) (block : Phrase) (h : Heads) → Keeps h.arena (body known s block h).arena
body-keeps known None block h p = p
body-keeps known (Some s) block h p = block-keeps known block _ h.arena p

with-body-keeps : (known : Known) (i : Item) (h : Heads) → Keeps h.arena (with_body known i h).arena
with-body-keeps known (item.Sub place name block) h p = body-keeps known (subroutine_named name.text) block h p
with-body-keeps known (item.Import place name) h p = p
with-body-keeps known (item.Backend place name attributes) h p = p
with-body-keeps known (item.NoBackend place name) h p = p
with-body-keeps known (item.Probe place name attributes) h p = p
with-body-keeps known (item.Acl place name entries) h p = p

bodies-all-keep : (known : Known) (items : List Item) (h : Heads) → Keeps h.arena (all_bodies known items h).arena
bodies-all-keep known [] h p = p
bodies-all-keep known (i ∷ is) h p = with-body-keeps known i (all_bodies known is h) (bodies-all-keep known is h p)

pub text-falls : (items : List Item) (stored : List Stored) → Falls (code_of items stored).arena.nodes (code_of items stored).arena.branches
text-falls items stored =
    let known : Known = known_in items stored in
    bodies-all-keep known items (heads no_bodies (own_of known items).arena) (own-all-keep known items (heads [] empty) (tt, tt))
