-- Numbering statements and blocks only adds to the lists.
use Rattle.std.proofs.Common.{ℕ, List, [], ◌∷◌, Option, Some, None}
use Rattle.vcl_tree.specs.Phrase as phrase
use Rattle.vcl_tree.specs.Phrase.{Phrase, Node, Named, More, Bound, Called, Set, Append, Unset, Jump, Return, If, ElseIf, Else}
use Rattle.vmod_host.specs.declared.signature.JarUse.TheVariants as jar
use Rattle.vcl_code.specs.declared.arena.Arena.{Arena}
use Rattle.vcl_code.specs.declared.callees.Builtin.TheVariants as builtin
use Rattle.vcl_code.specs.declared.names.Callee.{Callee}
use Rattle.vcl_code.specs.declared.names.Callee.TheVariants as callee
use Rattle.vcl_code.specs.declared.node.Action.{Action}
use Rattle.vcl_code.specs.declared.node.Action.TheVariants as action
use Rattle.vcl_code.specs.declared.node.Arguments.{Arguments}
use Rattle.vcl_code.specs.declared.node.Arguments.TheVariants.{Zero, One, Two, Three, More as TooMany}
use Rattle.vcl_code.specs.declared.node.Arm.{Arm}
use Rattle.vcl_code.specs.declared.node.Block.TheVariants.{Then}
use Rattle.vcl_code.specs.declared.node.Choice.{Choice}
use Rattle.vcl_code.specs.declared.node.Choice.TheVariants as choice
use Rattle.vcl_code.specs.declared.node.ReturnWord.{ReturnWord}
use Rattle.vcl_code.specs.Arenas.{Numbered}
use Rattle.vcl_symbols.specs.Known.{Known}
use Rattle.vcl_code.specs.Names.{Target, Plain, Field, NoTarget, target_of, subroutine_of, word_of, callee_of}
use Rattle.vcl_code.specs.Expressions.{numbered, numbered_arguments, second_string, Given}
use Rattle.vcl_code.specs.Statements.{Acts, Arms, branch, with_chain, chained, with_arms, with_more_arms, if_acted, else_acted, set_acted, append_acted, unset_acted, call_acted, return_acted, with_one, performed, action_of, arms_of, arm_of, actions_of, numbered_block}
use Rattle.vcl_operands.specs.Later.{Later}
use Rattle.vcl_operands.proofs.Growing.{later-self, later-trans, later-text, later-block, later-branch, expression-later, arguments-later, called-later}

pub chain-later : (xs : List Action) (next : ℕ) (a : Arena) → Later a (with_chain xs next a).arena
chain-later [] next a = later-self a
chain-later (x ∷ xs) next a =
    later-trans a (with_chain xs next a).arena (with_chain (x ∷ xs) next a).arena (chain-later xs next a)
    (later-block (Then x (with_chain xs next a).number) (with_chain xs next a).arena)

pub branches-later : (xs : List Arm) (other : Choice) (a : Arena) → Later a (with_arms xs other a).arena
branches-later [] other a = later-self a
branches-later (x ∷ xs) other a =
    later-trans a (with_arms xs other a).arena (with_arms (x ∷ xs) other a).arena (branches-later xs other a)
    (later-branch (branch x (with_arms xs other a).choice) (with_arms xs other a).arena)

pub set-later : (t : Target) (e : Numbered) → Later e.arena (set_acted t e).arena
set-later (Plain variable) e = later-self e.arena
set-later (Field message name) e = later-text name e.arena
set-later NoTarget e = later-self e.arena

pub append-later : (t : Target) (e : Numbered) → Later e.arena (append_acted t e).arena
append-later (Plain variable) e = later-self e.arena
append-later (Field message name) e = later-text name e.arena
append-later NoTarget e = later-self e.arena

unset-later : (t : Target) (a : Arena) → Later a (unset_acted t a).arena
unset-later (Plain variable) a = later-self a
unset-later (Field message name) a = later-text name a
unset-later NoTarget a = later-self a

call-later : (k : Option ℕ) (a : Arena) → Later a (call_acted k a).arena
call-later (Some k) a = later-self a
call-later None a = later-self a

pub return-later : (word : Option ReturnWord) (g : Given) → Later g.arena (return_acted word g).arena
return-later (Some word) g = later-self g.arena
return-later None g = later-self g.arena

only-later : (make : ℕ → Action) (args : Arguments) (a : Arena) → Later a (with_one make args a).arena
only-later make Zero a = later-self a
only-later make (One x) a = later-self a
only-later make (Two x y) a = later-self a
only-later make (Three x y z) a = later-self a
only-later make TooMany a = later-self a

pub performed-later : (f : Callee) (second : Option (List ℕ)) (g : Given) → Later g.arena (performed f second g).arena
performed-later (callee.Builtin builtin.HashData) second g = only-later action.HashData g.arguments g.arena
performed-later (callee.Builtin builtin.Synthetic) second g = only-later action.Synthetic g.arguments g.arena
performed-later (callee.Builtin builtin.Ban) second g = only-later action.Ban g.arguments g.arena
performed-later (callee.Builtin (builtin.Substitute all)) second g = called-later (callee.Builtin (builtin.Substitute all)) second g
performed-later (callee.Builtin (builtin.Xkey soft)) second g = called-later (callee.Builtin (builtin.Xkey soft)) second g
performed-later (callee.Stored k jar.None) second g = called-later (callee.Stored k jar.None) second g
performed-later (callee.Stored k jar.Asks) second g = called-later (callee.Stored k jar.Asks) second g
performed-later (callee.Stored k jar.Changes) second g = called-later (callee.Stored k jar.Changes) second g
performed-later (callee.Director k) second g = called-later (callee.Director k) second g
performed-later callee.Absent second g = later-self g.arena

chained-later : (next : ℕ) (d : Acts) → Later d.arena (chained next d).arena
chained-later next d = chain-later d.actions next d.arena

if-later : (other : Choice) (d : Arms) → Later d.arena (if_acted other d).arena
if-later other d = branches-later d.arms other d.arena

else-later : (d : Arms) (block : Arena → Acts) → ((a : Arena) → Later a (block a).arena) → Later d.arena (else_acted d block).arena
else-later d block grows =
    later-trans d.arena (block d.arena).arena (else_acted d block).arena (grows d.arena)
    (later-trans (block d.arena).arena (chained 0 (block d.arena)).arena (else_acted d block).arena (chained-later 0 (block d.arena))
    (branches-later d.arms (choice.Block (chained 0 (block d.arena)).number) (chained 0 (block d.arena)).arena))

more-arms-later : (a : Arena) (d : Arms) (next : Arena → Arms) → Later a d.arena → ((b : Arena) → Later b (next b).arena) → Later a (with_more_arms d next).arena
more-arms-later a d next p grows = later-trans a d.arena (with_more_arms d next).arena p (grows d.arena)

mutual
  unfolding action_of

  pub action-later : (known : Known) (e : Phrase) (a : Arena) → Later a (action_of known e a).arena
  action-later known (Node Set sign (Node Bound (Named place name) e)) a =
      later-trans a (numbered known e a).arena _ (expression-later known e a) (set-later (target_of name) (numbered known e a))
  action-later known (Node Append sign (Node Bound (Named place name) e)) a =
      later-trans a (numbered known e a).arena _ (expression-later known e a) (append-later (target_of name) (numbered known e a))
  action-later known (Node Unset sign (Named place name)) a = unset-later (target_of name) a
  action-later known (Node Jump sign (Named place name)) a = call-later (subroutine_of known name) a
  action-later known (Node Return sign (Named place word)) a = return-later (word_of word) (record { arguments = Zero; arena = a })
  action-later known (Node Return sign (Node Called (Named place word) arguments)) a =
      later-trans a (numbered_arguments known arguments a).arena _ (arguments-later known arguments a) (return-later (word_of word) (numbered_arguments known arguments a))
  action-later known (Node Called (Named place name) arguments) a =
      later-trans a (numbered_arguments known arguments a).arena _ (arguments-later known arguments a)
      (performed-later (callee_of known name) (second_string arguments) (numbered_arguments known arguments a))
  action-later known (Node If sign first) a = later-trans a (arm_of known first a).arena _ (arm-later known first a) (if-later choice.Nothing (arm_of known first a))
  action-later known (Node ElseIf front last) a =
      later-trans a (with_more_arms (arms_of known front a) (arm_of known last)).arena _
      (more-arms-later a (arms_of known front a) (arm_of known last) (arms-later known front a) (arm-later known last))
      (if-later choice.Nothing (with_more_arms (arms_of known front a) (arm_of known last)))
  action-later known (Node Else front block) a =
      later-trans a (arms_of known front a).arena _ (arms-later known front a) (else-later (arms_of known front a) (actions_of known block) (actions-later known block))
  action-later known _ a = later-self a

  pub arms-later : (known : Known) (e : Phrase) (a : Arena) → Later a (arms_of known e a).arena
  arms-later known (Node If sign first) a = arm-later known first a
  arms-later known (Node ElseIf front last) a = more-arms-later a (arms_of known front a) (arm_of known last) (arms-later known front a) (arm-later known last)
  arms-later known _ a = later-self a

  pub arm-later : (known : Known) (e : Phrase) (a : Arena) → Later a (arm_of known e a).arena
  arm-later known (Node phrase.Branch condition block) a =
      later-trans a (numbered known condition a).arena _ (expression-later known condition a)
      (later-trans (numbered known condition a).arena (actions_of known block (numbered known condition a).arena).arena _
      (actions-later known block (numbered known condition a).arena) (chained-later 0 (actions_of known block (numbered known condition a).arena)))
  arm-later known _ a = later-self a

  pub actions-later : (known : Known) (e : Phrase) (a : Arena) → Later a (actions_of known e a).arena
  actions-later known (Node More front statement) a =
      later-trans a (actions_of known front a).arena _ (actions-later known front a) (action-later known statement (actions_of known front a).arena)
  actions-later known _ a = later-self a

pub block-later : (known : Known) (e : Phrase) (next : ℕ) (a : Arena) → Later a (numbered_block known e next a).arena
unfolding numbered_block
block-later known e next a =
    later-trans a (actions_of known e a).arena (numbered_block known e next a).arena (actions-later known e a) (chained-later next (actions_of known e a))
