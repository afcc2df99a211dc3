-- What statements and blocks are numbered as. The block of number 0 has no statement.
use Rattle.std.specs.Prelude.{ℕ, List, [], ◌∷◌, ◌++◌, Option, Some, None}
use Rattle.vcl_tree.specs.Phrase as phrase
use Rattle.vcl_tree.specs.Phrase.{Phrase, Node, Named, More, Bound, Called, Set, Append, Unset, Jump, Return, If, ElseIf, Else}
use Rattle.vmod_host.specs.declared.signature.JarUse.TheVariants as jar
use Rattle.vcl_context.specs.declared.variable.Variable.TheVariants.{Jar}
use Rattle.vcl_code.specs.declared.arena.Arena.{Arena}
use Rattle.vcl_code.specs.declared.callees.Builtin.TheVariants as builtin
use Rattle.vcl_code.specs.declared.names.Callee.{Callee}
use Rattle.vcl_code.specs.declared.names.Callee.TheVariants as callee
use Rattle.vcl_code.specs.declared.node.Action.{Action}
use Rattle.vcl_code.specs.declared.node.Action.TheVariants as action
use Rattle.vcl_code.specs.declared.node.Block.TheVariants.{Then}
use Rattle.vcl_code.specs.declared.node.Arm.{Arm}
use Rattle.vcl_code.specs.declared.node.Branch.{Branch}
use Rattle.vcl_code.specs.declared.node.Choice.{Choice}
use Rattle.vcl_code.specs.declared.node.Choice.TheVariants as choice
use Rattle.vcl_code.specs.declared.node.ReturnWord.{ReturnWord}
use Rattle.vcl_code.specs.declared.node.Arguments.{Arguments}
use Rattle.vcl_code.specs.declared.node.Arguments.TheVariants.{Zero, One}
use Rattle.vcl_code.specs.Arenas.{Numbered, at, with_block, with_branch, with_text}
use Rattle.vcl_symbols.specs.Known.{Known}
use Rattle.vcl_code.specs.Names.{Target, Plain, Field, NoTarget, target_of, subroutine_of, word_of, callee_of}
use Rattle.vcl_code.specs.Expressions.{numbered, numbered_arguments, second_string, Given, called}

-- a statement's action, and the lists behind it
pub record Acted : Type 0 where
  pub action : Action
  pub arena : Arena

abbrev pub acted : Action → Arena → Acted
acted done arena = record { action = done; arena = arena }

-- actions one behind another, and what follows them
abbrev pub with_chain : List Action → ℕ → Arena → Numbered
with_chain [] next a = at next a
with_chain (first ∷ more) next a = let rest = with_chain more next a in with_block (Then first rest.number) rest.arena

pub record Acts : Type 0 where
  pub actions : List Action
  pub arena : Arena

abbrev pub acts : List Action → Arena → Acts
acts actions arena = record { actions = actions; arena = arena }

abbrev pub one_act_more : Acts → (Arena → Acted) → Acts
one_act_more before next = acts (before.actions ++ (next before.arena).action ∷ []) (next before.arena).arena

abbrev pub chained : ℕ → Acts → Numbered
chained next d = with_chain d.actions next d.arena

-- conditions with their blocks
pub record Arms : Type 0 where
  pub arms : List Arm
  pub arena : Arena

abbrev pub arms_in : List Arm → Arena → Arms
arms_in arms arena = record { arms = arms; arena = arena }

abbrev pub arm : ℕ → ℕ → Arm
arm condition block = record { condition = condition; block = block }

-- the arm of a condition and of its block
abbrev pub arm_made : Numbered → Numbered → Arms
arm_made condition block = arms_in (arm condition.number block.number ∷ []) block.arena

abbrev pub one_arm : Numbered → (Arena → Acts) → Arms
one_arm condition block = arm_made condition (chained 0 (block condition.arena))

-- more arms behind these
abbrev pub with_more_arms : Arms → (Arena → Arms) → Arms
with_more_arms d next = arms_in (d.arms ++ (next d.arena).arms) (next d.arena).arena

-- what is taken, and the lists behind it
pub record Chosen : Type 0 where
  pub choice : Choice
  pub arena : Arena

abbrev pub chosen : Choice → Arena → Chosen
chosen taken arena = record { choice = taken; arena = arena }

abbrev pub branch : Arm → Choice → Branch
branch first other = record { condition = first.condition; block = first.block; otherwise = other }

-- branches one behind another, and what is taken where no condition holds
abbrev pub with_arms : List Arm → Choice → Arena → Chosen
with_arms [] other a = chosen other a
with_arms (first ∷ more) other a =
    let rest = with_arms more other a in
    let n = with_branch (branch first rest.choice) rest.arena in
    chosen (choice.Branch n.number) n.arena

abbrev pub if_acted : Choice → Arms → Acted
if_acted other d = let taken = with_arms d.arms other d.arena in acted (action.If taken.choice) taken.arena

-- an `if` with the block behind its `else`
abbrev pub else_acted : Arms → (Arena → Acts) → Acted
else_acted d block = let last = chained 0 (block d.arena) in if_acted (choice.Block last.number) (arms_in d.arms last.arena)

-- `set` and `+=` of a variable or a field, and `unset` of a field
abbrev pub set_acted : Target → Numbered → Acted
set_acted (Plain variable) e = acted (action.Set variable e.number) e.arena
set_acted (Field message name) e = let text = with_text name e.arena in acted (action.SetField message text.number e.number) text.arena
set_acted NoTarget e = acted action.Absent e.arena

abbrev pub append_acted : Target → Numbered → Acted
append_acted (Plain variable) e = acted (action.Append variable e.number) e.arena
append_acted (Field message name) e = let text = with_text name e.arena in acted (action.AppendField message text.number e.number) text.arena
append_acted NoTarget e = acted action.Absent e.arena

abbrev pub unset_acted : Target → Arena → Acted
unset_acted (Field message name) a = let text = with_text name a in acted (action.UnsetField message text.number) text.arena
unset_acted _ a = acted action.Absent a

abbrev pub call_acted : Option ℕ → Arena → Acted
call_acted (Some k) a = acted (action.Call k) a
call_acted None a = acted action.Absent a

abbrev pub return_acted : Option ReturnWord → Given → Acted
return_acted (Some word) g = acted (action.Return word g.arguments) g.arena
return_acted None g = acted action.Absent g.arena

abbrev pub evaluated : Numbered → Acted
evaluated e = acted (action.Evaluate e.number) e.arena

-- the answer of a function that changes the jar is the jar's text from then on
abbrev pub jar_changed : Numbered → Acted
jar_changed e = acted (action.Set Jar e.number) e.arena

abbrev pub with_one : (ℕ → Action) → Arguments → Arena → Acted
with_one make (One x) a = acted (make x) a
with_one make _ a = acted action.Absent a

-- a function that is called as a statement
abbrev pub performed : Callee → Option (List ℕ) → Given → Acted
performed (callee.Builtin builtin.HashData) second g = with_one action.HashData g.arguments g.arena
performed (callee.Builtin builtin.Synthetic) second g = with_one action.Synthetic g.arguments g.arena
performed (callee.Builtin builtin.Ban) second g = with_one action.Ban g.arguments g.arena
performed callee.Absent second g = acted action.Absent g.arena
performed (callee.Stored k jar.Changes) second g = jar_changed (called (callee.Stored k jar.Changes) second g)
performed function second g = evaluated (called function second g)

unfoldable mutual
  pub action_of : Known → Phrase → Arena → Acted
  action_of known (Node Set sign (Node Bound (Named place name) e)) a = set_acted (target_of name) (numbered known e a)
  action_of known (Node Append sign (Node Bound (Named place name) e)) a = append_acted (target_of name) (numbered known e a)
  action_of known (Node Unset sign (Named place name)) a = unset_acted (target_of name) a
  action_of known (Node Jump sign (Named place name)) a = call_acted (subroutine_of known name) a
  action_of known (Node Return sign (Named place word)) a = return_acted (word_of word) (record { arguments = Zero; arena = a })
  action_of known (Node Return sign (Node Called (Named place word) arguments)) a = return_acted (word_of word) (numbered_arguments known arguments a)
  action_of known (Node Called (Named place name) arguments) a =
      performed (callee_of known name) (second_string arguments) (numbered_arguments known arguments a)
  action_of known (Node If sign first) a = if_acted choice.Nothing (arm_of known first a)
  action_of known (Node ElseIf front other) a = if_acted choice.Nothing (with_more_arms (arms_of known front a) (arm_of known other))
  action_of known (Node Else front block) a = else_acted (arms_of known front a) (actions_of known block)
  action_of known _ a = acted action.Absent a

  -- the conditions and blocks of an `if`
  pub arms_of : Known → Phrase → Arena → Arms
  arms_of known (Node If sign first) a = arm_of known first a
  arms_of known (Node ElseIf front other) a = with_more_arms (arms_of known front a) (arm_of known other)
  arms_of known _ a = arms_in [] a

  -- one condition with its block
  pub arm_of : Known → Phrase → Arena → Arms
  arm_of known (Node phrase.Branch condition block) a = one_arm (numbered known condition a) (actions_of known block)
  arm_of known _ a = arms_in [] a

  -- the statements of a block
  pub actions_of : Known → Phrase → Arena → Acts
  actions_of known (Node More front s) a = one_act_more (actions_of known front a) (action_of known s)
  actions_of known _ a = acts [] a

-- a block, with the block of this number behind it
unfoldable pub numbered_block : Known → Phrase → ℕ → Arena → Numbered
numbered_block known block next a = chained next (actions_of known block a)
