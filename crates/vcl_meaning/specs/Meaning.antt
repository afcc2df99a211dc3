-- What runs of subroutines do (the Varnish Reference Manual, VCL; docs/VCL.md), on a text with its names and with the answers
-- that they are given. What no sound text has is stuck.
use Rattle.std.specs.Prelude.{◌≡◌, ℕ, zero, suc, ◌==◌, Bool, true, false, List, [], ◌∷◌, Option, Some, None, slice_get, if◌then◌else◌}
use Rattle.vcl_tree.specs.Phrase as phrase
use Rattle.vcl_tree.specs.Phrase.{Phrase, Node, Named, More, Bound, Called, Set, Append, Unset, Jump, Return, If, ElseIf, Else}
use Rattle.vcl_tree.specs.declared.item.Item.{Item}
use Rattle.vcl_tree.specs.declared.item.Item.TheVariants as item
use Rattle.acl_match.specs.declared.entry.AclEntry.{AclEntry}
use Rattle.vcl_values.specs.declared.value.Backend.{Backend}
use Rattle.vcl_values.specs.declared.value.Value.{Value}
use Rattle.vcl_values.specs.Values.{truth_of}
use Rattle.vmod_host.specs.declared.signature.JarUse.TheVariants as jar
use Rattle.vmod_host.specs.declared.signature.Stored.{Stored}
use Rattle.vcl_language.specs.Names.{is_reserved, subroutine_named}
use Rattle.vcl_language.specs.Scopes.{has, subroutine_number}
use Rattle.vcl_language.specs.declared.scope.Scope.TheVariants.{Init}
use Rattle.vcl_language.specs.declared.scope.Subroutine.{Subroutine}
use Rattle.vcl_context.specs.declared.context.Context.{Context}
use Rattle.vcl_context.specs.declared.variable.Variable.TheVariants.{Jar}
use Rattle.vcl_context.specs.Fields.{field_unset}
use Rattle.vcl_check.specs.Sentences.{known_in}
use Rattle.vcl_check.specs.Texts.{says}
use Rattle.vcl_code.specs.declared.callees.Builtin.TheVariants as builtin
use Rattle.vcl_code.specs.declared.names.Callee.{Callee}
use Rattle.vcl_code.specs.declared.names.Callee.TheVariants as callee
use Rattle.vcl_code.specs.declared.node.ReturnWord.{ReturnWord}
use Rattle.vcl_symbols.specs.Known.{Known}
use Rattle.vcl_code.specs.Names.{Target, Plain, Field, NoTarget, target_of, subroutine_of, word_of, callee_of}
use Rattle.vcl_code.specs.Expressions.{second_string}
use Rattle.vcl_program.specs.declared.code.Director.{Director}
use Rattle.vcl_program.specs.Declarations.{backends_of, acls_of, directors_of}
use Rattle.vcl_program.specs.Codes.{default_of}
use Rattle.vcl_context.specs.declared.turn.Answer.{Answer}
use Rattle.vcl_operands.specs.Outs.{Out, Stuck, and_then, fail, IsSure}
use Rattle.vcl_operands.specs.Meaning.{Scene, Operand, value_of, operands_of}
use Rattle.vcl_operands.specs.Meaning.{called as call_value}
use Rattle.vcl_eval.specs.Returns.{plain, with_one, with_two}
use Rattle.vcl_eval.specs.Statements.{set_to, field_to, append_to, append_field, key_given, body_given}
use Rattle.vcl_eval.specs.States.{State, state, Doing, in_state, nothing, set_on, set_due, ends_due, counted, banned, most_statements}

-- what the names of a text stand for, what it declares, and the bodies of its own subroutines, in its order
pub record Text : Type 0 where
  pub known : Known
  pub backends : List Backend
  pub acls : List (List AclEntry)
  pub directors : List Director
  pub own : List Phrase

abbrev pub own_body : Item → List Phrase → List Phrase
own_body (item.Sub place name body) more = if is_reserved name.text then more else body ∷ more
own_body _ more = more

abbrev pub own_bodies : List Item → List Phrase
own_bodies [] = []
own_bodies (i ∷ is) = own_body i (own_bodies is)

abbrev pub text_of : List Item → List Stored → Text
text_of items stored = record {
  known = known_in items stored;
  backends = backends_of items;
  acls = acls_of items;
  directors = directors_of (says items);
  own = own_bodies items;
}

-- the bodies of a built-in subroutine, which are one subroutine, in the text's order
abbrev pub is_body_of : Subroutine → Option Subroutine → Bool
is_body_of subroutine (Some named) = subroutine_number named == subroutine_number subroutine
is_body_of subroutine None = false

abbrev pub body_of : Subroutine → Item → List Phrase → List Phrase
body_of subroutine (item.Sub place name body) more = if is_body_of subroutine (subroutine_named name.text) then body ∷ more else more
body_of subroutine _ more = more

abbrev pub bodies_of : Subroutine → List Item → List Phrase
bodies_of subroutine [] = []
bodies_of subroutine (i ∷ is) = body_of subroutine i (bodies_of subroutine is)

-- expressions, with what is done with their values
abbrev pub scene_in : Text → Context → Scene
scene_in t c = record {
  backends = t.backends;
  default = slice_get t.backends (default_of t.backends);
  acls = t.acls;
  directors = t.directors;
  stored = t.known.stored;
  context = c;
}

abbrev pub then_with : Operand → (Value → Doing) → Doing
then_with operand next s = and_then (in_state s (operand s.answers)) next

abbrev pub with_value : Text → Phrase → (Value → Doing) → Doing
with_value t e next s = then_with (value_of t.known (scene_in t s.context) e) next s

abbrev pub with_only : List Operand → (Value → Doing) → Doing
with_only (x ∷ []) next s = then_with x next s
with_only _ next s = Stuck

-- `set` and `+=` of a variable or a field, and `unset` of a field
abbrev pub set_target : Text → Target → Phrase → Doing
set_target t (Plain variable) e s = with_value t e (λ v s. set_due (set_to variable v s.context) s) s
set_target t (Field message name) e s = with_value t e (λ v s. set_due (field_to message name v s.context) s) s
set_target t NoTarget e s = Stuck

abbrev pub append_target : Text → Target → Phrase → Doing
append_target t (Plain variable) e s = with_value t e (λ v s. set_due (append_to variable v s.context) s) s
append_target t (Field message name) e s = with_value t e (λ v s. set_due (append_field message name v s.context) s) s
append_target t NoTarget e s = Stuck

abbrev pub unset_target : Target → Doing
unset_target (Field message name) s = set_on (Some (field_unset message name s.context)) s
unset_target _ s = Stuck

-- `call` of one of the text's own subroutines, by its place
abbrev pub call_on : (ℕ → Doing) → Option ℕ → Doing
call_on calls (Some k) s = calls k s
call_on calls None s = Stuck

-- `return` with a word and none, one or two values
abbrev pub returned : Option ReturnWord → List Operand → Doing
returned (Some word) [] s = ends_due (plain word) s
returned (Some word) (x ∷ []) s = then_with x (λ v. ends_due (with_one word v)) s
returned (Some word) (x ∷ y ∷ []) s = then_with x (λ v. then_with y (λ w. ends_due (with_two word v w))) s
returned _ operands s = Stuck

-- the answer of a function that changes the jar is the jar's text from then on
abbrev pub jar_changed : Value → Doing
jar_changed v s = set_due (set_to Jar v s.context) s

-- a function that is called as a statement; a value that another one has is forgotten
abbrev pub performed : Scene → Callee → Option (List ℕ) → List Operand → Doing
performed scene (callee.Builtin builtin.HashData) second operands s = with_only operands (λ v s. set_on (key_given v s.context) s) s
performed scene (callee.Builtin builtin.Synthetic) second operands s = with_only operands (λ v s. set_on (body_given v s.context) s) s
performed scene (callee.Builtin builtin.Ban) second operands s = with_only operands banned s
performed scene (callee.Stored k jar.Changes) second operands s = then_with (call_value scene (callee.Stored k jar.Changes) second operands) jar_changed s
performed scene function second operands s = then_with (call_value scene function second operands) (λ v. nothing) s

-- a block, or what is done otherwise, by a value in a condition
abbrev pub either_by : Option Bool → Doing → Doing → Doing
either_by (Some true) block other s = block s
either_by (Some false) block other s = other s
either_by None block other s = Stuck

-- With what calls do. Each statement is counted before it runs, an `if` as one, and conditions aren't.
unfoldable mutual
  pub statement_of : Text → (ℕ → Doing) → Phrase → Doing
  statement_of t calls (Node Set sign (Node Bound (Named place name) e)) s = set_target t (target_of name) e s
  statement_of t calls (Node Append sign (Node Bound (Named place name) e)) s = append_target t (target_of name) e s
  statement_of t calls (Node Unset sign (Named place name)) s = unset_target (target_of name) s
  statement_of t calls (Node Jump sign (Named place name)) s = call_on calls (subroutine_of t.known name) s
  statement_of t calls (Node Return sign (Named place word)) s = returned (word_of word) [] s
  statement_of t calls (Node Return sign (Node Called (Named place word) arguments)) s = returned (word_of word) (operands_of t.known (scene_in t s.context) arguments) s
  statement_of t calls (Node Called (Named place name) arguments) s =
      performed (scene_in t s.context) (callee_of t.known name) (second_string arguments) (operands_of t.known (scene_in t s.context) arguments) s
  statement_of t calls (Node If sign first) s = branch_of t calls first nothing s
  statement_of t calls (Node ElseIf front last) s = branches_of t calls front (branch_of t calls last nothing) s
  statement_of t calls (Node Else front block) s = branches_of t calls front (block_of t calls block) s
  statement_of t calls _ s = Stuck

  -- the conditions of an `if`, one after another, and what is done where none holds
  pub branches_of : Text → (ℕ → Doing) → Phrase → Doing → Doing
  branches_of t calls (Node If sign first) other s = branch_of t calls first other s
  branches_of t calls (Node ElseIf front last) other s = branches_of t calls front (branch_of t calls last other) s
  branches_of t calls _ other s = other s

  pub branch_of : Text → (ℕ → Doing) → Phrase → Doing → Doing
  branch_of t calls (Node phrase.Branch condition block) other s = with_value t condition (λ v. either_by (truth_of v) (block_of t calls block) other) s
  branch_of t calls _ other s = other s

  pub block_of : Text → (ℕ → Doing) → Phrase → Doing
  block_of t calls (Node More front statement) s = and_then (block_of t calls front s) (λ done. counted (statement_of t calls statement))
  block_of t calls _ s = nothing s

-- what a call does; no run nests calls deeper than it counts statements
abbrev pub body_on : (Phrase → Doing) → Option Phrase → Doing
body_on go (Some body) s = go body s
body_on go None s = Stuck

unfoldable pub called_within : ℕ → Text → ℕ → Doing
called_within zero t k s = fail s
called_within (suc depth) t k s = body_on (block_of t (called_within depth t)) (slice_get t.own k) s

unfoldable pub called : Text → ℕ → Doing
called t k s = called_within (suc most_statements) t k s

-- bodies one behind another; a run that comes to their end without a return ends as `fail`
abbrev pub bodies_done : Text → List Phrase → Doing
bodies_done t [] s = fail s
bodies_done t (body ∷ more) s = and_then (block_of t (called t) body s) (λ done. bodies_done t more)

-- A run of a built-in subroutine, with the answers that it is given after Begin: it ends, or it wants a command done of which
-- there is no answer.
unfoldable pub run_of : List Item → List Stored → Subroutine → Context → List Answer → Out State (Unit {0})
run_of items stored subroutine c answers = bodies_done (text_of items stored) (bodies_of subroutine items) (state c c.statements answers)

-- no run of a subroutine but vcl_init gets stuck
abbrev pub NeverStuck : List Item → List Stored → Type 0
NeverStuck items stored =
    (subroutine : Subroutine) → has Init subroutine ≡ false → (context : Context) (answers : List Answer) → IsSure (run_of items stored subroutine context answers)
