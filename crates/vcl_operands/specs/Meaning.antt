-- What expressions of VCL are worth (the Varnish Reference Manual, VCL; docs/VCL.md), with the answers that the run is given. Names
-- stand for what they are declared as; what has no meaning is stuck, and no sound text has it.
use Rattle.std.specs.Prelude.{ℕ, Bool, true, false, nat_lt, List, [], ◌∷◌, ◌++◌, length, Option, Some, None, option_and_then, slice_get, if◌then◌else◌}
use Rattle.std.specs.Bool.{beq}
use Rattle.vcl_tree.specs.Phrase.{Phrase, Node, String, Integer, Duration, Named, More, Either, Both, Not, Group, Compared, Added, Subtracted, Called}
use Rattle.vcl_values.specs.declared.value.Backend.{Backend}
use Rattle.vcl_values.specs.declared.value.Value.{Value}
use Rattle.vcl_values.specs.declared.value.Value.TheVariants as value
use Rattle.vcl_values.specs.declared.comparisons.Comparison.{Comparison}
use Rattle.vcl_values.specs.Values.{truth_of}
use Rattle.vcl_values.specs.Operators.{text_value}
use Rattle.acl_match.specs.declared.entry.AclEntry.{AclEntry}
use Rattle.vmod_host.specs.declared.signature.JarUse.{JarUse}
use Rattle.vmod_host.specs.declared.signature.JarUse.TheVariants as jar
use Rattle.vmod_host.specs.declared.signature.Stored.{Stored}
use Rattle.vcl_context.specs.Reading.{value_of as variable_value}
use Rattle.vcl_context.specs.Fields.{field_value}
use Rattle.vcl_context.specs.declared.context.Context.{Context}
use Rattle.vcl_context.specs.declared.variable.Variable.TheVariants.{Jar}
use Rattle.vcl_code.specs.declared.callees.Builtin.TheVariants as builtin
use Rattle.vcl_code.specs.declared.names.Callee.{Callee}
use Rattle.vcl_code.specs.declared.names.Callee.TheVariants as callee
use Rattle.vcl_symbols.specs.Known.{Known}
use Rattle.vcl_code.specs.Names.{Plain, Field, NoTarget, Read, OfTarget, Truth, Backend as BackendRead, NoRead, read_of, acl_of, callee_of}
use Rattle.vcl_code.specs.Expressions.{ordered_as, asks_match, second_string}
use Rattle.vcl_program.specs.declared.code.Code.{Code}
use Rattle.vcl_program.specs.declared.code.Director.{Director}
use Rattle.vcl_context.specs.declared.turn.Answer.{Answer}
use Rattle.vcl_context.specs.declared.turn.Command.TheVariants.{Xkey}
use Rattle.vcl_operands.specs.Outs.{Out, On, Stuck, and_then, known_on, made_on, ask, number_of}
use Rattle.vcl_operands.specs.Values.{ok_of, as_text, truth_value, opposite, matched, sought, ordered, summed, lessened, substituted, default_backend, backend_at, director_at, asked, applied}

-- what a text declares, in its order, and its default backend, the stored functions, and the values of variables
pub record Scene : Type 0 where
  pub backends : List Backend
  pub default : Option Backend
  pub acls : List (List AclEntry)
  pub directors : List Director
  pub stored : List Stored
  pub context : Context

abbrev pub scene : Code → List Stored → Context → Scene
scene code stored context = record {
  backends = code.backends;
  default = default_backend code;
  acls = code.acls;
  directors = code.directors;
  stored = stored;
  context = context;
}

-- what an expression comes to with these answers
abbrev pub Operand : Type 0
Operand = List Answer → Out (List Answer) Value

-- a name that is read
abbrev pub named_value : Scene → Read → Option (Option Value)
named_value scene (OfTarget (Plain variable)) = Some (Some (variable_value scene.default variable scene.context))
named_value scene (OfTarget (Field message name)) = Some (Some (field_value message name scene.context))
named_value scene (OfTarget NoTarget) = None
named_value scene (Truth truth) = Some (Some (value.Bool truth))
named_value scene (BackendRead k) = backend_at scene.backends k
named_value scene NoRead = None

-- of `||` (decided by true) and `&&` (decided by false) the right side isn't evaluated where the left one decides
abbrev pub decided_by : Bool → Operand → Option Bool → Operand
decided_by decided right None s = Stuck
decided_by decided right (Some left) s =
    if beq left decided then On (value.Bool decided) s else and_then (right s) (λ w. made_on (truth_value w))

abbrev pub decides : Bool → Operand → Value → Operand
decides decided right v s = decided_by decided right (truth_of v) s

-- `~` and `!~` with a pattern or an ACL
abbrev pub sought_in : Scene → Bool → Operand → Option ℕ → Operand
sought_in scene wanted left None s = Stuck
sought_in scene wanted left (Some k) s = and_then (left s) (λ v. made_on (option_and_then (λ entries. sought entries wanted v) (slice_get scene.acls k)))

abbrev pub matched_in : Known → Scene → Bool → Operand → Phrase → Operand
matched_in known scene wanted left (String place pattern) s = and_then (left s) (λ v. known_on (matched pattern wanted v))
matched_in known scene wanted left (Named place name) s = sought_in scene wanted left (acl_of known name) s
matched_in known scene wanted left _ s = Stuck

abbrev pub comparison : Known → Scene → Bool → Option Comparison → Operand → Phrase → Operand → Operand
comparison known scene wanted (Some how) left right second s = and_then (left s) (λ v s. and_then (second s) (λ w. made_on (ordered how v w)))
comparison known scene wanted None left right second s = matched_in known scene wanted left right s

-- a purge by keys is worth the count of what it reached
abbrev pub purged : Bool → Value → Operand
purged soft v s = and_then (known_on (as_text v) s) (λ keys s. and_then (ask (Xkey keys soft) s) (λ answer. On (value.Int (number_of answer))))

-- operands one after another, of which no function has more than three
abbrev pub values_of : List Operand → List Answer → Out (List Answer) (List Value)
values_of [] s = On [] s
values_of (operand ∷ operands) s = and_then (operand s) (λ v s. and_then (values_of operands s) (λ vs. On (v ∷ vs)))

abbrev pub all_values : List Operand → List Answer → Out (List Answer) (List Value)
all_values operands s = if nat_lt 3 (length operands) then Stuck else values_of operands s

-- a function that has to do with the jar of cookies gets the jar's text before what it is called with
abbrev pub jar_text : Scene → Operand
jar_text scene s = On (variable_value scene.default Jar scene.context) s

abbrev pub with_jar : Scene → JarUse → List Operand → List Operand
with_jar scene jar.None operands = operands
with_jar scene jar.Asks operands = jar_text scene ∷ operands
with_jar scene jar.Changes operands = jar_text scene ∷ operands

abbrev pub stored_value : Scene → ℕ → List Operand → Operand
stored_value scene k operands s = and_then (all_values operands s) (λ values. made_on (applied scene.stored k values))

-- a function of these arguments; the pattern of a substitution is the second one
abbrev pub called : Scene → Callee → Option (List ℕ) → List Operand → Operand
called scene (callee.Builtin (builtin.Substitute all)) (Some pattern) (x ∷ y ∷ z ∷ []) s = and_then (x s) (λ v s. and_then (z s) (λ w. known_on (substituted pattern all v w)))
called scene (callee.Builtin (builtin.Xkey soft)) second (x ∷ []) s = and_then (x s) (purged soft)
called scene (callee.Stored k use_of_jar) second operands s = stored_value scene k (with_jar scene use_of_jar operands) s
called scene (callee.Director k) second [] s = made_on (director_at scene.directors k) s
called scene (callee.Director k) second (x ∷ []) s = and_then (x s) (λ v. made_on (asked scene.directors k v))
called scene _ second operands s = Stuck

unfoldable mutual
  pub value_of : Known → Scene → Phrase → Operand
  value_of known scene (String place text) s = known_on (ok_of (text_value text)) s
  value_of known scene (Integer place n) s = On (value.Int n) s
  value_of known scene (Duration place time) s = On (value.Duration time) s
  value_of known scene (Named place name) s = made_on (named_value scene (read_of known name)) s
  value_of known scene (Node Group sign e) s = value_of known scene e s
  value_of known scene (Node Either left right) s = and_then (value_of known scene left s) (decides true (value_of known scene right))
  value_of known scene (Node Both left right) s = and_then (value_of known scene left s) (decides false (value_of known scene right))
  value_of known scene (Node Not sign e) s = and_then (value_of known scene e s) (λ v. made_on (opposite v))
  value_of known scene (Node (Compared how) left right) s =
      comparison known scene (asks_match how) (ordered_as how) (value_of known scene left) right (value_of known scene right) s
  value_of known scene (Node Added left right) s = and_then (value_of known scene left s) (λ v s. and_then (value_of known scene right s) (λ w. made_on (summed v w)))
  value_of known scene (Node Subtracted left right) s =
      and_then (value_of known scene left s) (λ v s. and_then (value_of known scene right s) (λ w. made_on (lessened v w)))
  value_of known scene (Node Called (Named place name) arguments) s = called scene (callee_of known name) (second_string arguments) (operands_of known scene arguments) s
  value_of known scene _ s = Stuck

  -- arguments, from the first on
  pub operands_of : Known → Scene → Phrase → List Operand
  operands_of known scene (Node More front e) = operands_of known scene front ++ value_of known scene e ∷ []
  operands_of known scene _ = []
