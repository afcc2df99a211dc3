-- What the operators and functions of VCL make of values (the Varnish Reference Manual, VCL; docs/VCL.md). `Some None` is for what
-- passes a range or a limit: the run ends there as `fail`. None is for what no sound text has, as values of other types. What an
-- operator makes of each value that it takes is an Option alone, where None is for what passes a limit.
use Rattle.std.specs.Prelude.{ℕ, Bool, false, not, List, [], ◌∷◌, Option, Some, None, is_some, option_map, option_and_then, slice_get, Result, Ok, Err, if◌then◌else◌}
use Rattle.std.specs.Bool.{beq}
use Rattle.vcl_values.specs.declared.value.Backend.{Backend}
use Rattle.vcl_values.specs.declared.value.Value.{Value}
use Rattle.vcl_values.specs.declared.value.Value.TheVariants as value
use Rattle.vcl_values.specs.declared.value.Kind.{Kind}
use Rattle.vcl_values.specs.declared.value.Kind.TheVariants as kind
use Rattle.vcl_values.specs.declared.comparisons.Comparison.{Comparison}
use Rattle.vcl_values.specs.declared.sums.ValueError.{ValueError}
use Rattle.vcl_values.specs.declared.sums.ValueError.TheVariants as errors
use Rattle.vcl_values.specs.Values.{kind_of, text_of, truth_of}
use Rattle.vcl_values.specs.Operators.{sum_of, difference_of, text_value, text_within, compared}
use Rattle.vcl_values.specs.Readings.{first_found}
use Rattle.vcl_values.specs.Replacements.{replaced}
use Rattle.acl_match.specs.declared.entry.AclEntry.{AclEntry}
use Rattle.vmod_host.specs.Meanings.{meaning}
use Rattle.vmod_host.specs.declared.signature.Stored.{Stored}
use Rattle.vcl_context.specs.Kinds.{fits}
use Rattle.vcl_context.specs.Fields.{field_value}
use Rattle.vcl_context.specs.declared.context.Context.{Context}
use Rattle.vcl_context.specs.declared.variable.Message.{Message}
use Rattle.vcl_program.specs.declared.code.Code.{Code}
use Rattle.vcl_program.specs.declared.code.Director.{Director}
use Rattle.vcl_operands.specs.Lists.{takes}

abbrev pub ok_of : {A E : Type 0} → Result A E → Option A
ok_of (Ok a) = Some a
ok_of (Err e) = None

abbrev pub text : List ℕ → Value
text t = value.String (Some t)

-- a value as a text, of at most 65,536 bytes
abbrev pub as_text : Value → Option (List ℕ)
as_text v = ok_of (text_within (text_of v))

-- a string of the text by its number, and a field by its name's
abbrev pub literal : List (List ℕ) → ℕ → Option (Option Value)
literal texts k = option_map (λ t. ok_of (text_value t)) (slice_get texts k)

abbrev pub named_field : Context → List (List ℕ) → Message → ℕ → Option (Option Value)
named_field context texts message k = option_map (λ name. Some (field_value message name context)) (slice_get texts k)

-- a value in a condition, and the opposite
abbrev pub truth_value : Value → Option (Option Value)
truth_value v = option_map (λ b. Some (value.Bool b)) (truth_of v)

abbrev pub opposite : Value → Option (Option Value)
opposite v = option_map (λ b. Some (value.Bool (not b))) (truth_of v)

-- whether the value's text has a match of the pattern; with `false`, whether it has none
abbrev pub matched : List ℕ → Bool → Value → Option Value
matched pattern wanted v = option_map (λ t. value.Bool (beq (is_some (first_found pattern t)) wanted)) (as_text v)

-- whether the address is taken; with `false`, whether it isn't
abbrev pub sought : List AclEntry → Bool → Value → Option (Option Value)
sought entries wanted (value.Ip address) = Some (Some (value.Bool (beq (takes entries address) wanted)))
sought entries wanted v = None

abbrev pub ordered : Comparison → Value → Value → Option (Option Value)
ordered how v w = option_map (λ b. Some (value.Bool b)) (compared how v w)

-- a sum or a difference, which passes a range or a limit, or isn't one of the two types
abbrev pub in_range : Result Value ValueError → Option (Option Value)
in_range (Ok v) = Some (Some v)
in_range (Err errors.Kind) = None
in_range (Err errors.NoMemory) = Some None
in_range (Err errors.Range) = Some None
in_range (Err errors.TooLong) = Some None

abbrev pub summed : Value → Value → Option (Option Value)
summed v w = in_range (sum_of v w)

abbrev pub lessened : Value → Value → Option (Option Value)
lessened v w = in_range (difference_of v w)

-- a text with matches of a pattern replaced
abbrev pub replaced_in : List ℕ → Bool → List ℕ → List ℕ → Option Value
replaced_in pattern all t by = ok_of (text_value (replaced pattern t by all))

abbrev pub substituted : List ℕ → Bool → Value → Value → Option Value
substituted pattern all v w = option_and_then (λ t. option_and_then (replaced_in pattern all t) (as_text w)) (as_text v)

-- a declared backend by its number
abbrev pub backend_value : Backend → Value
backend_value backend = value.Backend (Some backend)

abbrev pub backend_at : List Backend → ℕ → Option (Option Value)
backend_at backends k = option_map (λ backend. Some (backend_value backend)) (slice_get backends k)

-- the one that a request is sent to where none is chosen
abbrev pub default_backend : Code → Option Backend
default_backend code = slice_get code.backends code.default_backend

-- a director by its number, with the text that it is asked with
abbrev pub director_value : Option (List ℕ) → Director → Value
director_value key director = backend_value (record { name = director.name; key = key; declared_none = false })

abbrev pub director_at : List Director → ℕ → Option (Option Value)
director_at directors k = option_map (λ director. Some (director_value None director)) (slice_get directors k)

abbrev pub asked_with : Value → Director → Option Value
asked_with v director = option_map (λ key. director_value (Some key) director) (as_text v)

abbrev pub asked : List Director → ℕ → Value → Option (Option Value)
asked directors k v = option_map (asked_with v) (slice_get directors k)

-- a value where one of this type is wanted: of any type where a text is, whose text stands for it
abbrev pub fitted : Kind → Value → Option (Option Value)
fitted kind.String (value.String t) = Some (Some (value.String t))
fitted kind.String v = Some (option_map text (as_text v))
fitted wanted v = if fits wanted (kind_of v) then Some (Some v) else None

-- each in its turn; where one passes a limit, those behind it don't matter
abbrev pub joined : Option (Option Value) → Option (Option (List Value)) → Option (Option (List Value))
joined None rest = None
joined (Some None) rest = Some None
joined (Some (Some v)) rest = option_map (option_map (λ vs. v ∷ vs)) rest

abbrev pub all_fitted : List Kind → List Value → Option (Option (List Value))
all_fitted [] [] = Some (Some [])
all_fitted (k ∷ ks) (v ∷ vs) = joined (fitted k v) (all_fitted ks vs)
all_fitted _ _ = None

-- a stored function of these arguments, by the meaning of its tag
abbrev pub meant : ℕ → Option (Option (List Value)) → Option (Option Value)
meant tag None = None
meant tag (Some None) = Some None
meant tag (Some (Some values)) = option_map Some (meaning tag values)

abbrev pub answered : Stored → List Value → Option (Option Value)
answered function values = meant function.tag (all_fitted function.signature.takes values)

abbrev pub applied : List Stored → ℕ → List Value → Option (Option Value)
applied stored k values = option_and_then (λ function. answered function values) (slice_get stored k)
