-- What statements do with the values of their expressions (the Varnish Reference Manual, VCL; docs/VCL.md).
use Rattle.std.specs.Prelude.{◌≡◌, ℕ, Bool, true, false, List, [], ◌∷◌, ◌++◌, Option, Some, None, option_map, Result, Ok, Err}
use Rattle.vcl_values.specs.declared.value.Value.{Value}
use Rattle.vcl_values.specs.declared.value.Kind.TheVariants as kind
use Rattle.vcl_values.specs.Values.{kind_of, text_of}
use Rattle.vcl_values.specs.Operators.{text_value}
use Rattle.vcl_context.specs.Reading.{value_of as variable_value}
use Rattle.vcl_context.specs.Setting.{variable_set}
use Rattle.vcl_context.specs.Fields.{field_value, field_set}
use Rattle.vcl_context.specs.Kinds.{kind_of_variable, accepts}
use Rattle.vcl_context.specs.declared.context.Context.{Context}
use Rattle.vcl_context.specs.declared.setting.Setting.{Setting}
use Rattle.vcl_context.specs.declared.setting.Setting.TheVariants.{Done, Refused}
use Rattle.vcl_context.specs.declared.variable.Variable.{Variable}
use Rattle.vcl_context.specs.declared.variable.Message.{Message}
use Rattle.vcl_operands.specs.Values.{ok_of, as_text, fitted}

-- what is done with what is made of values
abbrev pub then_due : {A B : Type 0} → (A → Option (Option B)) → Option (Option A) → Option (Option B)
then_due next None = None
then_due next (Some None) = Some None
then_due next (Some (Some a)) = next a

-- `set` of a variable that takes the value, and of a field; `Some None` where the line of a head can't carry the value or the text
-- is too long, and None where no sound text comes
abbrev pub set_if : Bool → Variable → Value → Context → Option (Option Context)
set_if true variable v c = Some (variable_set variable v c)
set_if false variable v c = None

abbrev pub set_fitted : Variable → Context → Value → Option (Option Context)
set_fitted variable c v = set_if (accepts variable (kind_of v)) variable v c

abbrev pub set_to : Variable → Value → Context → Option (Option Context)
set_to variable v c = then_due (set_fitted variable c) (fitted (kind_of_variable variable) v)

abbrev pub field_to : Message → List ℕ → Value → Context → Option (Option Context)
field_to message name v c = then_due (λ w. Some (field_set message name w c)) (fitted kind.String v)

-- `+=` is `set` to the old text with the value's text behind it; no backend is added to
abbrev pub appended : Value → Value → Option Value
appended old v = ok_of (text_value (text_of old ++ text_of v))

abbrev pub append_to : Variable → Value → Context → Option (Option Context)
append_to variable v c = then_due (λ w. set_to variable w c) (Some (appended (variable_value None variable c) v))

abbrev pub append_field : Message → List ℕ → Value → Context → Option (Option Context)
append_field message name v c = then_due (λ w. field_to message name w c) (Some (appended (field_value message name c) v))

-- what a call that sets something tells, of what is due in a sound text
abbrev pub SetsDue : {E : Type 0} → Result Setting E → Context → Context → Option (Option Context) → Type 0
SetsDue (Ok Done) old new due = due ≡ Some (Some new)
SetsDue (Ok Refused) old new due = (due ≡ Some None) × (new ≡ old)
SetsDue (Err e) old new due = new ≡ old

-- one more text of the key, and the body
abbrev pub with_key : Context → List ℕ → Context
with_key c text = record c { key = c.key ++ text ∷ [] }

abbrev pub key_given : Value → Context → Option Context
key_given v c = option_map (with_key c) (as_text v)

abbrev pub with_body : Context → List ℕ → Context
with_body c text = record c { body = Some text }

abbrev pub body_given : Value → Context → Option Context
body_given v c = option_map (with_body c) (as_text v)
