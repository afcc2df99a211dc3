-- The fields of the messages of a context.
use Rattle.std.specs.Prelude.{ℕ, ◌&&◌, nat_le, List, length, Option, Some, None, option_map, if◌then◌else◌}
use Rattle.vcl_values.specs.declared.value.Value.{Value}
use Rattle.vcl_values.specs.declared.value.Value.TheVariants as value
use Rattle.vcl_values.specs.Values.{text_of}
use Rattle.http_heads.specs.declared.fields.Field.{Field}
use Rattle.http_heads.specs.Fields.{first_value, replaced, without}
use Rattle.http_heads.specs.Limits.{set_limit}
use Rattle.vcl_context.specs.declared.context.Context.{Context}
use Rattle.vcl_context.specs.declared.variable.Message.{Message}
use Rattle.vcl_context.specs.declared.variable.Message.TheVariants as message
use Rattle.vcl_context.specs.Carried.{is_field}

abbrev pub fields_of : Message → Context → List Field
fields_of message.Request c = c.request.head.fields
fields_of message.Object c = c.object.head.fields
fields_of message.FetchRequest c = c.fetch_request.head.fields
fields_of message.FetchResponse c = c.fetch_response.head.fields
fields_of message.Response c = c.response.fields

-- the context with other fields in a message
abbrev pub with_fields : Message → List Field → Context → Context
with_fields message.Request fields c = record c { request = record c.request { head = record c.request.head { fields = fields } } }
with_fields message.Object fields c = record c { object = record c.object { head = record c.object.head { fields = fields } } }
with_fields message.FetchRequest fields c = record c { fetch_request = record c.fetch_request { head = record c.fetch_request.head { fields = fields } } }
with_fields message.FetchResponse fields c = record c { fetch_response = record c.fetch_response { head = record c.fetch_response.head { fields = fields } } }
with_fields message.Response fields c = record c { response = record c.response { fields = fields } }

-- a field reads as the value of the first one of its name, or as an absent text
abbrev pub field_value : Message → List ℕ → Context → Value
field_value message name c = value.String (first_value name (fields_of message c))

-- the fields with all of this name replaced by one, where it is a field and there are no more than the limit then
abbrev pub set_among : List ℕ → List ℕ → List Field → Option (List Field)
set_among name text fields =
    if is_field name text && nat_le (length (replaced name text fields)) set_limit then Some (replaced name text fields) else None

-- what a context becomes where a field is set to a value, of which the text is taken; None where the subroutine ends as `fail`
abbrev pub field_set : Message → List ℕ → Value → Context → Option Context
field_set message name v c = option_map (λ fields. with_fields message fields c) (set_among name (text_of v) (fields_of message c))

-- all fields of the name are gone
abbrev pub field_unset : Message → List ℕ → Context → Context
field_unset message name c = with_fields message (without name (fields_of message c)) c
