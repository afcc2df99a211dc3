-- What may be sent on: a head that was read, with its fields changed.
use Rattle.std.specs.Prelude.{ℕ, List, [], ◌∷◌, ⊤}
use Rattle.http_heads.specs.declared.fields.Field.{Field}
use Rattle.http_heads.specs.declared.message.RequestHead.{RequestHead}
use Rattle.http_heads.specs.declared.message.ResponseHead.{ResponseHead}
use Rattle.http_heads.specs.Fields.{field, appended, replaced, without}
use Rattle.http_heads.specs.Printed.{IsPlainField}

-- a call of `set`, `append` or `unset` that changed the fields
pub data Change : Type 0 where
  Set : List ℕ → List ℕ → Change
  Append : List ℕ → List ℕ → Change
  Unset : List ℕ → Change

abbrev pub changed_by : Change → List Field → List Field
changed_by (Set name value) fields = replaced name value fields
changed_by (Append name value) fields = appended name value fields
changed_by (Unset name) fields = without name fields

-- the fields after each change in turn
abbrev pub changed : List Change → List Field → List Field
changed [] fields = fields
changed (change ∷ later) fields = changed later (changed_by change fields)

-- a field that is put in reads as it is printed
abbrev pub IsPlainChange : Change → Type 0
IsPlainChange (Set name value) = IsPlainField (field name value)
IsPlainChange (Append name value) = IsPlainField (field name value)
IsPlainChange (Unset name) = ⊤

-- the head with its fields changed
abbrev pub with_fields : List Change → RequestHead → RequestHead
with_fields changes m = record { method = m.method; url = m.url; version = m.version; fields = changed changes m.fields }

abbrev pub with_response_fields : List Change → ResponseHead → ResponseHead
with_response_fields changes m = record { version = m.version; status = m.status; reason = m.reason; fields = changed changes m.fields }
