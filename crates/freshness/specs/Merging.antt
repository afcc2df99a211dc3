-- The fields of a stored response once a 304 has confirmed it (RFC 9111, section 3.2).
use Rattle.std.specs.Prelude.{Bool, ◌==◌, List, ◌++◌, filter}
use Rattle.http_heads.specs.declared.fields.Field.{Field}
use Rattle.http_heads.specs.Fields.{count_of}

-- no field has the name of this one
abbrev pub is_lacking : List Field → Field → Bool
is_lacking fields field = count_of field.name fields == 0

-- the old fields whose names the new ones lack, and then the new ones
abbrev pub merged : List Field → List Field → List Field
merged old new = filter (is_lacking new) old ++ new
