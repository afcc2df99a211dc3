-- The addresses that a request came from (RFC 7239, section 7.4, on X-Forwarded-For).
use Rattle.std.specs.Prelude.{ℕ, List, [], ◌++◌, codes, if◌then◌else◌}
use Rattle.std.specs.List.{flat_map}
use Rattle.vcl_values.specs.Values.{address_text}
use Rattle.http_heads.specs.declared.fields.Field.{Field}
use Rattle.http_heads.specs.Fields.{is_named, replaced}

-- what the field says of earlier addresses, with a comma and a blank behind it
abbrev pub earlier_in : Field → List ℕ
earlier_in f = if is_named (codes "x-forwarded-for") f then f.value ++ codes ", " else []

abbrev pub earlier : List Field → List ℕ
earlier fields = flat_map earlier_in fields

-- the last address is the one that the request came from
abbrev pub with_forwarded_for : List ℕ → List Field → List Field
with_forwarded_for peer fields = replaced (codes "X-Forwarded-For") (earlier fields ++ address_text peer) fields
