-- The fields that say where a body ends (RFC 9112, section 6).
use Rattle.std.specs.Prelude.{ℕ, List, codes}
use Rattle.std.specs.Fmt.{decimal}
use Rattle.http_heads.specs.declared.fields.Field.{Field}
use Rattle.http_heads.specs.Fields.{appended, without}
use Rattle.http_bodies.specs.Framings.{length_name, coding_name}

-- nothing says where a body ends
abbrev pub unframed : List Field → List Field
unframed fields = without coding_name (without length_name fields)

-- one Content-Length says it
abbrev pub of_length : ℕ → List Field → List Field
of_length len fields = appended (codes "Content-Length") (decimal len) (unframed fields)
