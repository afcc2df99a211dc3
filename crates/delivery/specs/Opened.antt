-- What vcl_deliver and vcl_synth begin with (Varnish Reference Manual, VCL-Variables, "resp").
use Rattle.std.specs.Prelude.{ℕ, ℤ, List, [], ◌++◌, ◌/◌, ◌-ℤ◌, pos, negsuc, Option, Some, None, codes}
use Rattle.std.specs.Fmt.{decimal}
use Rattle.http_heads.specs.declared.fields.Field.{Field}
use Rattle.http_heads.specs.declared.message.ResponseHead.{ResponseHead}
use Rattle.http_heads.specs.Fields.{appended, replaced}
use Rattle.delivery.specs.declared.opening.Numbers.{Numbers}

-- whole seconds, none where less than nothing has passed
abbrev pub whole_seconds : ℤ → ℕ
whole_seconds (pos millis) = millis / 1000
whole_seconds (negsuc millis) = 0

-- the age at a moment of what was made at the origin (RFC 9111, section 4.2.3)
abbrev pub age_of : ℤ → ℕ → ℕ
age_of origin moment = whole_seconds (pos moment -ℤ origin)

-- the number of an object, behind a blank
abbrev pub object_text : Option ℕ → List ℕ
object_text None = []
object_text (Some number) = codes " " ++ decimal number

-- the request's number, and the object's where one was found
abbrev pub numbers_text : Numbers → List ℕ
numbers_text numbers = decimal numbers.round ++ object_text numbers.object

-- The status, reason and fields of an object or a reply, its numbers, and its age (RFC 9111, section 5.1), which stands in the
-- place of each age that the backend told (section 4): the object's origin has that one already.
abbrev pub opened : ℕ → List ℕ → List Field → Numbers → ℕ → ResponseHead
opened status reason fields numbers age = record {
  version = 11;
  status = status;
  reason = reason;
  fields = replaced (codes "Age") (decimal age) (appended (codes "X-Varnish") (numbers_text numbers) fields);
}

-- a response that no backend made has its number alone
abbrev pub opened_synthetic : ℕ → List ℕ → ℕ → ResponseHead
opened_synthetic status reason round =
    record { version = 11; status = status; reason = reason; fields = appended (codes "X-Varnish") (decimal round) [] }
