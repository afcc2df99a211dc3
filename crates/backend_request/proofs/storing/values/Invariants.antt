-- The values of the fields so far that have the name.
use Rattle.std.proofs.Common.{◌≡◌, filter, map, take}
use Rattle.http_heads.specs.Fields.{is_named}
use Rattle.backend_request.proofs.storing.values.Given as goal

abbrev pub invariant-loop-field : goal.invariant-loop-field
invariant-loop-field l = l.texts.items ≡ map (λ field. field.value) (filter (is_named l.name) (take l.field-index l.fields))
