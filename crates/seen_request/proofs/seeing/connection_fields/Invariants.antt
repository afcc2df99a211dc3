-- Those of the fields so far that are Connection.
use Rattle.std.proofs.Common.{◌≡◌, codes, filter, take}
use Rattle.http_heads.specs.Fields.{is_named}
use Rattle.seen_request.proofs.seeing.connection_fields.Given as goal

abbrev pub invariant-loop-field : goal.invariant-loop-field
invariant-loop-field l = l.found.items ≡ filter (is_named (codes "connection")) (take l.field-index l.fields)
