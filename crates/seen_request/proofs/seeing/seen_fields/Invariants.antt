-- Those of the fields so far that are seen.
use Rattle.std.proofs.Common.{◌≡◌, filter, take}
use Rattle.seen_request.specs.Seen.{is_seen}
use Rattle.seen_request.proofs.seeing.seen_fields.Given as goal

abbrev pub invariant-loop-field : goal.invariant-loop-field
invariant-loop-field l = l.kept.items ≡ filter (is_seen l.fields) (take l.field-index l.fields)
