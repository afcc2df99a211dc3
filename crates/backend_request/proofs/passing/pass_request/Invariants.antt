-- Those of the fields so far that go on.
use Rattle.std.proofs.Common.{◌≡◌, filter, take}
use Rattle.backend_request.specs.Passed.{stays_in_request}
use Rattle.backend_request.proofs.passing.pass_request.Given as goal

abbrev pub invariant-loop-field : goal.invariant-loop-field
invariant-loop-field l = l.kept.items ≡ filter (stays_in_request l.purpose l.fields) (take l.field-index l.fields)
