-- Those of the fields so far that are kept.
use Rattle.std.proofs.Common.{◌≡◌, not, filter, take}
use Rattle.backend_request.specs.Passed.{is_of_connection}
use Rattle.backend_request.proofs.passing.pass_reply.Given as goal

abbrev pub invariant-loop-field : goal.invariant-loop-field
invariant-loop-field l = l.kept.items ≡ filter (λ f. not (is_of_connection l.fields f)) (take l.field-index l.fields)
