-- First the old fields that the new ones lack, and then the new ones.
use Rattle.std.proofs.Common.{◌≡◌, ◌++◌, take, filter}
use Rattle.freshness.specs.Merging.{is_lacking}
use Rattle.freshness.proofs.merging.joined.Given as goal

abbrev pub invariant-loop-field : goal.invariant-loop-field
invariant-loop-field l = l.fields.items ≡ filter (is_lacking l.new) (take l.field-index l.old)

abbrev pub invariant-loop-field-2 : goal.invariant-loop-field-2
invariant-loop-field-2 l = l.fields.items ≡ filter (is_lacking l.new) l.old ++ take l.field-index l.new
