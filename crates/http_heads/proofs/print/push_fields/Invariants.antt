-- The lines of the fields so far have been put behind.
use Rattle.std.proofs.Common.{◌≡◌, ◌++◌, take}
use Rattle.std.specs.List.{flat_map}
use Rattle.http_heads.specs.Printed.{field_text}
use Rattle.http_heads.proofs.print.push_fields.Given as goal

abbrev pub invariant-loop-field : goal.invariant-loop-field
invariant-loop-field l = l.out.items ≡ l.fn.out.items ++ flat_map field_text (take l.field-index l.fields)
