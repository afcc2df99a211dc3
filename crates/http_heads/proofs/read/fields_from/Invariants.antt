-- The fields so far are those that the spans show.
use Rattle.std.proofs.Common.{◌≡◌, take}
use Rattle.std.specs.Prelude.{map}
use Rattle.http_heads.specs.Spans.{field_at}
use Rattle.http_heads.proofs.read.fields_from.Given as goal

abbrev pub invariant-loop-span : goal.invariant-loop-span
invariant-loop-span l = l.fields.items ≡ map (field_at l.front) (take l.span-index l.spans)
