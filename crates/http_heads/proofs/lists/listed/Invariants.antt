-- What the fields so far list has been put behind.
use Rattle.std.proofs.Common.{◌≡◌, take}
use Rattle.std.specs.List.{flat_map}
use Rattle.http_heads.specs.Lists.{listed_in}
use Rattle.http_heads.proofs.lists.listed.Given as goal

abbrev pub invariant-loop-field : goal.invariant-loop-field
invariant-loop-field l = l.out.items ≡ flat_map (listed_in l.separators l.name) (take l.field-index l.fields)
