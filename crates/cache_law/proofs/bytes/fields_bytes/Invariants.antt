use Rattle.std.proofs.Common.{◌≡◌, ◌+◌, ◌-◌, ◌^◌, min, take}
use Rattle.cache_law.specs.Object.{fields_len}
use Rattle.cache_law.proofs.bytes.fields_bytes.Given as goal

-- the fields so far are counted
abbrev pub invariant-loop-field : goal.invariant-loop-field
invariant-loop-field l = l.total ≡ min (l.start + fields_len (take l.field-index l.fields)) (2 ^ 128 - 1)
