use Rattle.std.proofs.Common.{◌≡◌, ◌+◌, ◌-◌, ◌^◌, min, take}
use Rattle.cache_law.specs.Object.{vary_len}
use Rattle.cache_law.proofs.bytes.vary_bytes.Given as goal

-- the items so far are counted
abbrev pub invariant-loop-item : goal.invariant-loop-item
invariant-loop-item l = l.total ≡ min (l.start + vary_len (take l.item-index l.vary)) (2 ^ 128 - 1)
