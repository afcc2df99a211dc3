use Rattle.std.proofs.Common.{◌≡◌, ◌+◌, ◌-◌, ◌^◌, min, take}
use Rattle.cache_law.specs.Object.{texts_len}
use Rattle.cache_law.proofs.bytes.texts_bytes.Given as goal

-- the texts so far are counted
abbrev pub invariant-loop-text : goal.invariant-loop-text
invariant-loop-text l = l.total ≡ min (l.start + texts_len (take l.text-index l.texts)) (2 ^ 128 - 1)
