use Rattle.std.proofs.Common.{◌≡◌, ◌+◌, ◌-◌, ◌^◌, min, take}
use Rattle.cache_law.specs.History.{members_len}
use Rattle.cache_law.proofs.bytes.members_bytes.Given as goal

-- the members so far are counted
abbrev pub invariant-loop-member : goal.invariant-loop-member
invariant-loop-member l = l.total ≡ min (l.start + members_len (take l.member-index l.members)) (2 ^ 128 - 1)
