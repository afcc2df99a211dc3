use Rattle.std.proofs.Common.{◌≡◌, ◌-◌, ◌^◌, ◌+◌, min, take}
use Rattle.flat_core.specs.Room.{sizes_staying}
use Rattle.flat_core.proofs.room.sizes_from.Given as goal

-- the objects so far are counted
abbrev pub invariant-loop-kept : goal.invariant-loop-kept
invariant-loop-kept l = l.total ≡ min (l.start + sizes_staying l.stale l.bound (take l.kept-index l.objects)) (2 ^ 128 - 1)
