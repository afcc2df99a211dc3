use Rattle.std.proofs.Common.{◌≤◌, length, filter}
use Rattle.cache_law.specs.Object.{size_of}
use Rattle.flat_core.specs.Room.{IsShort, goes_before}
use Rattle.flat_core.proofs.room.bound_of.Given as goal

-- before the bound there is no room, and one object goes at least for each time that it was raised
abbrev pub invariant-loop : goal.invariant-loop
invariant-loop l = IsShort l.room (size_of l.object) l.stale l.objects.items l.bound × (l.counter ≤ length (filter (goes_before l.stale l.bound) l.objects.items))
