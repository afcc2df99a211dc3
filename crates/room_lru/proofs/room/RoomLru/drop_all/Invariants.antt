use Rattle.std.proofs.Common.{◌≡◌, take}
use Rattle.room_lru.specs.Members.{without_all}
use Rattle.room_lru.proofs.room.RoomLru.drop_all.Given as goal

abbrev pub invariant-loop-used : goal.invariant-loop-used
invariant-loop-used l = l.self ≡ without_all (take l.used-index l.uses) l.initial.self
