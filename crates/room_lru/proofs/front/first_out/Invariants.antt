use Rattle.std.proofs.Common.{filter}
use Rattle.room_lru.specs.Room.{others}
use Rattle.room_lru.proofs.RoomLemmas.{Goes, stays}
use Rattle.room_lru.proofs.front.first_out.Given as goal

abbrev pub invariant-loop-used : goal.invariant-loop-used
invariant-loop-used l = Goes l.room l.size (others l.but l.members.entries) (filter (stays l.but) l.used-iterator) l.left l.out.items
