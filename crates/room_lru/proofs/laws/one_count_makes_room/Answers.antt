use Rattle.room_lru.proofs.RoomLemmas.{some_count}
use Rattle.room_lru.proofs.laws.one_count_makes_room.Goals as goal

pub returns-clause-there : goal.returns-clause-there
returns-clause-there c = some_count
