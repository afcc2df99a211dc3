use Rattle.room_lru.proofs.room.RoomLru.total.Goals as goal

pub returns-clause-in_order : goal.returns-clause-in_order
returns-clause-in_order c = rw (← c.self.view_is) c.self.invariant.ordered
