use Rattle.room_lru.proofs.MemberLemmas.{is_latest_behind}
use Rattle.room_lru.proofs.room.RoomLru.is_latest.Goals as goal

pub returns-in-Some : goal.returns-in-Some
returns-in-Some c = rw (← c.self.view_is) (is_latest_behind c.args.used c.in-Some.latest.now c.in-Some.field-0-1.now c.self.inside.members.entries c.in-Some.ensures.all_up_to c.in-Some.ensures.value)
