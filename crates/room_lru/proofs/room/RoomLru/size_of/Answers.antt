use Rattle.std.proofs.Common.{◌≡◌, ◌+◌, ap, sym, arith}
use Rattle.room_lru.specs.Members.{total_of}
use Rattle.room_lru.specs.Room.{others}
use Rattle.room_lru.proofs.MemberLemmas.{kept_where_none, total_without}
use Rattle.room_lru.proofs.room.RoomLru.size_of.Goals as goal

pub returns-in-Some-get : goal.returns-in-Some-get
returns-in-Some-get c =
    let sum = total_without c.in-Some.used c.in-Some-get.member.now c.self.inside.members.entries c.self.invariant.ordered (sym c.in-Some-get.ensures.value) in
    rw (c.in-Some.is, ← c.self.view_is) sum

pub returns-in-None : goal.returns-in-None
returns-in-None c =
    let same = ap total_of (kept_where_none c.in-Some.used c.self.inside.members.entries (sym c.in-None.ensures.value)) in
    let sum : 0 + total_of (others c.args.used c.self.inside.members.entries) ≡ total_of c.self.inside.members.entries = rw c.in-Some.is (omega arith) in
    rw (← c.self.view_is) sum
