use Rattle.std.proofs.Common.{◌≡◌, ◌+◌, arith}
use Rattle.room_lru.specs.Members.{total_of}
use Rattle.room_lru.specs.Room.{others}
use Rattle.room_lru.proofs.RoomLemmas.{lack_where_small}
use Rattle.room_lru.proofs.room.RoomLru.least_out.Goals as goal

pub overflow_sub-left : goal.overflow_sub-left
overflow_sub-left c =
    let sum : c.size_of.result + total_of (others c.args.but c.self.inside.members.entries) ≡ total_of c.self.inside.members.entries = rw c.self.view_is c.size_of.ensures in
    let all = c.self.invariant.summed in
    omega arith

pub first_out-requires-clause-total : goal.first_out-requires-clause-total
first_out-requires-clause-total c =
    let sum : c.size_of.result + total_of (others c.args.but c.self.inside.members.entries) ≡ total_of c.self.inside.members.entries = rw c.self.view_is c.size_of.ensures in
    let all = c.self.invariant.summed in
    omega arith

pub returns-then-room-size : goal.returns-then-room-size
returns-then-room-size c = lack_where_small c.args.room c.args.size (others c.args.but c.args.self.now) c.if-room-size.true

pub returns : goal.returns
returns c = rw (← c.self.view_is) c.first_out.ensures
