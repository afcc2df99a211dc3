use Rattle.std.proofs.Common.{ne_eqb}
use Rattle.room_lru.specs.Endings.{AreTwo}
use Rattle.container_tests.proofs.room.move_ends.Goals as goal

pub move_ends-requires : goal.move_ends-requires
move_ends-requires c =
    let one = c.in-Some.one in
    let two = c.in-Some-ending.two in
    let apart : AreTwo one two = record { uses = ne_eqb one.used two.used c.if-one-two.false; handles = ne_eqb one.handle two.handle c.if-one-two-2.false } in
    (c.in-Some.ensures, (apart, tt), (c.in-Some-ending.ensures, tt, tt))
