use Rattle.std.proofs.Common.{◌≡◌, ◌∙◌, sym, subst, Some, ℤ}
use Rattle.std.specs.Int.{w128}
use Rattle.room_lru.specs.Members.{without}
use Rattle.room_lru.specs.Ends.{IsFree}
use Rattle.room_lru.proofs.EndLemmas.{free_of_others}
use Rattle.container_tests.proofs.room.move_end.Goals as goal
use mir.Val.{of_z, to_z}

pub move_end-requires : goal.move_end-requires
move_end-requires c = λ x found.
    let end : ℤ = to_z w128 (of_z w128 c.signed-end.result) in
    let all = c.is_free.ensures.0 c.if-not-is_free.false in
    let here : Some x ≡ Some c.in-Some.member = sym found ∙ sym c.get.ensures ∙ c.in-Some.is in
    let same : x ≡ c.in-Some.member = cc in
    subst (λ m. IsFree (end, m.handle) (without c.number-used.result c.args.room.now)) (sym same)
    (free_of_others (end, c.in-Some.member.handle) c.number-used.result c.args.room.now all)
