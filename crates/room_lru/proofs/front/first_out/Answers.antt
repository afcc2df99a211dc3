use Rattle.std.proofs.Common.{◌+◌, ◌<◌, ◌∙◌, sym, subst, length, filter, arith}
use Rattle.room_lru.specs.Room.{others, most_out}
use Rattle.room_lru.proofs.RoomLemmas.{Goes, stays, goes_none, goes_more, next_stays}
use Rattle.room_lru.proofs.front.first_out.Goals as goal

pub loop-used-init : goal.loop-used-init
loop-used-init c =
    rw (c.new-out.ensures.items, c.into_iter-used-iterator.ensures.into_iter_gives.0)
    (goes_none c.args.room c.args.size c.args.but c.args.members.now.entries c.args.total c.requires.total)

pub loop-used-preserved : goal.loop-used-preserved
loop-used-preserved c =
    let all = others c.args.but c.args.members.now.entries in
    let rest = filter (stays c.args.but) c.next.new.self in
    let next = next_stays c.args.but c.loop-used.used-iterator (c.in-Some.used.now, c.in-Some.member.now) c.next.new.self c.in-Some.ensures.steps (sym c.eq.ensures ∙ c.if-eq.false) in
    let goes = subst (λ ms. Goes c.args.room c.args.size all ms c.loop-used.left c.loop-used.out.items) next c.loop-used.invariant in
    let over : c.args.room < c.loop-used.left + c.args.size = omega arith in
    let few : length c.loop-used.out.items < most_out = omega (arith, goes.few) in
    rw c.in_ok-push.ensures.items
    (goes_more c.args.room c.args.size all rest (c.in-Some.used.now, c.in-Some.member.now) c.loop-used.left c.loop-used.out.items goes over few)
