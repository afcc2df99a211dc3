use Rattle.std.proofs.Common.{length, arith, sym, ◌≡◌, ◌∙◌}
use Rattle.lazy_lookup.proofs.Walks.{nothing_yet, see_end, see_more, seen_whole}
use Rattle.lazy_lookup.proofs.looking.look_at_all.Goals as goal

pub loop-number-init : goal.loop-number-init
loop-number-init c = nothing_yet c.args.moment c.args.query.now c.args.store.now c.args.numbers.now c.nothing-seen.result c.nothing-seen.ensures

pub loop-number-preserved : goal.loop-number-preserved
loop-number-preserved c =
    see_more c.args.moment c.args.query.now c.args.store.now c.args.numbers.now c.loop-number.number-index 0 c.loop-number.seen c.look_at.new.seen c.loop-number-test.true c.loop-number.invariant
    (sym c.in-Ok.ensures.ends ∙ c.if-ends.false) c.in-Ok.ensures.seen

pub returns-then-ends : goal.returns-then-ends
returns-then-ends c =
    see_end c.args.moment c.args.query.now c.args.store.now c.args.numbers.now c.loop-number.number-index 0 c.loop-number.seen c.look_at.new.seen c.loop-number-test.true c.loop-number.invariant
    (sym c.in-Ok.ensures.ends ∙ c.if-ends.true) c.in-Ok.ensures.seen

pub returns : goal.returns
returns c =
    let end : c.loop-number.number-index ≡ length c.args.numbers.now = omega arith in
    seen_whole c.args.moment c.args.query.now c.args.store.now c.args.numbers.now c.loop-number.number-index c.loop-number.seen end c.loop-number.invariant
