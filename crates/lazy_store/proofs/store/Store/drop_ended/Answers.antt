use Rattle.std.proofs.Common.{length, ap, arith, ◌∙◌}
use Rattle.lazy_law.specs.Placed.{Lazy}
use Rattle.lazy_store.specs.Tidying.{with_timely}
use Rattle.lazy_store.proofs.Tidyings.{fewer_objects, timely_still, timely_whole}
use Rattle.lazy_store.proofs.store.Store.drop_ended.Goals as goal

pub loop-number-preserved : goal.loop-number-preserved
loop-number-preserved c =
    ap (with_timely c.args.moment) c.remove.ensures
    ∙ timely_still c.args.moment c.in-Some.number c.loop-number.self c.ended.ensures.apart c.in-Some.ensures.some ∙ c.loop-number.invariant

pub loop-number-smaller : goal.loop-number-smaller
loop-number-smaller c =
    let less = fewer_objects c.args.moment c.in-Some.number c.loop-number.self.objects c.in-Some.ensures.some in
    let same = ap (λ (lazy : Lazy). length lazy.objects) c.remove.ensures in
    omega (arith, less, same)

pub returns : goal.returns
returns c = timely_whole c.args.moment c.loop-number.self c.in_default.ensures.none ∙ c.loop-number.invariant
