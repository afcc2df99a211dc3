use Rattle.std.proofs.Common.{◌<◌, ◌∙◌, length, arith, ap}
use Rattle.cache_law.specs.Vcls.{discarding}
use Rattle.cache_desk.proofs.Passes.{length-passed, one_passed, passed_whole}
use Rattle.cache_desk.proofs.vcls.discard.Goals as goal

pub index_mut-requires : goal.index_mut-requires
index_mut-requires c = omega (arith, ap length c.loop-place.invariant, length-passed (discarding c.args.number) c.loop-place.place c.args.vcls.now.items, c.loop-place.vcls.ok, c.args.vcls.now.ok)

pub loop-place-preserved : goal.loop-place-preserved
loop-place-preserved c =
    let below : c.loop-place.place < length c.args.vcls.now.items = omega (arith, c.args.vcls.now.ok) in
    one_passed (discarding c.args.number) c.loop-place.place c.args.vcls.now.items c.loop-place.vcls.items c.index_mut.result.now c.discard_if.new.loaded below c.loop-place.invariant c.index_mut.ensures.value c.discard_if.ensures

pub returns : goal.returns
returns c =
    c.loop-place.invariant ∙ passed_whole (discarding c.args.number) c.loop-place.place c.args.vcls.now.items (omega (arith, c.args.vcls.now.ok))
