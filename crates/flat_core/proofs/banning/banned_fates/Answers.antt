use Rattle.std.proofs.Common.{arith, ◌<◌, length}
use Rattle.flat_core.specs.Banning.{banned_fate}
use Rattle.cache_desk.proofs.Passes.{map_one, map_whole}
use Rattle.flat_core.proofs.banning.banned_fates.Goals as goal

pub loop-place-preserved : goal.loop-place-preserved
loop-place-preserved c =
    let below : c.loop-place.place < length c.args.objects.now.items = omega (arith, c.args.objects.now.ok) in
    map_one (banned_fate c.args.moment c.args.ban.now) c.loop-place.place c.args.objects.now.items c.index.result.now _ c.loop-place.fates _ below c.loop-place.invariant c.index.ensures c.in_ok-banned_fate.ensures c.in_ok-push.ensures.ok

pub returns : goal.returns
returns c =
    map_whole (banned_fate c.args.moment c.args.ban.now) c.loop-place.place c.args.objects.now.items c.loop-place.fates (omega (arith, c.args.objects.now.ok)) c.loop-place.invariant
