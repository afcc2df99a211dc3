use Rattle.std.proofs.Common.{◌<◌, length, arith, sym, ◌∙◌}
use Rattle.flat_core.proofs.Scans.{see_more, seen_whole}
use Rattle.flat_core.proofs.scan.scan.Goals as goal

pub loop-place-preserved : goal.loop-place-preserved
loop-place-preserved c =
    let below : c.loop-place.place < length c.args.objects.now.items = omega (arith, c.args.objects.now.ok) in
    see_more c.args.moment c.args.query.now c.args.issued c.args.bans.now.items c.args.objects.now.items c.loop-place.place c.loop-place.seen c.look_at.new.self c.in-Ok.sight c.index.result.now below c.loop-place.invariant c.index.ensures c.in-Ok.ensures.sight (sym c.is_end.ensures ∙ c.if-is_end.false) c.in-Ok.ensures.seen

pub returns : goal.returns
returns c =
    seen_whole c.args.moment c.args.query.now c.args.issued c.args.bans.now.items c.args.objects.now.items c.loop-place.place c.loop-place.seen (omega (arith, c.args.objects.now.ok)) c.loop-place.invariant
