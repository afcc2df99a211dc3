use Rattle.std.proofs.Common.{rules, arith, ◌≡◌, ◌<◌, ◌∙◌, sym, false, length}
use Rattle.flat_core.specs.Scans.{is_struck}
use Rattle.flat_core.proofs.Struck.{any_since-more, any_since-here, any_since-old, any_since-end}
use Rattle.flat_core.proofs.matching.is_banned.Goals as goal

pub loop-place-preserved : goal.loop-place-preserved
loop-place-preserved c =
    let below : c.loop-place.place < length c.args.bans.now.items = omega (arith, c.args.bans.now.ok) in
    let later : c.args.kept.now.tested < c.index-ban.result.now.number = search rules in
    let spares : is_struck c.args.kept.now.view.object c.args.request.now c.index-ban.result.now ≡ false = search rules in
    c.loop-place.invariant ∙ any_since-more (is_struck c.args.kept.now.view.object c.args.request.now) c.args.kept.now.tested c.loop-place.place c.args.bans.now.items c.index-ban.result.now below c.index-ban.ensures later spares
