use Rattle.std.proofs.Common.{rules, arith, ◌≡◌, ◌<◌, ◌∙◌, sym, false, length}
use Rattle.flat_core.specs.Listing.{is_missing}
use Rattle.flat_core.proofs.Struck.{any_since-more, any_since-here, any_since-old, any_since-end}
use Rattle.flat_core.proofs.listing.lacks_for.Goals as goal

pub loop-place-preserved : goal.loop-place-preserved
loop-place-preserved c =
    let below : c.loop-place.place < length c.args.bans.now.items = omega (arith, c.args.bans.now.ok) in
    let later : c.args.kept.now.tested < c.index-ban.result.now.number = search rules in
    let spares : is_missing c.args.lines.now c.index-ban.result.now ≡ false = search rules in
    c.loop-place.invariant ∙ any_since-more (is_missing c.args.lines.now) c.args.kept.now.tested c.loop-place.place c.args.bans.now.items c.index-ban.result.now below c.index-ban.ensures later spares
