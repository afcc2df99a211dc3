use Rattle.std.proofs.Common.{arith, ◌<◌, length}
use Rattle.cache_law.specs.BansAtOnce.{open_line}
use Rattle.cache_desk.proofs.Passes.{map_one, map_whole}
use Rattle.flat_core.proofs.banning.ban_lines.Goals as goal

pub loop-place-preserved : goal.loop-place-preserved
loop-place-preserved c =
    let below : c.loop-place.place < length c.args.bans.now.items = omega (arith, c.args.bans.now.ok) in
    map_one open_line c.loop-place.place c.args.bans.now.items c.index.result.now _ c.loop-place.lines _ below c.loop-place.invariant c.index.ensures c.in_ok-ban_line.ensures c.in_ok-push.ensures.ok

pub returns : goal.returns
returns c =
    map_whole open_line c.loop-place.place c.args.bans.now.items c.loop-place.lines (omega (arith, c.args.bans.now.ok)) c.loop-place.invariant
