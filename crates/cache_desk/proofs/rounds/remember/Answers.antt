use Rattle.std.proofs.Common.{◌<◌, ◌∙◌, length, arith, ap}
use Rattle.cache_law.specs.State.{remembering}
use Rattle.cache_desk.proofs.Passes.{length-passed, one_passed, passed_whole}
use Rattle.cache_desk.proofs.rounds.remember.Goals as goal

pub index-requires : goal.index-requires
index-requires c = omega (arith, ap length c.loop-place.invariant, length-passed (remembering c.args.caller c.args.token) c.loop-place.place c.args.rounds.now.items, c.loop-place.rounds.ok, c.args.rounds.now.ok)

pub index_mut-requires : goal.index_mut-requires
index_mut-requires c = omega (arith, ap length c.loop-place.invariant, length-passed (remembering c.args.caller c.args.token) c.loop-place.place c.args.rounds.now.items, c.loop-place.rounds.ok, c.args.rounds.now.ok)

pub loop-place-preserved : goal.loop-place-preserved
loop-place-preserved c =
    let below : c.loop-place.place < length c.args.rounds.now.items = omega (arith, c.args.rounds.now.ok) in
    one_passed (remembering c.args.caller c.args.token) c.loop-place.place c.args.rounds.now.items c.loop-place.rounds.items c.index.result.now c.remembering.result below c.loop-place.invariant c.index.ensures c.remembering.ensures

pub returns : goal.returns
returns c =
    c.loop-place.invariant ∙ passed_whole (remembering c.args.caller c.args.token) c.loop-place.place c.args.rounds.now.items (omega (arith, c.args.rounds.now.ok))
