use Rattle.std.proofs.Common.{rules, arith, ◌≡◌, ◌<◌, ◌++◌, ◌∷◌, [], length}
use Rattle.flat_core.specs.Purging.{softening}
use Rattle.cache_desk.proofs.Passes.{map_one, map_whole}
use Rattle.flat_core.proofs.purging.softened_all.Goals as goal

pub loop-place-preserved : goal.loop-place-preserved
loop-place-preserved c =
    let below : c.loop-place.place < length c.args.objects.now.items = omega (arith, c.args.objects.now.ok) in
    let puts : c.push_back.new.self.items ≡ c.loop-place.left.items ++ c.in_ok-softening.field-0 ∷ [] = search rules in
    map_one (softening c.args.moment c.args.keys.now) c.loop-place.place c.args.objects.now.items c.index.result.now _ c.loop-place.left.items _ below c.loop-place.invariant c.index.ensures c.in_ok-softening.ensures puts

pub returns : goal.returns
returns c =
    map_whole (softening c.args.moment c.args.keys.now) c.loop-place.place c.args.objects.now.items c.loop-place.left.items (omega (arith, c.args.objects.now.ok)) c.loop-place.invariant
