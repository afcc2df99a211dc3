use Rattle.std.proofs.Common.{rules, arith, ◌≡◌, ◌<◌, length, get_or}
use Rattle.flat_core.specs.declared.stored_object.Fate.TheVariants.{Stays}
use Rattle.flat_core.specs.StoredObject.{moved_on}
use Rattle.flat_core.proofs.Objects.{settle_start, all_stay, settle_more, settle_whole}
use Rattle.flat_core.proofs.lists.settle.Goals as goal

pub returns-then-not-has_change : goal.returns-then-not-has_change
returns-then-not-has_change c = all_stay _ _ _ (search rules)

pub loop-place-preserved : goal.loop-place-preserved
loop-place-preserved c =
    let below : c.loop-place.place < length c.args.objects.now.items = omega (arith, c.args.objects.now.ok) in
    let moves : c.settle_first.new.objects.items ≡ moved_on c.args.count (get_or c.args.fates.now c.loop-place.place Stays) c.loop-place.objects.items = rw (← c.fate_at.ensures) c.settle_first.ensures in
    settle_more c.args.count c.args.fates.now c.loop-place.place c.args.objects.now.items c.loop-place.objects.items c.settle_first.new.objects.items below c.loop-place.invariant moves

pub returns : goal.returns
returns c =
    settle_whole c.args.count c.args.fates.now c.loop-place.place c.args.objects.now.items c.loop-place.objects.items (omega (arith, c.args.objects.now.ok)) c.loop-place.invariant

pub loop-place-init : goal.loop-place-init
loop-place-init c = settle_start c.args.count c.args.fates.now c.args.objects.now.items
