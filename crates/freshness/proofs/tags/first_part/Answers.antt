use Rattle.std.proofs.Common.{false}
use Rattle.freshness.proofs.Parts.{parts_begin}
use Rattle.freshness.proofs.tags.first_part.Goals as goal

pub loop-place-init : goal.loop-place-init
loop-place-init c = parts_begin false c.args.list.now
