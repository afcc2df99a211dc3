-- A run's entries are few enough for their places.
use Rattle.std.proofs.Common.{arith}
use Rattle.shared_cache.proofs.Numbers.{entries_reached}
use Rattle.shared_cache.proofs.kept.Kept.step.Goals as goal

pub overflow_add-result : goal.overflow_add-result
overflow_add-result g c =
    let beginning = g.C.CacheCore.beginning c.args.self.now.core in
    let history = g.C.CacheCore.history c.args.self.now.core in
    let made = c.in-Ok.ensures.told in
    let reached_so = entries_reached beginning.params beginning.base history in
    let counted = made.fits.counted in
    let place = made.place in
    let from = c.requires.from in
    omega arith
