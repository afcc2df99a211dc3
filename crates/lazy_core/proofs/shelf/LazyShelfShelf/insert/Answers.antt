use Rattle.std.proofs.Common.{rules}
use Rattle.cache_frame.specs.declared.seen.Placing.TheVariants.{NotInTime}
use Rattle.lazy_core.proofs.Placings.{never_places, not_true, placed_so}
use Rattle.lazy_core.proofs.Shelved.{places_so}
use Rattle.lazy_core.proofs.shelf.LazyShelfShelf.insert.Goals as goal

pub returns-then-not-is_next : goal.returns-then-not-is_next
returns-then-not-is_next c =
    places_so c.args.self.now c.args.self.now c.args.room c.args.used c.args.moment c.args.token c.args.object.now c.args.stale NotInTime
    (never_places c.args.self.now.store c.args.room c.args.used c.args.moment c.args.token c.args.object.now c.args.stale NotInTime (λ both. not_true c.is_next.result (search rules) (c.is_next.ensures.1 both)))

pub returns : goal.returns
returns c =
    places_so c.args.self.now (record { store = c.insert.new.store }) c.args.room c.args.used c.args.moment c.args.token c.args.object.now c.args.stale c.insert.result
    (placed_so c.args.self.now.store c.insert.new.store c.args.room c.args.used c.args.moment c.args.token c.args.object.now c.args.stale c.insert.result c.insert.ensures)
