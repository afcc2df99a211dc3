use Rattle.std.proofs.Common.{refl}
use Rattle.flat_core.specs.contracts.shelf.FlatShelf.{the_view}
use Rattle.flat_core.proofs.Standing.{seen_so}
use Rattle.flat_core.proofs.shelf.FlatShelfShelf.look.Goals as goal

pub returns-clause-scan : goal.returns-clause-scan
returns-clause-scan c = rw (← c.self.view_is) (seen_so (the_view c.self.inside) c.args.moment c.args.query.now c.in_ok-seen.seen _ c.in_ok-seen.ensures refl refl refl)
