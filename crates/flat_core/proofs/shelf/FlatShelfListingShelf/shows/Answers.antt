use Rattle.std.proofs.Common.{refl, rules}
use Rattle.flat_core.specs.contracts.shelf.FlatShelf.{the_view}
use Rattle.flat_core.proofs.Listings.{shows_so}
use Rattle.flat_core.proofs.shelf.FlatShelfListingShelf.shows.Goals as goal

pub returns : goal.returns
returns c = rw (← c.self.view_is) (shows_so (the_view c.self.inside) c.args.moment c.args.lines.now c.lacks.result _ c.lacks.ensures refl)
