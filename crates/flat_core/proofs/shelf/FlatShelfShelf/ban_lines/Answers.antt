use Rattle.std.proofs.Common.{rules}
use Rattle.flat_core.specs.contracts.shelf.FlatShelf.{the_view}
use Rattle.cache_frame.specs.Shelves.{AreShown, Tells}
use Rattle.cache_frame.proofs.Results.{ok_map}
use Rattle.flat_core.specs.Shelf.{StandsFor}
use Rattle.flat_core.proofs.Standing.{shown_so}
use Rattle.flat_core.proofs.shelf.FlatShelfShelf.ban_lines.Goals as goal

pub returns : goal.returns
returns c = rw (← c.self.view_is) (ok_map _ _ (λ lines are. shown_so (the_view c.self.inside) c.args._moment lines are) c.ban_lines.result c.ban_lines.ensures)
