use Rattle.flat_core.specs.contracts.shelf.FlatShelf.{the_view}
use Rattle.flat_core.proofs.Standing.{gone_so}
use Rattle.flat_core.proofs.shelf.FlatShelfShelf.is_gone.Goals as goal

pub returns : goal.returns
returns c = rw (← c.self.view_is) (gone_so (the_view c.self.inside) c.args.moment c.args.stale c.is_gone.result (c.is_gone.ensures c.self.inside.bans.items))
