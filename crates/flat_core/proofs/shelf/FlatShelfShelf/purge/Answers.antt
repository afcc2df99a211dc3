use Rattle.std.proofs.Common.{rules}
use Rattle.flat_core.specs.contracts.shelf.FlatShelf.{the_view}
use Rattle.flat_core.proofs.Placings.{key_moves}
use Rattle.flat_core.proofs.shelf.FlatShelfShelf.purge.Goals as goal

pub returns-clause-ok : goal.returns-clause-ok
returns-clause-ok c = rw (← c.self.view_is) (key_moves (the_view c.self.inside) c.args.moment c.args.key.now c.drop_key.new.objects.items _ (search rules) (search rules))
