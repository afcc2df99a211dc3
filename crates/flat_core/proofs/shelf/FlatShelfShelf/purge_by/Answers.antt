use Rattle.std.proofs.Common.{rules}
use Rattle.flat_core.specs.contracts.shelf.FlatShelf.{the_view}
use Rattle.flat_core.proofs.Placings.{soft_moves, xkey_moves}
use Rattle.flat_core.proofs.shelf.FlatShelfShelf.purge_by.Goals as goal

pub returns-then-soft-clause-ok : goal.returns-then-soft-clause-ok
returns-then-soft-clause-ok c = rw (← c.self.view_is, c.if-soft.true) (soft_moves (the_view c.self.inside) c.args.moment c.args.keys.now _ _ (search rules) (search rules))

pub returns-clause-ok : goal.returns-clause-ok
returns-clause-ok c = rw (← c.self.view_is, c.if-soft.false) (xkey_moves (the_view c.self.inside) c.args.moment c.args.keys.now c.drop_xkeys.new.objects.items _ (search rules) (search rules))
