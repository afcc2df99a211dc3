use Rattle.std.proofs.Common.{rules, ap, ◌≡◌}
use Rattle.flat_core.specs.contracts.shelf.FlatShelf.{the_view}
use Rattle.flat_core.proofs.Standing.{reopens}
use Rattle.flat_core.proofs.shelf.FlatShelfShelf.cut.Goals as goal

pub returns-clause-ok : goal.returns-clause-ok
returns-clause-ok c = rw (← c.self.view_is) (reopens (the_view c.self.inside) _ c.args.moment c.keep_in_time.new.objects.items (search rules) (search rules))
