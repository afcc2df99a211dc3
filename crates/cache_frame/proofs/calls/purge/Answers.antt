use Rattle.std.proofs.Common.{refl}
use Rattle.cache_frame.proofs.Joins.{purge_joins}
use Rattle.cache_frame.proofs.calls.purge.Goals as goal

pub returns-clause-ok : goal.returns-clause-ok
returns-clause-ok g c room caller =
    purge_joins g.S.Shelf.Stands room c.args.desk.now c.pass.new.self caller c.args.moment c.args.shelf.now c.purge.new.self c.args.key.now c.in_ok-count.count _ c.pass.ensures refl refl c.in_ok-count.ensures.ok
