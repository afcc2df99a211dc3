use Rattle.std.proofs.Common.{refl}
use Rattle.cache_frame.proofs.Joins.{xkey_joins}
use Rattle.cache_frame.proofs.calls.purge_by.Goals as goal

pub returns-clause-ok : goal.returns-clause-ok
returns-clause-ok g c room caller =
    xkey_joins g.S.Shelf.Stands room c.args.desk.now c.pass.new.self caller c.args.moment c.args.shelf.now c.purge_by.new.self c.args.keys.now c.args.soft c.in_ok-count.count _ c.pass.ensures refl refl c.in_ok-count.ensures.ok
