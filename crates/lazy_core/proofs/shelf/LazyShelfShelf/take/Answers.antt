use Rattle.lazy_core.proofs.Lookups.{looks_told}
use Rattle.lazy_core.proofs.shelf.LazyShelfShelf.take.Goals as goal

pub returns-clause-ok : goal.returns-clause-ok
returns-clause-ok c =
    looks_told c.args.self.now.store c.take.new.store c.args.used c.args._moment c.args._query.now c.args.used_as c.args.marks c.take.result c.requires c.take.ensures.taken c.take.ensures.looked
