use Rattle.lazy_core.proofs.Standing.{look_told}
use Rattle.lazy_core.proofs.shelf.LazyShelfShelf.look.Goals as goal

pub returns-clause-scan : goal.returns-clause-scan
returns-clause-scan c = look_told c.args.self.now.store c.args.moment c.args.query.now c.look.result c.look.ensures.fresh c.look.ensures.grace c.look.ensures.stale
