use Rattle.lazy_core.proofs.Lurks.{chore_told}
use Rattle.lazy_core.proofs.shelf.LazyShelfShelf.chore.Goals as goal

pub returns-clause-work : goal.returns-clause-work
returns-clause-work c = λ beginning entries sound stands. chore_told c.args.self.now.store beginning entries c.chore.result c.chore.ensures.work stands
