use Rattle.lazy_core.proofs.Shelved.{key_so}
use Rattle.lazy_core.proofs.Standing.{same_told}
use Rattle.lazy_core.proofs.shelf.LazyShelfShelf.purge.Goals as goal

pub returns-clause-ok : goal.returns-clause-ok
returns-clause-ok c = key_so c.args.self.now (record { store = c.purge.new.self }) c.args.moment c.args.key.now c.as_slice.result.now c.purge.result c.as_slice.ensures c.purge.ensures.ok c.purge.ensures.count

pub returns-clause-err : goal.returns-clause-err
returns-clause-err c = same_told c.args.self.now.store c.purge.new.self c.purge.result c.purge.ensures.err
