use Rattle.lazy_core.proofs.Shelved.{soft_so, xkeys_so}
use Rattle.lazy_core.proofs.Standing.{same_told}
use Rattle.lazy_core.proofs.shelf.LazyShelfShelf.purge_by.Goals as goal

pub returns-then-soft-clause-ok : goal.returns-then-soft-clause-ok
returns-then-soft-clause-ok c =
    rw (c.if-soft.true) (soft_so c.args.self.now (record { store = c.soften.new.self }) c.args.moment c.args.keys.now c.as_slice.result.now c.soften.result c.as_slice.ensures c.soften.ensures.ok c.soften.ensures.count)

pub returns-then-soft-clause-err : goal.returns-then-soft-clause-err
returns-then-soft-clause-err c = same_told c.args.self.now.store c.soften.new.self c.soften.result c.soften.ensures.err

pub returns-else-soft-clause-ok : goal.returns-else-soft-clause-ok
returns-else-soft-clause-ok c =
    rw (c.if-soft.false)
    (xkeys_so c.args.self.now (record { store = c.purge_by.new.self }) c.args.moment c.args.keys.now c.as_slice-else-soft.result.now c.purge_by.result c.as_slice-else-soft.ensures c.purge_by.ensures.ok c.purge_by.ensures.count)

pub returns-else-soft-clause-err : goal.returns-else-soft-clause-err
returns-else-soft-clause-err c = same_told c.args.self.now.store c.purge_by.new.self c.purge_by.result c.purge_by.ensures.err
