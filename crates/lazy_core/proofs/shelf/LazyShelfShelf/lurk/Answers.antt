use Rattle.lazy_core.proofs.Lurks.{swept_on}
use Rattle.lazy_core.proofs.Standing.{both_on, cut_on}
use Rattle.lazy_core.proofs.shelf.LazyShelfShelf.lurk.Goals as goal

pub returns-in_err-swept-clause-stands : goal.returns-in_err-swept-clause-stands
returns-in_err-swept-clause-stands c = swept_on c.args.self.now.store c.lurk.new.self c.lurk.ensures.only

pub returns-clause-stands : goal.returns-clause-stands
returns-clause-stands c =
    both_on c.args.self.now.store c.lurk.new.self c.cut.new.self (swept_on c.args.self.now.store c.lurk.new.self c.lurk.ensures.only) (cut_on c.lurk.new.self c.cut.new.self c.cut.ensures.cut)

pub returns-clause-left : goal.returns-clause-left
returns-clause-left c = record { swept = c.lurk.new.self; sweeps = c.lurk.ensures.only; cuts = c.cut.ensures.cut }
