use Rattle.std.proofs.Common.{rules, ap, ◌∙◌}
use Rattle.lazy_store.specs.Cutting.{with_needed}
use Rattle.lazy_store.specs.Tidying.{with_timely}
use Rattle.lazy_core.specs.Shelf.{stock_in}
use Rattle.lazy_core.proofs.Cuts.{reopens}
use Rattle.lazy_core.proofs.Lurks.{swept_on}
use Rattle.lazy_core.proofs.Shelved.{reopens_so}
use Rattle.lazy_core.proofs.shelf.LazyShelfShelf.cut.Goals as goal

pub returns-in_err-sweep_all-clause-err : goal.returns-in_err-sweep_all-clause-err
returns-in_err-sweep_all-clause-err c = let on = swept_on c.args.self.now.store c.sweep_all.new.self c.sweep_all.ensures.only in search (on, rules)

pub returns-clause-ok : goal.returns-clause-ok
returns-clause-ok c = λ beginning entries sound stands at_ closed.
    reopens_so (record { store = c.keep_needed.new.self }) (stock_in c.keep_needed.new.self) beginning entries
    (reopens c.args.self.now.store c.sweep_all.new.self c.drop_ended.new.self c.keep_needed.new.self c.args.moment c.sweep_all.ensures.only c.in_ok-sweep_all.ensures.ok c.drop_ended.ensures c.keep_needed.ensures
    beginning entries sound stands at_ closed)

pub returns-clause-left : goal.returns-clause-left
returns-clause-left c = c.keep_needed.ensures ∙ ap with_needed (c.drop_ended.ensures ∙ ap (with_timely c.args.moment) c.in_ok-sweep_all.ensures.ok)
