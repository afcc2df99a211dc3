use Rattle.lazy_store.proofs.Rounds.{past_none, past_there, waits_at}
use Rattle.lazy_store.proofs.finding.waiting_at.Goals as goal

pub returns-then-newest-item-clause-none : goal.returns-then-newest-item-clause-none
returns-then-newest-item-clause-none c = past_there c.args.handle c.args.newest c.in-Some.item.now c.args.heads.now c.requires c.in-Some.ensures c.if-newest-item.true

pub returns-else-newest-item-clause-some : goal.returns-else-newest-item-clause-some
returns-else-newest-item-clause-some c = waits_at c.args.handle c.args.newest c.in-Some.item.now c.args.heads.now c.in-Some.ensures c.if-newest-item.false

pub returns-in-None-clause-none : goal.returns-in-None-clause-none
returns-in-None-clause-none c = past_none c.args.handle c.args.newest c.args.heads.now c.in-None.ensures
