use Rattle.xkey_index.proofs.MemberLemmas.{is_newest_before}
use Rattle.xkey_index.proofs.index.XkeyIndex.is_newest.Goals as goal

pub returns-in-Some-clause-newest : goal.returns-in-Some-clause-newest
returns-in-Some-clause-newest c = rw (← c.self.view_is) (is_newest_before c.args.handle c.self.inside.keys.entries c.in-Some.newest.now c.in-Some.field-0-1.now c.self.invariant.0 c.in-Some.ensures.first)

pub returns-in-Some-clause-in_order : goal.returns-in-Some-clause-in_order
returns-in-Some-clause-in_order c = rw (← c.self.view_is) c.self.invariant.0

pub returns-in-None-clause-in_order : goal.returns-in-None-clause-in_order
returns-in-None-clause-in_order c = rw (← c.self.view_is) c.self.invariant.0
