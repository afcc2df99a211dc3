use Rattle.std.proofs.Common.{sym, arith}
use Rattle.lazy_store.proofs.Lurks.{from_on}
use Rattle.lazy_store.proofs.Rounds.{past_end, past_last, past_step}
use Rattle.lazy_store.proofs.finding.waiting_from.Goals as goal

pub returns-then-next-clause-none : goal.returns-then-next-clause-none
returns-then-next-clause-none c =
    past_last c.args.handle c.args.newest c.in-Some.next c.args.heads.now (omega arith) c.requires.ahead
    (past_step c.args.handle c.args.newest c.loop-next.from c.in-Some.next c.args.heads.now c.is_newest-rise.ensures.in_order c.in-Some.ensures c.loop-next.invariant c.in_default-waiting_at.ensures.none)

pub loop-next-smaller : goal.loop-next-smaller
loop-next-smaller c =
    let on = from_on c.loop-next.from c.in-Some.next c.args.heads.now (sym c.in-Some.ensures) in
    omega (arith, on)

pub loop-next-preserved : goal.loop-next-preserved
loop-next-preserved c =
    past_step c.args.handle c.args.newest c.loop-next.from c.in-Some.next c.args.heads.now c.is_newest-rise.ensures.in_order c.in-Some.ensures c.loop-next.invariant c.in_default-waiting_at.ensures.none

pub returns-clause-none : goal.returns-clause-none
returns-clause-none c = past_end c.args.handle c.args.newest c.loop-next.from c.args.heads.now c.in_default.ensures c.loop-next.invariant
