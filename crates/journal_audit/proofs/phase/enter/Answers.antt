use Rattle.std.proofs.Common.{subst}
use Rattle.journal_audit.specs.Following.{EndsEntry}
use Rattle.journal_audit.proofs.Lining.{bad_entry, entry_line}
use Rattle.journal_audit.proofs.phase.enter.Goals as goal

pub returns-in-Ok : goal.returns-in-Ok
returns-in-Ok g c = λ place at.
    entry_line g.F.Follower.stands c.args.follower c.args.said c.in-Ok.next place at
    (λ params state used there. subst (EndsEntry g.F.Follower.stands params state used c.args.said) c.in-Ok.is (c.in_ok-next.ensures params state used there))

pub returns-in-Err : goal.returns-in-Err
returns-in-Err g c = λ place at.
    bad_entry g.F.Follower.stands c.args.follower c.args.said c.in-Err.fault place at
    (λ params state used there. subst (EndsEntry g.F.Follower.stands params state used c.args.said) c.in-Err.is (c.in_ok-next.ensures params state used there))
