use Rattle.std.proofs.Common.{subst}
use Rattle.journal_audit.specs.Following.{EndsCut}
use Rattle.journal_audit.proofs.Lining.{bad_cut, cut_line}
use Rattle.journal_audit.proofs.phase.cut.Goals as goal

pub returns-in-Ok : goal.returns-in-Ok
returns-in-Ok g c = λ place at.
    cut_line g.F.Follower.stands c.args.follower c.in-Ok.next place at
    (λ params state used there. subst (EndsCut g.F.Follower.stands params state) c.in-Ok.is (c.in_ok-next.ensures params state used there))

pub returns-in-Err : goal.returns-in-Err
returns-in-Err g c = λ place at.
    bad_cut g.F.Follower.stands c.args.follower c.in-Err.kind place at
    (λ params state used there. subst (EndsCut g.F.Follower.stands params state) c.in-Err.is (c.in_ok-next.ensures params state used there))
