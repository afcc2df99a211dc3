use Rattle.std.proofs.Common.{subst}
use Rattle.journal_audit.specs.declared.going.Found.{Found}
use Rattle.journal_audit.specs.Feeding.{IsFound}
use Rattle.journal_audit.proofs.Finishing.{bad_at}
use Rattle.journal_audit.proofs.auditor.Auditor.finish.Goals as goal

pub returns : goal.returns
returns g c = λ bytes fed.
    bad_at c.in-Bad.line c.in-Bad.fault bytes (subst (λ (f : Found g.row.F.Denot). IsFound g.F.Follower.stands f c.args.self.held.items bytes) c.in-Bad.is fed)
