use Rattle.audit_laws.proofs.Singles.{journal_one}
use Rattle.audit_laws.proofs.laws.one_journal.Goals as goal

pub returns : goal.returns
returns c = λ bytes some other p l q k. journal_one bytes some other p l q k
