use Rattle.audit_laws.proofs.Wholes.{journal_may, lines_same_in}
use Rattle.audit_laws.proofs.laws.journals_are_steps.Goals as goal

pub returns-clause-lines : goal.returns-clause-lines
returns-clause-lines c = λ journal. lines_same_in journal

pub returns-clause-lawful : goal.returns-clause-lawful
returns-clause-lawful c = λ journal lawful. journal_may journal lawful
