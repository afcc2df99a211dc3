use Rattle.audit_laws.proofs.Wholes.{journal_of}
use Rattle.audit_laws.proofs.laws.steps_are_journals.Goals as goal

pub returns : goal.returns
returns c = λ steps may ends. journal_of steps (may, ends)
