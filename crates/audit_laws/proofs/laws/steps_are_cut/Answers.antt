use Rattle.audit_laws.proofs.Agreeing.{steps_cut}
use Rattle.audit_laws.proofs.laws.steps_are_cut.Goals as goal

pub returns : goal.returns
returns c = λ steps others tail p q v w e. steps_cut steps others tail p q v w e
