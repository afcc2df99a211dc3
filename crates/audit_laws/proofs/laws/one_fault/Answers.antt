use Rattle.audit_laws.proofs.Singles.{fault_one}
use Rattle.audit_laws.proofs.laws.one_fault.Goals as goal

pub returns : goal.returns
returns c = λ bytes number place some other bad worse. fault_one bytes number place some other bad worse
