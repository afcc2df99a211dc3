use Rattle.audit_laws.proofs.Singles.{stopping}
use Rattle.audit_laws.proofs.laws.stops.Goals as goal

pub returns : goal.returns
returns c = λ bytes number kind bad. stopping bytes number kind bad
