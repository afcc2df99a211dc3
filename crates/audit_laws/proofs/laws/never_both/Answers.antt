use Rattle.audit_laws.proofs.Singles.{never}
use Rattle.audit_laws.proofs.laws.never_both.Goals as goal

pub returns : goal.returns
returns c = λ bytes number entries segments kind bad legal. never bytes number entries segments kind bad legal
