use Rattle.lazy_law.proofs.Lurking.{fewer_wait, swept_at}
use Rattle.lazy_law.proofs.laws.sweeps_are_unseen.Goals as goal

pub returns-clause-stands : goal.returns-clause-stands
returns-clause-stands c = λ beginning entries lazy chosen at. swept_at lazy beginning entries chosen at

pub returns-clause-fewer : goal.returns-clause-fewer
returns-clause-fewer c = λ beginning entries lazy chosen at. fewer_wait lazy _ chosen at.stands.kept
