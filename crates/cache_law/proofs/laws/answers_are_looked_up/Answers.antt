use Rattle.cache_law.proofs.LookedUp.{legal_looked_up}
use Rattle.cache_law.proofs.laws.answers_are_looked_up.Goals as goal

pub returns : goal.returns
returns c = legal_looked_up
