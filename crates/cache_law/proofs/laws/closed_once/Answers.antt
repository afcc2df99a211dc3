use Rattle.cache_law.proofs.Numbers.{stays_closed}
use Rattle.cache_law.proofs.laws.closed_once.Goals as goal

pub returns : goal.returns
returns c = stays_closed
