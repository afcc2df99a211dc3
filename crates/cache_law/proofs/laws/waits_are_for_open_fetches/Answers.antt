use Rattle.cache_law.proofs.Waiting.{waits_open}
use Rattle.cache_law.proofs.laws.waits_are_for_open_fetches.Goals as goal

pub returns : goal.returns
returns c = waits_open
