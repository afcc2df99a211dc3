use Rattle.cache_law.proofs.Serving.{hit_serves}
use Rattle.cache_law.proofs.laws.hits_are_fresh.Goals as goal

pub returns : goal.returns
returns c = hit_serves
