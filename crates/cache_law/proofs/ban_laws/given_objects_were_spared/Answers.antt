use Rattle.cache_law.proofs.Struck.{given_spared}
use Rattle.cache_law.proofs.ban_laws.given_objects_were_spared.Goals as goal

pub returns : goal.returns
returns c = given_spared
