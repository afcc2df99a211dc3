use Rattle.cache_law.proofs.Tested.{given_tested}
use Rattle.cache_law.proofs.ban_laws.given_objects_were_tested.Goals as goal

pub returns : goal.returns
returns c = given_tested
