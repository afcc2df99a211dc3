use Rattle.cache_law.proofs.Sound.{bans_listed}
use Rattle.cache_law.proofs.ban_laws.all_bans_may_be_listed.Goals as goal

pub returns : goal.returns
returns c = bans_listed
