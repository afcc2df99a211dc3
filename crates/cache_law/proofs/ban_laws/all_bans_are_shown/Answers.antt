use Rattle.cache_law.proofs.WaitingBans.{all_bans_shown}
use Rattle.cache_law.proofs.ban_laws.all_bans_are_shown.Goals as goal

pub returns : goal.returns
returns c = λ bans objects await. all_bans_shown bans objects await
