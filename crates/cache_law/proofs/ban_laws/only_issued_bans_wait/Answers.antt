use Rattle.cache_law.proofs.WaitingBans.{ban_over_await}
use Rattle.cache_law.proofs.ban_laws.only_issued_bans_wait.Goals as goal

pub returns : goal.returns
returns c = λ issued bans objects await. ban_over_await issued bans objects await
