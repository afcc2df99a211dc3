use Rattle.cache_law.proofs.WaitingBans.{alone_at_once, others_stay}
use Rattle.cache_law.proofs.ban_laws.bans_act_at_once.Goals as goal

pub returns-clause-alone : goal.returns-clause-alone
returns-clause-alone c = λ issued objects e. alone_at_once issued objects e

pub returns-clause-others : goal.returns-clause-others
returns-clause-others c = λ issued objects e. others_stay issued objects e
