use Rattle.cache_law.proofs.BanLemmas.{shown_by_all}
use Rattle.cache_law.proofs.ban_laws.bans_show_themselves.Goals as goal

pub returns : goal.returns
returns c = λ bans. shown_by_all bans
