use Rattle.std.proofs.Common.{Some, None}
use Rattle.cache_law.proofs.BanLemmas.{matches_alone}
use Rattle.cache_law.proofs.ban_laws.no_request_matters.Goals as goal

pub returns : goal.returns
returns c = λ issued object request e. matches_alone issued.ban issued.moment object (Some request) None e
