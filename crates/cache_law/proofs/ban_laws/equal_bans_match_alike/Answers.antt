use Rattle.std.proofs.Common.{Some, None}
use Rattle.cache_law.proofs.BanLemmas.{equal_bans_alike, equal_bans_alone}
use Rattle.cache_law.proofs.ban_laws.equal_bans_match_alike.Goals as goal

pub returns-clause-objects : goal.returns-clause-objects
returns-clause-objects c = λ some other object e. equal_bans_alike some.ban other.ban some.moment other.moment object None e

pub returns-clause-requests : goal.returns-clause-requests
returns-clause-requests c = λ some other object request e. equal_bans_alike some.ban other.ban some.moment other.moment object (Some request) e

pub returns-clause-alone : goal.returns-clause-alone
returns-clause-alone c = λ some other e. equal_bans_alone some.ban other.ban e
