use Rattle.cache_law.proofs.GoingOn.{first_goes_on, more_go_on}
use Rattle.cache_law.proofs.base_laws.segments_go_on.Goals as goal

pub returns-clause-first : goal.returns-clause-first
returns-clause-first c = λ params first. first_goes_on params first

pub returns-clause-more : goal.returns-clause-more
returns-clause-more c = λ params first base next segments entries goes legal closed alike. more_go_on params first base next segments entries goes legal closed alike
