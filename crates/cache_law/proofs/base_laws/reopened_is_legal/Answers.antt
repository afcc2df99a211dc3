use Rattle.cache_law.proofs.Reopened.{legal_again}
use Rattle.cache_law.proofs.base_laws.reopened_is_legal.Goals as goal

pub returns : goal.returns
returns c = λ params base next entries legal is alike. legal_again params base next entries legal is alike
