use Rattle.cache_law.proofs.AlikeHistories.{legal_alike, reached_alike}
use Rattle.cache_law.proofs.base_laws.alike_is_legal.Goals as goal

pub returns-clause-legal : goal.returns-clause-legal
returns-clause-legal c = λ params less more entries alike legal. legal_alike params less more entries alike legal

pub returns-clause-reached : goal.returns-clause-reached
returns-clause-reached c = λ params less more entries alike follow. reached_alike params less more entries alike follow
