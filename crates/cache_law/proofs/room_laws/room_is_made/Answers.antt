use Rattle.cache_law.proofs.Making.{first_go, least_go, only_these, none_do}
use Rattle.cache_law.proofs.room_laws.room_is_made.Goals as goal

pub returns-clause-first : goal.returns-clause-first
returns-clause-first c = λ room size others apart. first_go room size others apart

pub returns-clause-least : goal.returns-clause-least
returns-clause-least c = λ room size others apart fits. least_go room size others apart fits

pub returns-clause-only : goal.returns-clause-only
returns-clause-only c = λ room size count others apart makes. only_these room size count others apart makes

pub returns-clause-none : goal.returns-clause-none
returns-clause-none c = λ room size count others large makes. none_do room size count others large makes
