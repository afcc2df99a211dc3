use Rattle.cache_law.proofs.Sound.{sound_from}
use Rattle.lazy_law.proofs.Reopened.{reopens}
use Rattle.lazy_law.proofs.laws.reopened_ones_go_on.Goals as goal

pub returns-clause-base : goal.returns-clause-base
returns-clause-base c = λ beginning entries lazy sound closed at. (reopens beginning.params _ lazy (sound_from beginning.params beginning.base entries sound) closed at.stands).base

pub returns-clause-alike : goal.returns-clause-alike
returns-clause-alike c = λ beginning entries lazy sound closed at. (reopens beginning.params _ lazy (sound_from beginning.params beginning.base entries sound) closed at.stands).alike

pub returns-clause-stands : goal.returns-clause-stands
returns-clause-stands c = λ beginning entries lazy sound closed at. (reopens beginning.params _ lazy (sound_from beginning.params beginning.base entries sound) closed at.stands).stands
