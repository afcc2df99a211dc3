use Rattle.cache_law.proofs.Sound.{sound_from}
use Rattle.cache_law.proofs.Uses.{others_apart}
use Rattle.cache_law.proofs.room_laws.objects_are_used_apart.Goals as goal

pub returns-clause-all : goal.returns-clause-all
returns-clause-all c = λ beginning entries sound. (sound_from beginning.params beginning.base entries sound).uses

pub returns-clause-others : goal.returns-clause-others
returns-clause-others c = λ beginning entries moment stale sound. others_apart moment stale _ (sound_from beginning.params beginning.base entries sound).uses
