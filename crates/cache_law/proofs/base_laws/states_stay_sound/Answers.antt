use Rattle.cache_law.proofs.Sound.{boot_is_base, sound_from}
use Rattle.cache_law.proofs.base_laws.states_stay_sound.Goals as goal

pub returns-clause-first : goal.returns-clause-first
returns-clause-first c = λ boot. boot_is_base boot

pub returns-clause-more : goal.returns-clause-more
returns-clause-more c = λ params state entries sound. sound_from params state entries sound
