use Rattle.cache_law.proofs.Within.{within_from}
use Rattle.cache_law.proofs.room_laws.sizes_stay_within.Goals as goal

pub returns : goal.returns
returns c = λ beginning entries sound fits. within_from beginning.params beginning.base entries sound fits
