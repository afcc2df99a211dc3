use Rattle.cache_law.proofs.Sound.{sound_from}
use Rattle.lazy_law.proofs.Growing.{call_grows, refusal_grows}
use Rattle.lazy_law.proofs.laws.histories_go_on.Goals as goal

pub returns-clause-call : goal.returns-clause-call
returns-clause-call c = λ beginning entries lazy caller moment call sound less at. call_grows beginning entries lazy caller moment call (sound_from beginning.params beginning.base entries sound) less at

pub returns-clause-refusal : goal.returns-clause-refusal
returns-clause-refusal c = λ beginning entries lazy caller moment token object stale less at. refusal_grows beginning entries lazy caller moment token object stale less at
