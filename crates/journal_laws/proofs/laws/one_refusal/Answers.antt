use Rattle.journal_laws.proofs.Single.{refusal_same}
use Rattle.journal_laws.proofs.laws.one_refusal.Goals as goal

pub returns : goal.returns
returns c = λ text some other r q. refusal_same text some other r q
