use Rattle.ban_lurker.proofs.Staying.{verdict_stays}
use Rattle.ban_lurker.proofs.laws.verdicts_stay.Goals as goal

pub returns : goal.returns
returns c = verdict_stays
