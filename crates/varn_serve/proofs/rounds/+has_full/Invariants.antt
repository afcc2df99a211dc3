use Rattle.std.proofs.Common.{length}
use Rattle.varn_serve.proofs.rounds.+has_full.Given as goal

abbrev pub decreases-has_full : goal.decreases-has_full
decreases-has_full l = length l.talks.now
