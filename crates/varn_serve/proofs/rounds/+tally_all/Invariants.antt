use Rattle.std.proofs.Common.{length}
use Rattle.varn_serve.proofs.rounds.+tally_all.Given as goal

abbrev pub decreases-tally_all : goal.decreases-tally_all
decreases-tally_all g l = length l.keepers.now
