-- Without memory for its program a round doesn't go on.
use Rattle.std.proofs.Common.{refl, inr}
use Rattle.round_lead.proofs.leading.go_on.Goals as goal

pub returns-in-Err-clause-cut : goal.returns-in-Err-clause-cut
returns-in-Err-clause-cut g c = inr (record { is = refl; same = refl })
