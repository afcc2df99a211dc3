use Rattle.idle_laws.proofs.Idle.{have_rounds}
use Rattle.idle_laws.proofs.fetches_are_of_open_rounds.Goals as goal

pub returns : goal.returns
returns g = λ params state entries have. have_rounds params state entries have
