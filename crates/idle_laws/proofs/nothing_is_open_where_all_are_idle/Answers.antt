use Rattle.idle_laws.proofs.Idle.{all_closed}
use Rattle.idle_laws.proofs.nothing_is_open_where_all_are_idle.Goals as goal

pub returns : goal.returns
returns g = λ params state entries closed idle. all_closed params state entries closed idle
