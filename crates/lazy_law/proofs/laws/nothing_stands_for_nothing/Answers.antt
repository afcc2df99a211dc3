use Rattle.lazy_law.proofs.Opening.{nothing_stands}
use Rattle.lazy_law.proofs.laws.nothing_stands_for_nothing.Goals as goal

pub returns : goal.returns
returns c = λ beginning issued bans objects. nothing_stands beginning issued bans objects
