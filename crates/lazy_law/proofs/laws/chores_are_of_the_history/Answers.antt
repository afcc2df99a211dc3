use Rattle.lazy_law.proofs.Lurking.{all_chores}
use Rattle.lazy_law.proofs.laws.chores_are_of_the_history.Goals as goal

pub returns : goal.returns
returns c = λ beginning entries lazy at. all_chores lazy beginning entries at
