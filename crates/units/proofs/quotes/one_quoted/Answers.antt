use Rattle.units.proofs.Pieces.{quoted_same}
use Rattle.units.proofs.quotes.one_quoted.Goals as goal

pub returns : goal.returns
returns c = λ v w x y h k. quoted_same v w _ x y h k
