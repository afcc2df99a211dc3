use Rattle.std.proofs.Common.{sym, ◌∙◌}
use Rattle.std.proofs.lemmas.Fmt.{decimal_injective}
use Rattle.units.proofs.numbers.one_number.Goals as goal

pub returns : goal.returns
returns c = λ m n p q. decimal_injective m n p.0 q.0 (sym p.1 ∙ q.1)
