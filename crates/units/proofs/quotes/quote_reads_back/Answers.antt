use Rattle.std.proofs.Common.{arith}
use Rattle.units.proofs.Pieces.{quote_back}
use Rattle.units.proofs.quotes.quote_reads_back.Goals as goal

pub returns : goal.returns
returns c = λ rest. quote_back c.args.text.now rest (λ i. omega (arith, c.type_inv.text i))
