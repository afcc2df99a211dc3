use Rattle.journal_reader.proofs.Counted.{IsHalf}
use Rattle.journal_reader.proofs.items.items.Given as goal

abbrev pub invariant-loop : goal.invariant-loop
invariant-loop g l = IsHalf g.T.Item.one_at l.fn.count l.fn.cursor l.counter l.items.items l.cursor
