use Rattle.lazy_lookup.proofs.Walks.{SeenSo}
use Rattle.lazy_lookup.proofs.looking.look_at_all.Given as goal

abbrev pub invariant-loop-number : goal.invariant-loop-number
invariant-loop-number l = SeenSo l.moment l.query l.store l.numbers l.number-index l.seen
