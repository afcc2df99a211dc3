-- The link took the piece's front so far.
use Rattle.std.proofs.Common.{◌≡◌, [], length, ◌-◌, ◌≤◌, take}
use Rattle.wire.specs.Flow.{Moves}
use Rattle.wire.proofs.sending.write_most.Given as goal

abbrev pub invariant-loop-at : goal.invariant-loop-at
invariant-loop-at g l = record {
  within : l.at ≤ length l.piece;
  taken : Moves (g.L.Link.flow l.fn.link) (g.L.Link.flow l.link) [] (take l.at l.piece);
  later : g.L.Link.write_faults l.fn.link ≤ g.L.Link.write_faults l.link;
  other : g.L.Link.read_faults l.link ≡ g.L.Link.read_faults l.fn.link;
  peer : g.L.Link.peer l.link ≡ g.L.Link.peer l.fn.link;
}

abbrev pub decreases-loop-at : goal.decreases-loop-at
decreases-loop-at g l = length l.piece - l.at
