-- The reader was fed a front of all that came, and the rest is held.
use Rattle.std.proofs.Common.{◌≡◌, ℕ, ◌≤◌, List, ◌++◌}
use Rattle.message_reader.specs.Inputs.{Hears}
use Rattle.message_reader.specs.BodiesTold.{Fed}
use Rattle.message_reader.proofs.bodies.feed_all.Given as goal

abbrev pub invariant-loop-turn : goal.invariant-loop-turn
invariant-loop-turn g l = record {
  heard : Hears (g.L.Link.flow l.fn.link) (g.L.Link.flow l.link) l.fn.held (λ input. (used : List ℕ) × (used ++ l.held ≡ input) × Fed l.fn.reader l.reader used);
  later : g.L.Link.read_faults l.fn.link ≤ g.L.Link.read_faults l.link;
  other : g.L.Link.write_faults l.link ≡ g.L.Link.write_faults l.fn.link;
  peer : g.L.Link.peer l.link ≡ g.L.Link.peer l.fn.link;
}
