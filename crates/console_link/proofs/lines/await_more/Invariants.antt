-- Nothing has changed so far.
use Rattle.std.proofs.Common.{◌≡◌}
use Rattle.console_link.proofs.lines.await_more.Given as goal

abbrev pub invariant-loop-turn : goal.invariant-loop-turn
invariant-loop-turn g l = record {
  flow : g.L.Link.flow l.link ≡ g.L.Link.flow l.fn.link;
  reads : g.L.Link.read_faults l.link ≡ g.L.Link.read_faults l.fn.link;
  writes : g.L.Link.write_faults l.link ≡ g.L.Link.write_faults l.fn.link;
  peer : g.L.Link.peer l.link ≡ g.L.Link.peer l.fn.link;
}
