-- The connection stays open behind all rounds so far.
use Rattle.std.proofs.Common.{◌≡◌, ◌≤◌}
use Rattle.connection.specs.Serving.{Goes}
use Rattle.connection.proofs.serving.serve.Given as goal

abbrev pub invariant-loop-turn : goal.invariant-loop-turn
invariant-loop-turn g l = record {
  ready : g.R.Responder.ready l.responder;
  goes : Goes g.R.Responder.does (g.L.Link.flow l.fn.link) (g.L.Link.flow l.link) l.fn.held l.held l.fn.responder l.responder;
  reads : g.L.Link.read_faults l.fn.link ≤ g.L.Link.read_faults l.link;
  writes : g.L.Link.write_faults l.fn.link ≤ g.L.Link.write_faults l.link;
  peer : g.L.Link.peer l.link ≡ g.L.Link.peer l.fn.link;
}
