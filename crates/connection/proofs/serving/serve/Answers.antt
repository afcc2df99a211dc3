-- A turn more.
use Rattle.std.proofs.Common.{arith, ◌∙◌}
use Rattle.connection.proofs.TurnFacts.{goes_then, served_then}
use Rattle.connection.proofs.serving.serve.Goals as goal

pub returns-in-Some-clause-told : goal.returns-in-Some-clause-told
returns-in-Some-clause-told g c =
    served_then g.R.Responder.does (g.L.Link.flow c.args.link.now) (g.L.Link.flow c.loop-turn.link) (g.L.Link.flow c.serve_next.new.link) c.args.held.now
    c.loop-turn.held c.serve_next.new.held c.args.responder.now c.loop-turn.responder c.serve_next.new.responder c.in-Some.ended c.loop-turn.invariant.goes
    c.in-Some.ensures.told

pub loop-turn-preserved : goal.loop-turn-preserved
loop-turn-preserved g c = record {
  ready = c.in-None.ensures.ready;
  goes = goes_then g.R.Responder.does (g.L.Link.flow c.args.link.now) (g.L.Link.flow c.loop-turn.link) (g.L.Link.flow c.serve_next.new.link) c.args.held.now
      c.loop-turn.held c.serve_next.new.held c.args.responder.now c.loop-turn.responder c.serve_next.new.responder c.loop-turn.invariant.goes c.in-None.ensures.told;
  reads = omega (arith, c.loop-turn.invariant.reads, c.serve_next.ensures.later_reads);
  writes = omega (arith, c.loop-turn.invariant.writes, c.serve_next.ensures.later_writes);
  peer = c.serve_next.ensures.peer ∙ c.loop-turn.invariant.peer;
}
