-- The talk over the link that was accepted, which is ended behind it.
use Rattle.wire.specs.Telling.{told_by}
use Rattle.console_job.proofs.serving.serve_operator.Goals as goal

pub returns-clause-served : goal.returns-clause-served
returns-clause-served g c = record {
  opening = told_by g.L.Link.flow g.L.Link.read_faults g.L.Link.write_faults g.L.Link.peer g.L.Link.is_open c.args.link;
  address = c.args.address;
  is_new = c.requires.new;
  behind = c.serve_console-talk.new.held;
  talked = rw c.shut.ensures.bytes (rw c.new-held.ensures at c.serve_console-talk.ensures.told);
  complete = rw (c.shut.ensures.bytes, c.shut.ensures.reads, c.shut.ensures.writes) (rw c.new-held.ensures at c.serve_console-talk.ensures.complete);
  reads = rw c.shut.ensures.reads c.serve_console-talk.ensures.reads;
  writes = rw c.shut.ensures.writes c.serve_console-talk.ensures.writes;
  stays = rw c.shut.ensures.peer c.serve_console-talk.ensures.peer;
  closed = c.shut.ensures.closed;
}
