-- A turn more.
use Rattle.std.proofs.Common.{◌∙◌, ap, Some, arith}
use Rattle.turnstile.specs.Handles.{known}
use Rattle.turnstile.specs.Knowledge.{saw}
use Rattle.shared_cache.specs.Sharing.{CallerKnows}
use Rattle.console_link.specs.Talks.{stand_of}
use Rattle.console_link.proofs.TalkFacts.{next_goes, next_talked, rose_later, wanting_behind}
use Rattle.console_link.proofs.Whole.{is_complete}
use Rattle.console_link.proofs.serving.serve_console.Goals as goal

pub returns-in-Some-clause-told : goal.returns-in-Some-clause-told
returns-in-Some-clause-told g c =
    next_talked c.args.site.now.vmods.now.stored (g.S.Shelf.files c.args.desk.now.shelf) (g.S.Shelf.files c.loop-turn.desk.shelf)
    (stand_of g.S.Shelf.faults g.K.Clock.readings c.args.desk.now) (stand_of g.S.Shelf.faults g.K.Clock.readings c.loop-turn.desk)
    (stand_of g.S.Shelf.faults g.K.Clock.readings c.serve_next.new.desk) (g.L.Link.flow c.args.link.now) (g.L.Link.flow c.loop-turn.link)
    (g.L.Link.flow c.serve_next.new.link) c.args.held.now c.loop-turn.held c.serve_next.new.held c.loop-turn.lines.items c.serve_next.new.lines.items c.in-Some.ended
    c.loop-turn.invariant.files c.loop-turn.invariant.goes c.in-Some.ensures.told

pub returns-in-Some-clause-complete : goal.returns-in-Some-clause-complete
returns-in-Some-clause-complete g c =
    is_complete c.args.site.now.vmods.now.stored (g.S.Shelf.files c.args.desk.now.shelf) (stand_of g.S.Shelf.faults g.K.Clock.readings c.args.desk.now)
    (stand_of g.S.Shelf.faults g.K.Clock.readings c.serve_next.new.desk) (g.L.Link.flow c.args.link.now) (g.L.Link.flow c.serve_next.new.link) c.args.held.now
    c.serve_next.new.held c.serve_next.new.lines.items c.in-Some.ended (g.L.Link.read_faults c.args.link.now) (g.L.Link.read_faults c.serve_next.new.link)
    (g.L.Link.write_faults c.args.link.now) (g.L.Link.write_faults c.serve_next.new.link) (returns-in-Some-clause-told g c)
    (λ is. rose_later _ _ _ c.loop-turn.invariant.reads (c.in-Some.ensures.reads (ap Some is)))
    (λ is. rose_later _ _ _ c.loop-turn.invariant.writes (c.in-Some.ensures.writes (ap Some is)))

pub loop-turn-preserved : goal.loop-turn-preserved
loop-turn-preserved g c = record {
  pass = c.serve_next.ensures.pass.0;
  knows = c.serve_next.ensures.pass.1 ∙ ap (λ (k : CallerKnows). saw k (known c.serve_next.new.desk.pass).seen) c.loop-turn.invariant.knows;
  goes = next_goes c.args.site.now.vmods.now.stored (g.S.Shelf.files c.args.desk.now.shelf) (g.S.Shelf.files c.loop-turn.desk.shelf)
      (stand_of g.S.Shelf.faults g.K.Clock.readings c.args.desk.now) (stand_of g.S.Shelf.faults g.K.Clock.readings c.loop-turn.desk)
      (stand_of g.S.Shelf.faults g.K.Clock.readings c.serve_next.new.desk) (g.L.Link.flow c.args.link.now) (g.L.Link.flow c.loop-turn.link)
      (g.L.Link.flow c.serve_next.new.link) c.args.held.now c.loop-turn.held c.serve_next.new.held c.loop-turn.lines.items c.serve_next.new.lines.items
      c.loop-turn.invariant.files c.loop-turn.invariant.goes c.in-None.ensures.told;
  legal = λ legal. c.serve_next.ensures.legal (c.loop-turn.invariant.legal legal);
  words = c.serve_next.ensures.words ∙ c.loop-turn.invariant.words;
  shelf = omega (arith, c.loop-turn.invariant.shelf, c.serve_next.ensures.shelf);
  files = c.serve_next.ensures.files ∙ c.loop-turn.invariant.files;
  reads = omega (arith, c.loop-turn.invariant.reads, c.serve_next.ensures.later_reads);
  writes = omega (arith, c.loop-turn.invariant.writes, c.serve_next.ensures.later_writes);
  peer = c.serve_next.ensures.peer ∙ c.loop-turn.invariant.peer;
}

pub returns-clause-told : goal.returns-clause-told
returns-clause-told g c =
    wanting_behind c.args.site.now.vmods.now.stored (g.S.Shelf.files c.args.desk.now.shelf) (stand_of g.S.Shelf.faults g.K.Clock.readings c.args.desk.now)
    (stand_of g.S.Shelf.faults g.K.Clock.readings c.loop-turn.desk) (g.L.Link.flow c.args.link.now) (g.L.Link.flow c.loop-turn.link) c.args.held.now c.loop-turn.held
    c.loop-turn.lines.items c.loop-turn.invariant.goes
