-- The lines were answered so far.
use Rattle.std.proofs.Common.{◌≡◌, ◌≤◌}
use Rattle.turnstile.specs.Handles.{known}
use Rattle.turnstile.specs.Knowledge.{saw}
use Rattle.shared_cache.specs.Passes.{IsPassOf}
use Rattle.shared_cache.specs.Sharing.{SeesLegal}
use Rattle.console_link.specs.Talks.{Goes, stand_of}
use Rattle.console_link.proofs.serving.serve_console.Given as goal

abbrev pub invariant-loop-turn : goal.invariant-loop-turn
invariant-loop-turn g l = record {
  pass : IsPassOf l.fn.site.shared.now l.desk.pass;
  knows : known l.desk.pass ≡ saw (known l.fn.desk.pass) (known l.desk.pass).seen;
  goes : Goes l.fn.site.vmods.now.stored (g.S.Shelf.files l.fn.desk.shelf) (stand_of g.S.Shelf.faults g.K.Clock.readings l.fn.desk)
      (stand_of g.S.Shelf.faults g.K.Clock.readings l.desk) (g.L.Link.flow l.fn.link) (g.L.Link.flow l.link) l.fn.held l.held l.lines.items;
  legal : SeesLegal (known l.fn.desk.pass) → SeesLegal (known l.desk.pass);
  words : g.K.Clock.words l.desk.clock ≡ g.K.Clock.words l.fn.desk.clock;
  shelf : g.S.Shelf.faults l.fn.desk.shelf ≤ g.S.Shelf.faults l.desk.shelf;
  files : g.S.Shelf.files l.desk.shelf ≡ g.S.Shelf.files l.fn.desk.shelf;
  reads : g.L.Link.read_faults l.fn.link ≤ g.L.Link.read_faults l.link;
  writes : g.L.Link.write_faults l.fn.link ≤ g.L.Link.write_faults l.link;
  peer : g.L.Link.peer l.link ≡ g.L.Link.peer l.fn.link;
}
