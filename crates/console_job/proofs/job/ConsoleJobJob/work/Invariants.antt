-- The operators who were served so far.
use Rattle.std.proofs.Common.{◌≡◌, length}
use Rattle.turnstile.specs.Handles.{known}
use Rattle.shared_cache.specs.Passes.{IsPassOf}
use Rattle.wire.specs.Calls.{joined_count}
use Rattle.wire.specs.Telling.{told_by}
use Rattle.crew.specs.Calls.{HasCalled}
use Rattle.console_link.specs.Talks.{stand_of}
use Rattle.console_job.specs.Operating.{AllServed, places_of_talks}
use Rattle.console_job.proofs.job.ConsoleJobJob.work.Given as goal

abbrev pub invariant-operators : goal.invariant-operators
invariant-operators g l = record {
  pass : IsPassOf l.cache l.desk.pass;
  called : HasCalled (known l.fn.pass) (known l.desk.pass) (places_of_talks l.talks.items);
  served : AllServed l.fn.self.vmods.stored (g.S.Shelf.files l.fn.self.shelf) (told_by g.T.Link.Link.flow g.T.Link.Link.read_faults g.T.Link.Link.write_faults g.T.Link.Link.peer g.T.Link.Link.is_open)
      (record { known = known l.fn.pass; readings = g.K.Clock.readings l.fn.self.kit.clock; faults = g.S.Shelf.faults l.fn.self.shelf })
      (stand_of g.S.Shelf.faults g.K.Clock.readings l.desk) l.talks.items l.links.items;
  files : g.S.Shelf.files l.desk.shelf ≡ g.S.Shelf.files l.fn.self.shelf;
  given : g.T.Listener.given l.fn.self.listener ≡ 0 → g.T.Listener.given l.listener ≡ joined_count 0 (length l.talks.items);
}
