-- Nobody was served at first, and then one operator behind another.
use Rattle.std.proofs.Common.{◌≡◌, List, [], ◌∷◌, ◌++◌, ◌∙◌, refl, ap}
use Rattle.turnstile.specs.Handles.{known}
use Rattle.wire.specs.Telling.{told_by}
use Rattle.console_link.specs.Talks.{Stand, stand_of}
use Rattle.console_link.specs.declared.talk.ConsoleTalk.{ConsoleTalk}
use Rattle.crew.proofs.Called.{called_none}
use Rattle.console_job.specs.Operating.{HasLurked, places_of_talks}
use Rattle.console_job.proofs.Served.{called_lurked, called_more, given_more, lurked_none, served_lurked, served_more}
use Rattle.console_job.proofs.job.ConsoleJobJob.work.Goals as goal

pub operators-init : goal.operators-init
operators-init g c =
    let talks = c.new-talks.ensures.items in
    let links = c.new-links.ensures.items in record {
      pass = c.requires.pass;
      called = rw talks (called_none (known c.args.pass));
      served = rw (talks, links) (lurked_none (record { known = known c.args.pass; readings = g.K.Clock.readings c.args.self.kit.clock; faults = g.S.Shelf.faults c.args.self.shelf }));
      files = refl;
      given = λ none. rw talks none;
    }

pub operators-preserved-in-Ok-Came : goal.operators-preserved-in-Ok-Came
operators-preserved-in-Ok-Came g c =
    let before = c.operators.invariant in
    let one = c.serve_operator-talk in
    let talk = one.result.0 in
    let link = one.result.1 in
    let stored = c.args.self.vmods.stored in
    let files = g.S.Shelf.files c.args.self.shelf in
    let tell = told_by g.T.Link.Link.flow g.T.Link.Link.read_faults g.T.Link.Link.write_faults g.T.Link.Link.peer g.T.Link.Link.is_open in
    let first : Stand = record { known = known c.args.pass; readings = g.K.Clock.readings c.args.self.kit.clock; faults = g.S.Shelf.faults c.args.self.shelf } in
    let now = stand_of g.S.Shelf.faults g.K.Clock.readings c.operators.desk in
    let new = stand_of g.S.Shelf.faults g.K.Clock.readings one.new.desk in
    let talks : c.push_reserved.new.self.items ≡ c.operators.talks.items ++ talk ∷ [] =
    c.push_reserved.ensures.items ∙ ap (λ (ts : List ConsoleTalk). ts ++ talk ∷ []) c.make_room.ensures.talks in
    let links : c.push_reserved-in-Ok-Came.new.self.items ≡ c.operators.links.items ++ link ∷ [] =
    c.push_reserved-in-Ok-Came.ensures.items ∙ ap (λ ls. ls ++ link ∷ []) c.make_room.ensures.links in
    let served = rw (c.deref.ensures, before.files) at one.ensures.served in record {
      pass = one.ensures.pass.0;
      called = rw talks (called_more stored files tell c.operators.talks.items talk link (known c.args.pass) now new before.called served one.ensures.pass.1);
      served = rw (talks, links) (served_more stored files tell c.operators.talks.items c.operators.links.items talk link first now new before.served served);
      files = one.ensures.files ∙ before.files;
      given = λ none. rw talks (given_more _ _ c.operators.talks.items talk (before.given none) (rw c.in-Ok-Came.field-0-is at c.in-Ok-Came.ensures.given));
    }

pub operators-preserved-in-Ok-NobodyYet : goal.operators-preserved-in-Ok-NobodyYet
operators-preserved-in-Ok-NobodyYet g c =
    let before = c.operators.invariant in
    let stored = c.args.self.vmods.stored in
    let files = g.S.Shelf.files c.args.self.shelf in
    let tell = told_by g.T.Link.Link.flow g.T.Link.Link.read_faults g.T.Link.Link.write_faults g.T.Link.Link.peer g.T.Link.Link.is_open in
    let first : Stand = record { known = known c.args.pass; readings = g.K.Clock.readings c.args.self.kit.clock; faults = g.S.Shelf.faults c.args.self.shelf } in
    let now = stand_of g.S.Shelf.faults g.K.Clock.readings c.operators.desk in
    let new : Stand = record now { known = known c.sweep.new.pass } in
    let lurked : HasLurked now new = record { called = c.sweep.ensures.called; readings = refl; faults = refl } in
    let talks = c.make_room.ensures.talks in
    let links = c.make_room.ensures.links in record {
      pass = c.sweep.ensures.pass;
      called = rw talks (called_lurked (known c.args.pass) now new (places_of_talks c.operators.talks.items) before.called lurked);
      served = rw (talks, links) (served_lurked stored files tell c.operators.talks.items c.operators.links.items first now new before.served lurked);
      files = before.files;
      given = λ none. rw talks (rw c.in-Ok-NobodyYet.field-0-is at c.in-Ok-NobodyYet.ensures.given ∙ before.given none);
    }
