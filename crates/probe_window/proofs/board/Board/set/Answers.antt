-- The first backend of the name, if there is one.
use Rattle.std.proofs.Common.{sym, ap, ◌∙◌, Option, Some}
use Rattle.std.specs.Option.{option_and_then}
use Rattle.probe_window.specs.declared.board.Watched.{Watched}
use Rattle.probe_window.specs.Boards.{freed_health, with_forced}
use Rattle.probe_window.proofs.FirstNamed.{changed_there, found_there, unchanged}
use Rattle.probe_window.proofs.board.Board.set.Goals as goal

pub returns-in-Some-clause-board : goal.returns-in-Some-clause-board
returns-in-Some-clause-board c =
    changed_there c.args.backend.now (with_forced (Some c.args.forced)) c.args.self.now c.self.inside.watched.items c.in-Some.place c.index_mut.result.now c.set_forced.new.self (sym c.self.view_is) c.in-Some.ensures c.index_mut.ensures.value c.set_forced.ensures.watched

pub returns-in-Some-clause-health : goal.returns-in-Some-clause-health
returns-in-Some-clause-health c =
    c.set_forced.ensures.health
    ∙ sym (ap (λ (w : Option Watched). option_and_then (freed_health (Some c.args.forced)) w) (found_there c.args.backend.now c.args.self.now c.self.inside.watched.items c.in-Some.place c.index_mut.result.now (sym c.self.view_is) c.in-Some.ensures c.index_mut.ensures.value))

pub returns-in-None-clause-board : goal.returns-in-None-clause-board
returns-in-None-clause-board c = sym (unchanged c.args.backend.now (with_forced (Some c.args.forced)) c.args.self.now (sym c.in-None.ensures)).0

pub returns-in-None-clause-health : goal.returns-in-None-clause-health
returns-in-None-clause-health c =
    sym (ap (λ (w : Option Watched). option_and_then (freed_health (Some c.args.forced)) w) (unchanged c.args.backend.now (with_forced (Some c.args.forced)) c.args.self.now (sym c.in-None.ensures)).1)
