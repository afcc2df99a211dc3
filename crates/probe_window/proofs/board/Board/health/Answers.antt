-- The first backend of the name, if there is one.
use Rattle.std.proofs.Common.{sym, ap, ◌∙◌, Option, Some, Bool}
use Rattle.std.specs.Prelude.{option_map}
use Rattle.probe_window.specs.declared.board.Watched.{Watched}
use Rattle.probe_window.specs.Windows.{is_healthy}
use Rattle.probe_window.proofs.FirstNamed.{found_there, unchanged}
use Rattle.probe_window.proofs.board.Board.health.Goals as goal

pub returns-in-Some : goal.returns-in-Some
returns-in-Some c =
    ap (λ (h : Bool). Some h) c.healthy.ensures
    ∙ sym (ap (λ (w : Option Watched). option_map (λ watched. is_healthy watched.window) w) (found_there c.args.backend.now c.args.self.now c.self.inside.watched.items c.in-Some.place c.index.result.now (sym c.self.view_is) c.in-Some.ensures c.index.ensures))

pub returns-in-None : goal.returns-in-None
returns-in-None c =
    sym (ap (λ (w : Option Watched). option_map (λ watched. is_healthy watched.window) w) (unchanged c.args.backend.now (λ w. w) c.args.self.now (sym c.in-None.ensures)).1)
