-- A word that says nothing changes none.
use Rattle.std.proofs.Common.{sym, ap, ◌∙◌, refl, Option, None, Bool}
use Rattle.probe_window.specs.Boards.{changed, with_forced}
use Rattle.probe_window.proofs.FirstNamed.{same}
use Rattle.probe_window.proofs.board.Board.force.Goals as goal

pub returns-in-None-clause-board : goal.returns-in-None-clause-board
returns-in-None-clause-board c =
    sym (same c.args.backend.now (with_forced None) (λ w. refl) c.args.self.now)
    ∙ ap (λ (f : Option Bool). changed (with_forced f) c.args.backend.now c.args.self.now) c.in-None.ensures
