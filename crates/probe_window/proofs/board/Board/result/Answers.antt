-- The first backend of the name, if there is one.
use Rattle.std.proofs.Common.{sym, ap, ◌∙◌, Option}
use Rattle.std.specs.Option.{option_and_then}
use Rattle.probe_window.specs.declared.board.Watched.{Watched}
use Rattle.probe_window.specs.Boards.{news_of, with_good}
use Rattle.probe_window.proofs.FirstNamed.{changed_there, found_there, unchanged}
use Rattle.probe_window.proofs.board.Board.result.Goals as goal

pub returns-in-Some-clause-board : goal.returns-in-Some-clause-board
returns-in-Some-clause-board c =
    changed_there c.args.backend.now (with_good c.args.good) c.args.self.now c.self.inside.watched.items c.in-Some.place c.index_mut.result.now c.count.new.self (sym c.self.view_is) c.in-Some.ensures c.index_mut.ensures.value c.count.ensures.watched

pub returns-in-Some-clause-news : goal.returns-in-Some-clause-news
returns-in-Some-clause-news c =
    c.count.ensures.news
    ∙ sym (ap (λ (w : Option Watched). option_and_then (news_of c.args.good) w) (found_there c.args.backend.now c.args.self.now c.self.inside.watched.items c.in-Some.place c.index_mut.result.now (sym c.self.view_is) c.in-Some.ensures c.index_mut.ensures.value))

pub returns-in-None-clause-board : goal.returns-in-None-clause-board
returns-in-None-clause-board c = sym (unchanged c.args.backend.now (with_good c.args.good) c.args.self.now (sym c.in-None.ensures)).0

pub returns-in-None-clause-news : goal.returns-in-None-clause-news
returns-in-None-clause-news c =
    sym (ap (λ (w : Option Watched). option_and_then (news_of c.args.good) w) (unchanged c.args.backend.now (with_good c.args.good) c.args.self.now (sym c.in-None.ensures)).1)
