-- A line more, or none.
use Rattle.std.proofs.Common.{List, [], ◌++◌, sym, ◌∙◌, ap}
use Rattle.std.proofs.lemmas.List.{append-nil}
use Rattle.console_link.specs.declared.talk.ConsoleLine.{ConsoleLine}
use Rattle.console_link.specs.Talks.{stand_of}
use Rattle.console_link.proofs.TalkFacts.{wanting, turn_of_line, turn_of_stop}
use Rattle.console_link.proofs.serving.serve_next.Goals as goal

pub returns-then-is_err-clause-told : goal.returns-then-is_err-clause-told
returns-then-is_err-clause-told g c = (
  [],
  c.reserve.ensures.items ∙ sym (append-nil c.args.lines.now.items),
  wanting c.args.site.now.vmods.now.stored (g.S.Shelf.files c.args.desk.now.shelf) (stand_of g.S.Shelf.faults g.K.Clock.readings c.args.desk.now)
      (g.L.Link.flow c.args.link.now) c.args.held.now,
)

pub returns-in-Ok-clause-told : goal.returns-in-Ok-clause-told
returns-in-Ok-clause-told g c =
    let turn = turn_of_line c.args.site.now.vmods.now.stored (g.S.Shelf.files c.args.desk.now.shelf) (stand_of g.S.Shelf.faults g.K.Clock.readings c.args.desk.now)
    (stand_of g.S.Shelf.faults g.K.Clock.readings c.answer_next.new.desk) (g.L.Link.flow c.args.link.now) (g.L.Link.flow c.read_line.new.link)
    (g.L.Link.flow c.answer_next.new.link) c.args.held.now c.read_line.new.held c.in-Ok.line c.reserve.new.self.items c.answer_next.new.lines.items c.answer_next.result
    c.in-Ok.ensures.told c.answer_next.ensures.told in
    (turn.0, turn.1 ∙ ap (λ (lines : List ConsoleLine). lines ++ turn.0) c.reserve.ensures.items, turn.2)

pub returns-in-Err-clause-told : goal.returns-in-Err-clause-told
returns-in-Err-clause-told g c = (
  [],
  c.reserve.ensures.items ∙ sym (append-nil c.args.lines.now.items),
  turn_of_stop c.args.site.now.vmods.now.stored (g.S.Shelf.files c.args.desk.now.shelf) (stand_of g.S.Shelf.faults g.K.Clock.readings c.args.desk.now)
      (g.L.Link.flow c.args.link.now) (g.L.Link.flow c.read_line.new.link) (g.L.Link.flow c.refuse.new.link) c.args.held.now c.read_line.new.held c.in-Err.ended c.refuse.result
      c.in-Err.ensures.told c.refuse.ensures.told,
)
