-- A line with its answer, or none.
use Rattle.std.proofs.Common.{List, ℕ, subst}
use Rattle.console_link.specs.Answering.{SentTold}
use Rattle.console_link.specs.Talks.{stand_of}
use Rattle.console_link.proofs.TalkFacts.{line_sent, line_lost}
use Rattle.console_link.proofs.serving.answer_next.Goals as goal

pub returns-in-Ok-clause-told : goal.returns-in-Ok-clause-told
returns-in-Ok-clause-told g c =
    let first = g.L.Link.flow c.args.link.now in
    let second = g.L.Link.flow c.send-ended.new.link in
    let told = c.in-Ok.ensures.told in
    line_sent c.args.site.now.vmods.now.stored (g.S.Shelf.files c.args.desk.now.shelf) (stand_of g.S.Shelf.faults g.K.Clock.readings c.args.desk.now)
    (stand_of g.S.Shelf.faults g.K.Clock.readings c.answer_line.new.desk) first second c.args.lines.now.items c.push_reserved.new.self.items c.args.line c.in-Ok.kept
    c.in-Ok.ended c.send-ended.result c.push_reserved.ensures.items told.0 told.1
    (subst (λ (sent : List ℕ). SentTold first second sent c.in-Ok.ended c.send-ended.result) c.bytes.ensures c.send-ended.ensures.told)

pub returns-in-Err-clause-told : goal.returns-in-Err-clause-told
returns-in-Err-clause-told g c =
    line_lost c.args.site.now.vmods.now.stored (g.S.Shelf.files c.args.desk.now.shelf) (stand_of g.S.Shelf.faults g.K.Clock.readings c.args.desk.now)
    (stand_of g.S.Shelf.faults g.K.Clock.readings c.answer_line.new.desk) (g.L.Link.flow c.args.link.now) c.args.lines.now.items c.args.line c.in-Err.ended c.in-Err.ensures.told
