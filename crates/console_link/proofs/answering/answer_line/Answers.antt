-- A call and its answer, or a refusal.
use Rattle.std.proofs.Common.{refl, ◌∙◌}
use Rattle.console_link.specs.Talks.{stand_of}
use Rattle.console_link.proofs.Answered.{entered, refused}
use Rattle.console_link.proofs.answering.answer_line.Goals as goal

pub returns-in-Ok-Call-clause-told : goal.returns-in-Ok-Call-clause-told
returns-in-Ok-Call-clause-told g c =
    entered c.args.site.now.vmods.now.stored (g.S.Shelf.files c.args.desk.now.shelf) (stand_of g.S.Shelf.faults g.K.Clock.readings c.args.desk.now)
    (stand_of g.S.Shelf.faults g.K.Clock.readings (record { pass = c.enter.new.pass; shelf = c.instruction_of.new.shelf; clock = c.enter.new.clock })) c.args.line
    c.in-Ok-Call.call c.enter.result (rw c.in-Ok-Call.field-0-is at c.in-Ok-Call.ensures.leads) c.enter.ensures.pass.1 c.enter.ensures.told

pub returns-in-Ok-Answer-clause-told : goal.returns-in-Ok-Answer-clause-told
returns-in-Ok-Answer-clause-told g c =
    let leads = rw c.in-Ok-Answer.field-0-is at c.in-Ok-Answer.ensures.leads in
    refused c.args.site.now.vmods.now.stored (g.S.Shelf.files c.args.desk.now.shelf) (stand_of g.S.Shelf.faults g.K.Clock.readings c.args.desk.now)
    (stand_of g.S.Shelf.faults g.K.Clock.readings (record { pass = c.args.desk.now.pass; shelf = c.instruction_of.new.shelf; clock = c.alone.new.clock })) c.args.line
    c.alone.result leads.0 c.alone.ensures.line refl c.alone.ensures.moment c.alone.ensures.place leads.1 (c.alone.ensures.sent ∙ leads.2)
