use Rattle.vcl_tree.specs.Phrase.{At}
use Rattle.vcl_program.proofs.Lists.{if-none, member-run}
use Rattle.vcl_program.proofs.members.member_of.Goals as goal

pub returns-in-If : goal.returns-in-If
returns-in-If c = rw (← c.statement.view_is, c.in-If.is) (if-none c.args.names.now (At c.in-If.field-0) c.in-If.field-1.value c.in-If.field-2.items c.in-If.field-3)

pub returns-in-Run : goal.returns-in-Run
returns-in-Run c =
    rw (← c.statement.view_is, c.in-Run.is) (member-run c.args.names.now c.in-Run.name.place c.in-Run.name.text c.in-Run.arguments.items c.added_to-director.result c.added_with.result
    (rw c.bytes.ensures at c.added_to-director.ensures) (rw c.as_slice.ensures.value at c.added_with.ensures))
