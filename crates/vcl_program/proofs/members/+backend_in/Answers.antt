use Rattle.vcl_program.proofs.Lists.{either-none, both-none, sum-none}
use Rattle.vcl_program.proofs.members.+backend_in.Goals as goal

pub returns-in-Any : goal.returns-in-Any
returns-in-Any t c = rw (← c.e.view_is, c.in-Any.is) (either-none c.args.names.now c.in-Any.field-0.value c.in-Any.field-1.value c.in-Any.field-2.items)

pub returns-in-All : goal.returns-in-All
returns-in-All t c = rw (← c.e.view_is, c.in-All.is) (both-none c.args.names.now c.in-All.field-0.value c.in-All.field-1.value c.in-All.field-2.items)

pub returns-in-Sum : goal.returns-in-Sum
returns-in-Sum t c = rw (← c.e.view_is, c.in-Sum.is) (sum-none c.args.names.now c.in-Sum.field-1.value.sign c.in-Sum.field-0.value c.in-Sum.field-1.value.term c.in-Sum.field-2.items)
