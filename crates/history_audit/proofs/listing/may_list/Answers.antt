use Rattle.history_audit.proofs.Lists.{lists_if, none_found, not_a_list}
use Rattle.history_audit.proofs.listing.may_list.Goals as goal

pub returns-in_default : goal.returns-in_default
returns-in_default c = not_a_list c.args.core.now c.args.bans.now.items c.args.moment c.args.reply.now c.in_default.ensures

pub returns-in-Some-2 : goal.returns-in-Some-2
returns-in-Some-2 c =
    lists_if c.args.core.now c.args.bans.now.items c.args.moment c.in-Some.shown.now c.args.reply.now c.in-Some-2.lines.items c.allows.result c.requires c.in-Some.ensures (rw c.in-Some-2.is at c.in_ok-lines.ensures) (rw c.as_slice.ensures.value at c.allows.ensures)

pub returns-in-None : goal.returns-in-None
returns-in-None c = none_found c.args.core.now c.args.bans.now.items c.args.moment c.in-Some.shown.now c.args.reply.now c.in-Some.ensures (rw c.in-None.is at c.in_ok-lines.ensures)
