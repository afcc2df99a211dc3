use Rattle.history_audit.proofs.Judged.{list_entered, list_refused}
use Rattle.history_audit.proofs.answering.list.Goals as goal

pub returns-then-not-branch : goal.returns-then-not-branch
returns-then-not-branch c = list_refused c.args.following c.args.said c.in_ok-may_list.field-0 c.otherwise.result c.requires.order c.requires.asked c.in_ok-may_list.ensures c.if-not-branch.true c.otherwise.ensures

pub returns : goal.returns
returns c =
    list_entered c.args.following c.args.said c.in_ok-may_list.field-0 c.in_ok-advance.field-0.following c.in_ok-advance.field-0.told c.requires.asked c.in_ok-may_list.ensures c.if-not-branch.false c.in_ok-advance.ensures
