use Rattle.history_audit.proofs.Joins.{joins_of}
use Rattle.history_audit.proofs.stepping.stepped.Goals as goal

pub returns-in-Ok : goal.returns-in-Ok
returns-in-Ok c = joins_of c.args.core.now c.step.new.self c.args.caller c.args.moment c.args.call c.in-Ok.told c.requires.order c.step.ensures.same c.in-Ok.ensures.told
