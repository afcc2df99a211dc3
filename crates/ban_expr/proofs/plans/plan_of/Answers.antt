use Rattle.ban_expr.proofs.Sayings.{no_duration}
use Rattle.ban_expr.specs.Reading.{clause}
use Rattle.ban_expr.proofs.plans.plan_of.Goals as goal

pub returns-in-None-read_millis-clause-none : goal.returns-in-None-read_millis-clause-none
returns-in-None-read_millis-clause-none c = λ condition says.
    no_duration (clause c.args.field.now c.args.operator.now c.args.argument.now) c.in-Some-OfTime.field (cc) c.in-None-read_millis.ensures condition says
