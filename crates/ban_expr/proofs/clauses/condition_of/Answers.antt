use Rattle.ban_expr.proofs.Sayings.{time_same, millis_kept}
use Rattle.ban_expr.specs.Reading.{clause}
use Rattle.ban_expr.proofs.clauses.condition_of.Goals as goal

pub returns-in-OnTime : goal.returns-in-OnTime
returns-in-OnTime c = λ said says.
    let planned = rw (c.in-OnTime.is, c.bytes-2.ensures, c.bytes-3.ensures, c.bytes-4.ensures) at c.in_ok-subject.ensures.planned in
    let one = rw (c.bytes.ensures) at c.one_duration.ensures in
    let kept = millis_kept c.args.argument.now c.in-OnTime.milliseconds planned.2.0 planned.2.1 planned.2.2 in
    rw (kept) (time_same (clause c.args.field.now c.args.operator.now c.args.argument.now) c.in-OnTime.field c.in-OnTime.comparison c.in-OnTime.milliseconds planned one said says)
