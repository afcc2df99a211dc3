use Rattle.std.proofs.Common.{sym, ◌∙◌}
use Rattle.ban_expr.proofs.Sayings.{plain_said, time_said, tried_said}
use Rattle.ban_expr.specs.Reading.{clause}
use Rattle.ban_expr.proofs.clauses.check_clause.Goals as goal

pub returns-in-OnText : goal.returns-in-OnText
returns-in-OnText c =
    let planned = rw (c.in-OnText.is, c.bytes.ensures, c.bytes-2.ensures) at c.in_ok-operator.ensures.planned in
    tried_said (clause c.args.field.now c.args.operator.now c.args.argument.now) c.in-OnText.subject c.in-OnText.operator planned
    (sym c.searches.ensures ∙ c.if-searches.true) c.try_pattern.result c.try_pattern.ensures

pub returns-in_default : goal.returns-in_default
returns-in_default c =
    let planned = rw (c.in-OnText.is, c.bytes.ensures, c.bytes-2.ensures) at c.in_ok-operator.ensures.planned in
    plain_said (clause c.args.field.now c.args.operator.now c.args.argument.now) c.in-OnText.subject c.in-OnText.operator planned
    (sym c.searches.ensures ∙ c.if-searches.false)

pub returns-in_default-2 : goal.returns-in_default-2
returns-in_default-2 c =
    let planned = rw (c.in_default.is, c.bytes.ensures, c.bytes-2.ensures, c.bytes-3.ensures) at c.in_ok-operator.ensures.planned in
    time_said (clause c.args.field.now c.args.operator.now c.args.argument.now) c.in_default.field-0 c.in_default.field-1 c.in_default.field-2 planned
