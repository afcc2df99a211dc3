use Rattle.std.proofs.Common.{sym, ◌∙◌}
use Rattle.freshness.proofs.Lists.{directive_said, directive_silent}
use Rattle.freshness.proofs.directives.+directive_in.Goals as goal

pub returns-in-Some-clause-value : goal.returns-in-Some-clause-value
returns-in-Some-clause-value t c =
    directive_said c.args.name.now _ _ _ c.in_ok-field.ensures.cases.0 (sym c.has_name.ensures ∙ c.if-not-has_name.false) c.in-Some.ensures.value

pub returns-in-None-clause-value : goal.returns-in-None-clause-value
returns-in-None-clause-value t c =
    c.directive_in-in-None.ensures.value
    ∙ directive_silent c.args.name.now _ _ _ c.in_ok-field.ensures.cases.0 (sym c.has_name.ensures ∙ c.if-not-has_name.false) c.in-None.ensures.value
