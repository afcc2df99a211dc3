use Rattle.std.proofs.Common.{◌∷◌, ◌∙◌, ap}
use Rattle.std.proofs.lemmas.Result.{err_from_is_err_and}
use Rattle.ban_expr.proofs.Joined.{too_short}
use Rattle.ban_expr.proofs.Checks.{first_wrong, last_says, more_checked}
use Rattle.ban_expr.proofs.reading.+check_all.Goals as goal

pub returns-in_default : goal.returns-in_default
returns-in_default t c = λ clauses some e. absurd (too_short c.args.words.now clauses c.in_default.ensures some e)

pub returns-in_err-check_clause : goal.returns-in_err-check_clause
returns-in_err-check_clause t c = λ clauses some e.
    let front = c.in-Some.front in
    let p = err_from_is_err_and c.from_residual.result c.from_residual.ensures.1 in
    rw (p.1, p.2) (first_wrong c.args.words.now front.field.now front.operator.now front.argument.now front.behind.now c.in_err-check_clause.field-0.0 c.in-Some.ensures c.in_err-check_clause.ensures clauses some e)

pub returns-in-None : goal.returns-in-None
returns-in-None t c = λ clauses some e.
    let front = c.in-Some.front in
    last_says c.args.words.now front.field.now front.operator.now front.argument.now front.behind.now c.in-Some.ensures c.in-None.ensures.cases c.in_ok-check_clause.ensures clauses e

pub returns-in-Some-split_first : goal.returns-in-Some-split_first
returns-in-Some-split_first t c = λ clauses some e.
    let front = c.in-Some.front in
    let split = c.in-Some-split_first in
    let words = c.in-Some.ensures ∙ ap (λ rest. front.field.now ∷ front.operator.now ∷ front.argument.now ∷ rest) split.ensures.cases.0 in
    more_checked c.args.words.now front.field.now front.operator.now front.argument.now split.field-0-0.now split.more.now words c.in_ok-check_clause.ensures c.check_all.result c.check_all.ensures clauses e
