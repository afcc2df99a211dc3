use Rattle.std.proofs.Common.{◌∷◌, ◌∙◌, ap}
use Rattle.std.proofs.lemmas.Result.{err_from_is_err_and, MatchResult-weaker}
use Rattle.ban_expr.proofs.Joined.{too_short}
use Rattle.ban_expr.proofs.Checks.{front_said, last_said, more_said}
use Rattle.ban_expr.proofs.reading.+conditions_of.Goals as goal

pub returns-in_default : goal.returns-in_default
returns-in_default t c = λ clauses some e conditions say. absurd (too_short c.args.words.now clauses c.in_default.ensures some e)

pub returns-in_err-condition : goal.returns-in_err-condition
returns-in_err-condition t c = λ clauses some e conditions say.
    let front = c.in-Some.front in
    let said = front_said c.args.words.now front.field.now front.operator.now front.argument.now front.behind.now c.in-Some.ensures clauses e conditions say in
    let p = err_from_is_err_and c.from_residual.result c.from_residual.ensures.1 in
    rw (p.1) (p.2 ∙ c.in_err-condition.ensures said.0 said.1)

pub returns-in_err-conditions_of-in-Some-split_first : goal.returns-in_err-conditions_of-in-Some-split_first
returns-in_err-conditions_of-in-Some-split_first t c = λ clauses some e conditions say.
    let front = c.in-Some.front in
    let split = c.in-Some-split_first in
    let words = c.in-Some.ensures ∙ ap (λ rest. front.field.now ∷ front.operator.now ∷ front.argument.now ∷ rest) split.ensures.cases.0 in
    let said = more_said c.args.words.now front.field.now front.operator.now front.argument.now split.field-0-0.now split.more.now words clauses e conditions say in
    let r = c.from_residual-in_err-conditions_of-in-Some-split_first in
    let p = err_from_is_err_and r.result r.ensures.1 in
    rw (p.1) (p.2 ∙ c.in_err-conditions_of-in-Some-split_first.ensures said.clauses said.some said.rest_is said.others said.say)

pub returns-in-None : goal.returns-in-None
returns-in-None t c = λ clauses some e conditions say.
    let front = c.in-Some.front in
    let said = last_said c.args.words.now front.field.now front.operator.now front.argument.now front.behind.now c.in-Some.ensures c.in-None.ensures.cases clauses e conditions say in
    let first = c.in_ok-condition.ensures said.0 said.2 in
    MatchResult-weaker c.with_first.result c.with_first.ensures
    (λ built is. cc (is, first, c.new.ensures.items, said.1)) (λ error is. is)

pub returns-in_ok-conditions_of-in-Some-split_first : goal.returns-in_ok-conditions_of-in-Some-split_first
returns-in_ok-conditions_of-in-Some-split_first t c = λ clauses some e conditions say.
    let front = c.in-Some.front in
    let split = c.in-Some-split_first in
    let words = c.in-Some.ensures ∙ ap (λ rest. front.field.now ∷ front.operator.now ∷ front.argument.now ∷ rest) split.ensures.cases.0 in
    let said = more_said c.args.words.now front.field.now front.operator.now front.argument.now split.field-0-0.now split.more.now words clauses e conditions say in
    let first = c.in_ok-condition.ensures said.condition said.says in
    let others = c.in_ok-conditions_of-in-Some-split_first.ensures said.clauses said.some said.rest_is said.others said.say in
    MatchResult-weaker c.with_first-in-Some-split_first.result c.with_first-in-Some-split_first.ensures
    (λ built is. cc (is, first, others, said.is)) (λ error is. is)
