use Rattle.std.proofs.Common.{◌∙◌}
use Rattle.std.proofs.lemmas.Result.{err_from_is_err_and}
use Rattle.ban_expr.proofs.Ones.{refusal}
use Rattle.ban_expr.proofs.reading.read.Goals as goal

pub returns-in_err-check_all-clause-refused : goal.returns-in_err-check_all-clause-refused
returns-in_err-check_all-clause-refused c =
    let p = err_from_is_err_and c.from_residual.result c.from_residual.ensures.1 in
    let shaped = c.is_shaped.ensures.0 c.if-not-is_shaped.false in
    let made = rw (c.as_slice.ensures) at shaped.1 in
    let first = c.in_err-check_all.ensures shaped.0 made.some (c.as_slice-2.ensures ∙ made.spelled) in
    rw (p.1, p.2) (refusal c.args.words.now c.in_err-check_all.field-0.0 shaped.0 made first)
