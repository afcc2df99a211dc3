use Rattle.std.proofs.Common.{◌≡◌, List, ℕ, ◌∙◌}
use Rattle.std.proofs.lemmas.Result.{IfOk-weaker}
use Rattle.httpdate.specs.Date.{date_text}
use Rattle.access_log.specs.Moments.{IsMoment, moment_text}
use Rattle.access_log.proofs.moment.write_moment.Goals as goal

pub returns : goal.returns
returns c =
    let Is : List ℕ → Type 0 = λ text. text ≡ moment_text (date_text c.in-Ok.date) in
    IfOk-weaker c.write_parts.result Is (IsMoment c.args.seconds) (λ text is. (c.in-Ok.date, c.in-Ok.ensures.value ∙ c.min.ensures, is)) c.write_parts.ensures
