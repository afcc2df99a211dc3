-- A call, as what a round wanted.
use Rattle.std.proofs.Common.{Bool, true, ap, ◌∙◌}
use Rattle.round_lead.specs.Seen.{opened_by}
use Rattle.round_lead.proofs.Giving.{call_gives, call_fails, stays_open}
use Rattle.round_lead.proofs.answering.answer_call.Goals as goal

pub returns-in-Ok-clause-given : goal.returns-in-Ok-clause-given
returns-in-Ok-clause-given g c = λ over backends.
    call_gives _ backends over _ _ _ _ _ _ _ _ _ c.args.call c.in-Ok.told c.in-Ok.ensures.words c.in-Ok.ensures.made

pub returns-in-Err-clause-cut : goal.returns-in-Err-clause-cut
returns-in-Err-clause-cut g c = λ over backends.
    rw c.cut_at.ensures (call_fails _ backends over _ _ _ _ _ _ _ _ _ c.args.call c.in-Err.error c.in-Err.ensures.words c.in-Err.ensures.declined)

pub returns-in-Ok-clause-is_open : goal.returns-in-Ok-clause-is_open
returns-in-Ok-clause-is_open g c =
    c.in-Ok.ensures.opens ∙ (ap (λ (b : Bool). opened_by c.args.call true b) c.requires.is_open ∙ stays_open c.args.call c.requires.goes_on)

pub returns-in-Ok-clause-opened : goal.returns-in-Ok-clause-opened
returns-in-Ok-clause-opened g c = c.in-Ok.ensures.opened ∙ returns-in-Ok-clause-is_open g c
