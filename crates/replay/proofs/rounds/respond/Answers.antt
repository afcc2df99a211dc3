use Rattle.std.proofs.Common.{ℕ, List, refl, ap, ◌∙◌}
use Rattle.replay.specs.Plan.{plan_of}
use Rattle.replay.specs.Scene.{response_line}
use Rattle.replay.proofs.Asking.{leads_on, can_on}
use Rattle.replay.proofs.Runs.{went-still}
use Rattle.replay.proofs.Sending.{responded}
use Rattle.replay.proofs.Taking.{Takes-nil, Takes-at}
use Rattle.replay.proofs.Turns.{respond_breaks}
use Rattle.replay.proofs.rounds.respond.Goals as goal

pub returns-in-Err-clause-sent : goal.returns-in-Err-clause-sent
returns-in-Err-clause-sent g c = λ beginning history moment scene at turn. went-still _ scene history history _ refl (Takes-nil _)

pub returns-in-Err-take_line-clause-sent : goal.returns-in-Err-take_line-clause-sent
returns-in-Err-take_line-clause-sent g c = λ beginning history moment scene at turn.
    respond_breaks (plan_of g.P.Policy.wants beginning) g.P.Policy.stands c.args.policy.now c.args.client scene history c.args.response.now _ _ _ c.in-Err-take_line.broken turn
    (c.as_slice.ensures.value ∙ (c.in-Ok.ensures ∙ ap (λ (bytes : List ℕ). response_line c.args.client bytes) c.bytes.ensures)) c.in-Err-take_line.ensures.told

pub returns-in-Ok-resume-clause-sent : goal.returns-in-Ok-resume-clause-sent
returns-in-Ok-resume-clause-sent g c = λ beginning history moment scene at turn.
    responded (plan_of g.P.Policy.wants beginning) g.P.Policy.stands c.args.policy.now c.args.client scene history c.args.response.now turn _ (
      record {
        has_turn = record { round = _; turn = refl; leads = leads_on g.P.Policy.wants g.P.Policy.stands c.args.policy.now c.resume.new.self c.args.client _ c.in-Ok-resume.want turn.round _ turn.leads c.in-Ok-resume.ensures.stands c.in-Ok-resume.ensures.wanted };
        at = record { moment_is = at.moment_is; state_is = at.state_is };
        keeps = record { waiting_same = refl; parked_same = refl };
      },
      Takes-at _ _ _ _ (c.as_slice.ensures.value ∙ (c.in-Ok.ensures ∙ ap (λ (bytes : List ℕ). response_line c.args.client bytes) c.bytes.ensures)) c.in-Ok-take_line.ensures.told,
    )

pub returns-in-Ok-resume-clause-can : goal.returns-in-Ok-resume-clause-can
returns-in-Ok-resume-clause-can g c =
    can_on g.P.Policy.wants g.P.Policy.stands c.args.policy.now c.resume.new.self c.args.client _ c.in-Ok-resume.want _ c.requires c.in-Ok-resume.ensures.stands c.in-Ok-resume.ensures.wanted

pub returns-clause-sent : goal.returns-clause-sent
returns-clause-sent g c = λ beginning history moment scene at turn.
    responded (plan_of g.P.Policy.wants beginning) g.P.Policy.stands c.args.policy.now c.args.client scene history c.args.response.now turn _
    (Takes-at _ _ _ _ (c.as_slice.ensures.value ∙ (c.in-Ok.ensures ∙ ap (λ (bytes : List ℕ). response_line c.args.client bytes) c.bytes.ensures)) c.in-Ok-take_line.ensures.told)
