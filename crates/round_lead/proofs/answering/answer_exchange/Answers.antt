-- An exchange, as what a round wanted.
use Rattle.std.proofs.Common.{inl, inr}
use Rattle.round_lead.proofs.Giving.{idle_fails, untold_fails, exchange_gives, exchange_fails}
use Rattle.round_lead.proofs.answering.answer_exchange.Goals as goal

pub returns-in-Err-clause-cut : goal.returns-in-Err-clause-cut
returns-in-Err-clause-cut g c = λ over number. idle_fails _ _ _ _

pub returns-in-Ok-exchange_on-clause-given : goal.returns-in-Ok-exchange_on-clause-given
returns-in-Ok-exchange_on-clause-given g c = λ over number.
    let made = rw c.in-Ok.ensures at c.in-Ok-exchange_on.ensures.made in
    exchange_gives _ (g.P.Programs.backends c.args.program.now) _ over _ _ _ _ _ _ c.args.progress.now c.exchange_on.new.progress number c.args.name.now c.args.request.now c.in-Ok-exchange_on.got
    c.in-Ok-exchange_on.ensures.words made.0 made.1

pub returns-clause-cut : goal.returns-clause-cut
returns-clause-cut g c = λ over number.
    let backends = g.P.Programs.backends c.args.program.now in
    let untold = rw c.in-Ok.ensures at c.in-Err-exchange_on.ensures.untold in
    elim untold [
      | inl same ↦
          untold_fails _ backends g.D.Dialer.talks g.D.Dialer.dial_faults g.K.Clock.readings g.K.Clock.words c.args.shift.now.kit c.exchange_on.new.kit _ over c.args.progress.now c.exchange_on.new.progress _ same
      | inr made ↦
          exchange_fails _ backends _ over _ _ _ _ _ _ c.args.progress.now c.exchange_on.new.progress number c.args.name.now c.args.request.now made.0 c.in-Err-exchange_on.ensures.words made.1
    ]
