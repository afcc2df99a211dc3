-- One exchange, or none.
use Rattle.std.proofs.Common.{List, [], ◌∷◌, ◌++◌, refl, ap, ◌∙◌, inl, inr}
use Rattle.http_heads.specs.declared.exchange.Got.{Got}
use Rattle.round_lead.proofs.Exchanged.{exchanged_from, told_alike}
use Rattle.round_lead.proofs.exchanging.exchange_on.Goals as goal

pub returns-then-is_err-clause-untold : goal.returns-then-is_err-clause-untold
returns-then-is_err-clause-untold g c = inl (refl, refl, c.reserve.ensures.items, refl, refl, refl)

pub returns-in-Ok-clause-made : goal.returns-in-Ok-clause-made
returns-in-Ok-clause-made g c = (
  c.in-Ok.ensures.given,
  exchanged_from _ _ _ _ _ _ (told_alike g.D.Dialer.talks g.D.Dialer.dial_faults _ _ c.within.ensures.talks c.within.ensures.dials) c.exchange-outcome.result c.in-Ok.exchange _ _ c.now-moment.result c.args.progress.now (record c.args.progress.now { exchanges = c.push_reserved.new.self }) c.in-Ok.ensures.same
      c.exchange-outcome.ensures.told c.now-moment.ensures.reading
      (c.push_reserved.ensures.items ∙ ap (λ (l : List Got). l ++ record { moment = c.now-moment.result; exchange = c.exchange-outcome.result } ∷ []) c.reserve.ensures.items) refl refl refl refl,
)

pub returns-in-Err-clause-untold : goal.returns-in-Err-clause-untold
returns-in-Err-clause-untold g c =
    inr (
      record { moment = c.now-moment.result; exchange = c.exchange-outcome.result },
      exchanged_from _ _ _ _ _ _ (told_alike g.D.Dialer.talks g.D.Dialer.dial_faults _ _ c.within.ensures.talks c.within.ensures.dials) c.exchange-outcome.result c.exchange-outcome.result _ _ c.now-moment.result c.args.progress.now (record c.args.progress.now { exchanges = c.push_reserved.new.self }) refl
          c.exchange-outcome.ensures.told c.now-moment.ensures.reading
          (c.push_reserved.ensures.items ∙ ap (λ (l : List Got). l ++ record { moment = c.now-moment.result; exchange = c.exchange-outcome.result } ∷ []) c.reserve.ensures.items) refl refl refl refl,
    )
