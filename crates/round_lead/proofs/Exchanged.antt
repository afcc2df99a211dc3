-- What an exchange tells of the dialer's talks.
use Rattle.std.proofs.Common.{◌≡◌, ℕ, List, [], ◌∷◌, ◌++◌, Option, Some, None, refl, sym, ap, ap₂, ◌∙◌, subst, inl, inr}
use Rattle.http_heads.specs.declared.exchange.Backend.{Backend}
use Rattle.http_heads.specs.declared.exchange.BackendRequest.{BackendRequest}
use Rattle.http_heads.specs.declared.exchange.Exchange.{Exchange as Outcome}
use Rattle.wire.specs.Tapes.{Tape, Tells}
use Rattle.wire.specs.Telling.{LinkTold, DialerTold, Gains, dialer_told_by}
use Rattle.wire.specs.declared.peer.Peer.TheVariants.{Dialed}
use Rattle.wire.specs.declared.peer.Talk.{Talk}
use Rattle.backend_link.specs.Exchanges.{Exchanged}
use Rattle.round_lead.specs.declared.keeping.Progress.{Progress}
use Rattle.round_lead.specs.Steps.{Exchanges}
use Rattle.round_lead.specs.Talks.{TalksBy}
use Rattle.wire.proofs.Gaining.{gains_none}

-- a dialer that says as much as this one
pub told_alike : {D L : Type 0} (talks : D → Option (List (Talk L))) (faults : D → ℕ) (dialer dialer' : D) → talks dialer' ≡ talks dialer → faults dialer' ≡ faults dialer
    → dialer_told_by talks faults dialer' ≡ dialer_told_by talks faults dialer
told_alike {D = D} {L = L} talks faults dialer dialer' same counted = ap₂ (λ (t : Option (List (Talk L))) (n : ℕ). record { talks = t; dial_faults = n }) same counted

module _ {L : Type 0} (heard : L → LinkTold) (backend : Backend) (request : BackendRequest) (dialer dialer' : DialerTold L) where
  talks_by : (outcome : Outcome) → Exchanged heard backend request dialer dialer' outcome → (more : List (Talk L)) × Gains dialer dialer' more × TalksBy heard backend request outcome more
  talks_by outcome (inl talk) = (
    record { peer = Dialed backend.host backend.port; link = Some talk.link } ∷ [],
    talk.gained,
    inl (record { link = talk.link; start = talk.start; fresh = talk.fresh; conversed = talk.conversed; causes = talk.causes; are = refl }),
  )
  talks_by outcome (inr (inl failed)) = (record { peer = Dialed backend.host backend.port; link = None } ∷ [], failed.gained, inr (inl (record { is = failed.is; are = refl })))
  talks_by outcome (inr (inr none_)) = ([], subst (λ (t : DialerTold L). Gains dialer t []) (sym none_.1) (gains_none dialer), inr (inr (none_.0, refl)))

  -- the exchange is kept, and a copy of it may be given
  pub exchanged : (outcome copy : Outcome) (reads reads' : Option Tape) (moment : ℕ) (p p' : Progress) → copy ≡ outcome → Exchanged heard backend request dialer dialer' outcome → Tells reads reads' moment
      → p'.exchanges.items ≡ p.exchanges.items ++ record { moment = moment; exchange = outcome } ∷ [] → p'.numbers ≡ p.numbers → p'.sent.items ≡ p.sent.items → p'.closes ≡ p.closes
      → p'.is_open ≡ p.is_open → Exchanges heard backend request reads reads' dialer dialer' p p' (record { moment = moment; exchange = copy })
  exchanged outcome copy reads reads' moment p p' same told read exchanges numbers sent closes opened =
      let by = talks_by outcome told in
      record {
        read = read;
        more = by.0;
        gained = by.1;
        by = subst (λ (o : Outcome). TalksBy heard backend request o by.0) (sym same) by.2;
        exchanges_are = exchanges ∙ ap (λ (o : Outcome). p.exchanges.items ++ record { moment = moment; exchange = o } ∷ []) (sym same);
        places_are = numbers;
        sent_are = sent;
        closes_are = closes;
        open_is = opened;
      }

  -- the same behind a dialer that said as much before
  pub exchanged_from : (before : DialerTold L) → dialer ≡ before → (outcome copy : Outcome) (reads reads' : Option Tape) (moment : ℕ) (p p' : Progress) → copy ≡ outcome
      → Exchanged heard backend request dialer dialer' outcome → Tells reads reads' moment → p'.exchanges.items ≡ p.exchanges.items ++ record { moment = moment; exchange = outcome } ∷ []
      → p'.numbers ≡ p.numbers → p'.sent.items ≡ p.sent.items → p'.closes ≡ p.closes → p'.is_open ≡ p.is_open
      → Exchanges heard backend request reads reads' before dialer' p p' (record { moment = moment; exchange = copy })
  exchanged_from before alike outcome copy reads reads' moment p p' same told read exchanges numbers sent closes opened =
      subst (λ (from : DialerTold L). Exchanges heard backend request reads reads' from dialer' p p' (record { moment = moment; exchange = copy })) alike
      (exchanged outcome copy reads reads' moment p p' same told read exchanges numbers sent closes opened)
