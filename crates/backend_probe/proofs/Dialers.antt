-- A dialer that says as much as another one.
use Rattle.std.proofs.Common.{◌≡◌, ℕ, List, Option, ap₂}
use Rattle.wire.specs.Telling.{dialer_told_by}
use Rattle.wire.specs.declared.peer.Talk.{Talk}

pub told_alike : {D L : Type 0} (talks : D → Option (List (Talk L))) (faults : D → ℕ) (dialer dialer' : D) → talks dialer' ≡ talks dialer → faults dialer' ≡ faults dialer
    → dialer_told_by talks faults dialer' ≡ dialer_told_by talks faults dialer
told_alike {D = D} {L = L} talks faults dialer dialer' same counted = ap₂ (λ (t : Option (List (Talk L))) (n : ℕ). record { talks = t; dial_faults = n }) same counted
