-- What a connection and a dialer tell, each in one value.
use Rattle.std.specs.Prelude.{◌≡◌, ◌≤◌, ◌-◌, ◌^◌, ◌⊎◌, ℕ, Bool, List, [], ◌∷◌, min, Option, None}
use Rattle.wire.specs.Causes.{Rose}
use Rattle.wire.specs.Flow.{Flow}
use Rattle.wire.specs.Talks.{Adds}
use Rattle.wire.specs.declared.peer.Peer.{Peer}
use Rattle.wire.specs.declared.peer.Talk.{Talk}

-- what went over a connection, its counts of failed reads and of failed writes, where its other end is, and whether it wasn't
-- ended yet
pub record LinkTold : Type 0 where
  pub flow : Option Flow
  pub read_faults : ℕ
  pub write_faults : ℕ
  pub peer : Peer
  pub is_open : Bool

-- the same, where each part is told by one of these
abbrev pub told_by : {L : Type 0} → (L → Option Flow) → (L → ℕ) → (L → ℕ) → (L → Peer) → (L → Bool) → L → LinkTold
told_by flow read_faults write_faults peer is_open link =
    record { flow = flow link; read_faults = read_faults link; write_faults = write_faults link; peer = peer link; is_open = is_open link }

-- a dialer's talks, and its count of failed dials
pub record DialerTold (L : Type 0) : Type 0 where
  pub talks : Option (List (Talk L))
  pub dial_faults : ℕ

abbrev pub dialer_told_by : {D L : Type 0} → (D → Option (List (Talk L))) → (D → ℕ) → D → DialerTold L
dialer_told_by talks dial_faults dialer = record { talks = talks dialer; dial_faults = dial_faults dialer }

-- one of these dials failed
abbrev pub HasFailedDial : {L : Type 0} → List (Talk L) → Type 0
HasFailedDial [] = ⊥
HasFailedDial (talk ∷ talks) = (talk.link ≡ None) ⊎ HasFailedDial talks

-- A dialer gained these talks. Its count of failed dials didn't fall, as far as 64 bits go, and a dial failed only where it rose.
pub record Gains {L : Type 0} (before after : DialerTold L) (talks : List (Talk L)) : Type 0 where
  pub added : Adds before.talks after.talks talks
  pub later : min before.dial_faults (2 ^ 64 - 1) ≤ after.dial_faults
  pub failed : HasFailedDial talks → Rose before.dial_faults after.dial_faults
