-- What a dialer gains, call by call.
use Rattle.std.proofs.Common.{◌≡◌, ℕ, ◌≤◌, ◌-◌, ◌^◌, min, refl, List, [], ◌∷◌, ◌++◌, Option, Some, None, inl, inr, ◌⊎◌, sym, ap, ◌∙◌, arith}
use Rattle.std.proofs.lemmas.List.{append-nil, append_assoc}
use Rattle.wire.specs.Causes.{Rose}
use Rattle.wire.specs.Talks.{Adds}
use Rattle.wire.specs.Telling.{DialerTold, HasFailedDial, Gains}
use Rattle.wire.specs.declared.peer.Peer.{Peer}
use Rattle.wire.specs.declared.peer.Talk.{Talk}

adds_none : {X : Type 0} → (list : Option (List X)) → Adds list list []
adds_none None = tt
adds_none (Some xs) = sym (append-nil xs)

adds_then : {X : Type 0} → (first second third : Option (List X)) (more further : List X) → Adds first second more → Adds second third further → Adds first third (more ++ further)
adds_then None None None more further one two = tt
adds_then None None (Some c) more further one two = absurd two
adds_then None (Some b) third more further one two = absurd one
adds_then (Some a) None third more further one two = absurd one
adds_then (Some a) (Some b) None more further one two = absurd two
adds_then {X = X} (Some a) (Some b) (Some c) more further one two = two ∙ (ap (λ (xs : List X). xs ++ further) one ∙ append_assoc a more further)

failed_in : {L : Type 0} → (more further : List (Talk L)) → HasFailedDial (more ++ further) → HasFailedDial more ⊎ HasFailedDial further
failed_in [] further failed = inr failed
failed_in (talk ∷ more) further (inl failed) = inl (inl failed)
failed_in {L = L} (talk ∷ more) further (inr failed) = by (failed_in more further failed)
  where
    by : HasFailedDial more ⊎ HasFailedDial further → HasFailedDial (talk ∷ more) ⊎ HasFailedDial further
    by (inl here) = inl (inr here)
    by (inr there) = inr there

-- the count didn't fall
abbrev Later : ℕ → ℕ → Type 0
Later a b = min a (2 ^ 64 - 1) ≤ b

later_same : (a b : ℕ) → b ≡ a → Later a b
later_same a b same = omega (arith, same)

later_rose : (a b : ℕ) → Rose a b → Later a b
later_rose a b rose = omega (arith, rose)

later_then : (a b c : ℕ) → Later a b → Later b c → Later a c
later_then a b c one two = omega (arith, one, two)

rose_before : (a b c : ℕ) → Rose a b → Later b c → Rose a c
rose_before a b c rose later = omega (arith, rose, later)

rose_after : (a b c : ℕ) → Later a b → Rose b c → Rose a c
rose_after a b c later rose = omega (arith, later, rose)

pub gains_none : {L : Type 0} → (dialer : DialerTold L) → Gains dialer dialer []
gains_none dialer = record { added = adds_none dialer.talks; later = later_same dialer.dial_faults dialer.dial_faults refl; failed = λ failed. absurd failed }

-- a connection that was dialed was handed back
pub gains_link : {L : Type 0} → (before after : DialerTold L) (peer : Peer) (link : L) → Adds before.talks after.talks (record { peer = peer; link = Some link } ∷ [])
    → after.dial_faults ≡ before.dial_faults → Gains before after (record { peer = peer; link = Some link } ∷ [])
gains_link before after peer link added same = record { added = added; later = later_same before.dial_faults after.dial_faults same; failed = λ failed. none_failed failed }
  where
    none_failed : HasFailedDial (record { peer = peer; link = Some link } ∷ []) → Rose before.dial_faults after.dial_faults
    none_failed (inl is) = absurd (cc)
    none_failed (inr none) = absurd none

-- a dial failed
pub gains_failure : {L : Type 0} → (before after : DialerTold L) (talk : Talk L) → Adds before.talks after.talks (talk ∷ []) → Rose before.dial_faults after.dial_faults
    → Gains before after (talk ∷ [])
gains_failure before after talk added rose =
    record { added = added; later = later_rose before.dial_faults after.dial_faults rose; failed = λ failed. rose }

pub gains_then : {L : Type 0} → (first second third : DialerTold L) (more further : List (Talk L)) → Gains first second more → Gains second third further
    → Gains first third (more ++ further)
gains_then first second third more further one two = record {
  added = adds_then first.talks second.talks third.talks more further one.added two.added;
  later = later_then first.dial_faults second.dial_faults third.dial_faults one.later two.later;
  failed = λ failed. by (failed_in more further failed);
}
  where
    by : HasFailedDial more ⊎ HasFailedDial further → Rose first.dial_faults third.dial_faults
    by (inl failed) = rose_before first.dial_faults second.dial_faults third.dial_faults (one.failed failed) two.later
    by (inr failed) = rose_after first.dial_faults second.dial_faults third.dial_faults one.later (two.failed failed)
