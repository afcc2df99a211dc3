-- Where no fault is found, what was tested holds.
use Rattle.std.proofs.Common.{◌≡◌, ℕ, Bool, true, false, refl, sym, Option, Some, None, if◌then◌else◌}
use Rattle.std.proofs.lemmas.Option.{none-some}
use Rattle.vcl_tree.specs.declared.error.Fault.{Fault}
use Rattle.vcl_tree.specs.declared.error.Refusal.{Refusal}
use Rattle.vcl_check.specs.declared.seen.Seen.{Seen}
use Rattle.vcl_check.specs.Calls.{unless, is_string, or_else}
use Rattle.vcl_check.specs.Least.{fault_at}
use Rattle.vcl_check.specs.Rules.{both_fit}
use Rattle.vcl_check.specs.Views.{weight}
use Rattle.vcl_soundness.proofs.Rows.{false-true}

pub unless-none : (b : Bool) (p : ℕ) → unless b p ≡ None → b ≡ true
unless-none true p e = refl
unless-none false p e = absurd (none-some p (sym e))

pub at-none : (k : Refusal) (o : Option ℕ) → ((f : Fault) → fault_at k o ≡ Some f → ⊥) → o ≡ None
at-none k None h = refl
at-none k (Some p) h = absurd (h (record { place = p; kind = k }) refl)

pub if-none : (b : Bool) (o : Option ℕ) (p : ℕ) → (if b then o else Some p) ≡ None → (b ≡ true) × (o ≡ None)
if-none true o p e = (refl, e)
if-none false o p e = absurd (none-some p (sym e))

pub both-fits : (left right : Bool) (a b : Seen) → both_fit left right a b ≡ None → (left ≡ true) × (right ≡ true)
both-fits left right a b e = let x = if-none left (unless right b.first) a.first e in (x.0, unless-none right b.first x.1)

pub or-none : (a b : Option ℕ) → or_else a b ≡ None → (a ≡ None) × (b ≡ None)
or-none None b e = (refl, e)
or-none (Some p) b e = absurd (none-some p (sym e))

pub weight-no-string : (o : Option ℕ) → is_string (weight o) ≡ true → ⊥
weight-no-string (Some n) e = false-true e
weight-no-string None e = false-true e
