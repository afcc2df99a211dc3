-- The numbers of a probe's window are in range.
use Rattle.std.proofs.Common.{◌≡◌, ℕ, ◌≤◌, Bool, true, false, cond, List, refl, arith}
use Rattle.std.specs.Prelude.{ℤ, pos, negsuc, Option, Some, None, ◌&&◌, nat_le, unwrap_or, codes, IfSome}
use Rattle.std.proofs.lemmas.Bool.Decides.{nat_tests}
use Rattle.vcl_tree.specs.Phrase.{Phrase}
use Rattle.vcl_attributes.specs.declared.window_numbers.WindowNumbers.{WindowNumbers}
use Rattle.vcl_attributes.specs.Readers.{first_integer}
use Rattle.vcl_attributes.specs.WindowNumbers.{small, number_of, fitting, all_fitting, numbers_in, numbers_of, usual_numbers}
use Rattle.vcl_attributes.specs.Probes.{EachInRange}

pub record Fits (n : WindowNumbers) : Type 0 where
  pub some : 1 ≤ n.window
  pub short : n.window ≤ 64
  pub threshold : n.threshold ≤ n.window
  pub initial : n.initial ≤ n.window

small_short : (z : ℤ) → IfSome (small z) (λ n. n ≤ 64)
small_short (pos n) = by (nat_le n 64) refl
  where
    by : (b : Bool) → nat_le n 64 ≡ b → IfSome (cond b (Some n) None) (λ m. m ≤ 64)
    by true e = grind (arith, nat_tests)
    by false e = tt
small_short (negsuc n) = tt

number_short : (usual : Option ℕ) (said : Option ℤ) → IfSome usual (λ n. n ≤ 64) → IfSome (number_of usual said) (λ n. n ≤ 64)
number_short usual None h = h
number_short usual (Some z) h = small_short z

fitting_fits : (w t i : ℕ) → w ≤ 64 → IfSome (fitting w t i) Fits
fitting_fits w t i short = by (nat_le 1 w && nat_le t w && nat_le i w) refl
  where
    by : (b : Bool) → (nat_le 1 w && nat_le t w && nat_le i w) ≡ b → IfSome (cond b (Some (record { window = w; threshold = t; initial = i })) None) Fits
    by true e = record { some = grind (arith, nat_tests); short = short; threshold = grind (arith, nat_tests); initial = grind (arith, nat_tests) }
    by false e = tt

all_fits : (w t i : Option ℕ) → IfSome w (λ n. n ≤ 64) → IfSome (all_fitting w t i) Fits
all_fits (Some w) (Some t) (Some i) h = fitting_fits w t i h
all_fits (Some w) (Some t) None h = tt
all_fits (Some w) None i h = tt
all_fits None t i h = tt

usual_in_range : Fits usual_numbers
usual_in_range = record { some = omega arith; short = omega arith; threshold = omega arith; initial = omega arith }

or_usual : (o : Option WindowNumbers) → IfSome o Fits → Fits (unwrap_or o usual_numbers)
or_usual None h = usual_in_range
or_usual (Some n) h = h

numbers_fit : (xs : List Phrase) → Fits (numbers_of xs)
numbers_fit xs = or_usual (numbers_in xs) (all_fits _ _ _ (number_short (Some 8) (first_integer (codes "window") xs) (omega arith)))

pub each-in-range : EachInRange
each-in-range name attributes probe =
    let n = numbers_fit probe in
    record { some = n.some; short = n.short; threshold = n.threshold; initial = n.initial }
