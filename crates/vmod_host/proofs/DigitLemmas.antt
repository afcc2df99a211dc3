-- Digits as a test and as a fact.
use Rattle.std.proofs.Common.{◌≡◌, ℕ, ◌<◌, ◌≤◌, ◌^◌, Bool, true, false, nat_lt, List, [], ◌∷◌, length, Option, Some, None, SomeIff, if◌then◌else◌, sym, ◌∙◌, ap, refl, inl, inr, arith}
use Rattle.std.proofs.lemmas.Bool.{and_parts, and_from, cases_lt, cond-true, cond-false, lt-ltb, le-ltb, false≢true}
use Rattle.std.proofs.lemmas.Bool.Decides.{nat_tests}
use Rattle.std.specs.List.{list_all}
use Rattle.std.specs.Option.{option_and_then}
use Rattle.std.specs.Char.{is_ascii_digit, digit_value}
use Rattle.std.specs.Str.Parse.{digits_value, AllDigits}
use Rattle.std.proofs.lemmas.Str.Parse.{digit_from_value}
use Rattle.vmod_host.specs.Integers.{natural_of}

digit_is : (c : ℕ) → is_ascii_digit c ≡ true → digit_value c < 10
digit_is c h = grind (arith, nat_tests)

is_digit : (c : ℕ) → digit_value c < 10 → is_ascii_digit c ≡ true
is_digit c h = let r = digit_from_value c h in grind (arith, nat_tests)

digits-all : (ds : List ℕ) → list_all is_ascii_digit ds ≡ true → AllDigits 10 ds
digits-all [] h = tt
digits-all (d ∷ ds) h = let p = and_parts _ _ h in (digit_is d p.0, digits-all ds p.1)

all-digits : (ds : List ℕ) → AllDigits 10 ds → list_all is_ascii_digit ds ≡ true
all-digits [] h = grind arith
all-digits (d ∷ ds) h = and_from _ _ (is_digit d h.0) (all-digits ds h.1)

digits_case : (b : Bool) (P : Type 0) (v : ℕ) (r : Option ℕ) → (b ≡ true → P) → (P → b ≡ true) → SomeIff r (P × (v < 2 ^ 64)) v → r ≡ option_and_then (λ n. if nat_lt n (2 ^ 64) then Some n else None) (if b then Some v else None)
digits_case true P v None to from h =
    let past : 2 ^ 64 ≤ v = elim (cases_lt v (2 ^ 64)) [ inl k ↦ absurd (h (to refl, k)) | inr k ↦ k ] in
    sym (cond-false _ _ _ (le-ltb _ _ past))
digits_case true P v (Some x) to from h = ap Some h.1 ∙ sym (cond-true (nat_lt v (2 ^ 64)) (Some v) None (lt-ltb v (2 ^ 64) h.0.1))
digits_case false P v None to from h = refl
digits_case false P v (Some x) to from h = absurd (false≢true (from h.0.0))

pub natural-read : (ds : List ℕ) (r : Option ℕ) → 0 < length ds → SomeIff r (AllDigits 10 ds × (digits_value 10 ds < 2 ^ 64)) (digits_value 10 ds) → r ≡ option_and_then (λ n. if nat_lt n (2 ^ 64) then Some n else None) (natural_of ds)
natural-read [] r some h = absurd (omega arith)
natural-read (d ∷ ds) r some h =
    digits_case (list_all is_ascii_digit (d ∷ ds)) (AllDigits 10 (d ∷ ds)) (digits_value 10 (d ∷ ds)) r (digits-all (d ∷ ds)) (all-digits (d ∷ ds)) h
