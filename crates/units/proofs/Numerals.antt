-- Decimal texts and the values of digits.
use Rattle.std.proofs.Common.{◌≡◌, ℕ, zero, suc, ◌+◌, ◌*◌, ◌<◌, ◌≤◌, ◌^◌, List, [], ◌∷◌, length, get_or, drop, sym, ap, subst, arith}
use Rattle.std.proofs.lemmas.Str.Parse.{numerals_by_value, tells_digits}
use Rattle.std.proofs.lemmas.Fmt.{decimal-digits_value, decimal_is_IsNumeral, decimal_digit, first_decimal}
use Rattle.std.specs.Fmt.{decimal}
use Rattle.std.specs.Char.{digit_value}
use Rattle.std.specs.Str.Parse.{digits_value, digits_value_after, AllDigits}
use Rattle.std.proofs.lemmas.List.{drop_all, drop_more}
use Rattle.std.specs.Prelude.{Option, Some, None, MatchOption, SomeIff}
use Rattle.units.specs.Numbers.{IsNumber}

-- digits that begin with no zero are the decimal text of their value
pub canonical : (ds : List ℕ) → AllDigits 10 ds → 0 < length ds → (get_or ds 0 0 ≡ 48 → length ds ≡ 1) → digits_value 10 ds < 2 ^ 64 → IsNumber ds (digits_value 10 ds)
canonical ds d p z s = (s, sym (decimal-digits_value (numerals_by_value (AllDigits 10) tells_digits) ds d p z s))

-- how the text of a number is spelled
pub record Spelled (ds : List ℕ) (n : ℕ) : Type 0 where
  pub digits : AllDigits 10 ds
  pub some : 0 < length ds
  pub first : get_or ds 0 0 ≡ 48 → length ds ≡ 1
  pub value : digits_value 10 ds ≡ n

first_at : (n : ℕ) → n < 2 ^ 64 → get_or (decimal n) 0 0 ≡ 48 → length (decimal n) ≡ 1
first_at zero h e = ap length (decimal_digit 0 (omega arith))
first_at (suc n) h e = absurd (omega (arith, first_decimal (suc n) (omega arith) h))

pub spelled : (ds : List ℕ) (n : ℕ) → IsNumber ds n → Spelled ds n
spelled ds n h =
    let k = decimal_is_IsNumeral n h.0 in
    let e : decimal n ≡ ds = sym h.1 in
    let at : List ℕ → Type 0 = λ x. Spelled x n in
    subst at e (record { digits = k.0.1; some = k.0.0; first = first_at n h.0; value = k.1 })

-- more digits make no smaller number
value_grows : (n : ℕ) (ds : List ℕ) → n ≤ digits_value_after 10 n ds
value_grows n [] = omega arith
value_grows n (d ∷ ds) = omega (arith, value_grows (n * 10 + digit_value d) ds)

-- what the digits from a place on say: the value so far goes on with the digit there
pub record GoesOn (bytes : List ℕ) (at value : ℕ) : Type 0 where
  pub value_is : digits_value_after 10 value (drop at bytes) ≡ digits_value 10 bytes
  pub all : AllDigits 10 (drop at bytes) → AllDigits 10 bytes
  pub each : AllDigits 10 bytes → AllDigits 10 (drop at bytes)
  pub small : value < 2 ^ 64

pub ended : (bytes : List ℕ) (at value : ℕ) → length bytes ≤ at → GoesOn bytes at value → AllDigits 10 bytes × (digits_value 10 bytes ≡ value)
ended bytes at value past g =
    let e = drop_all at bytes past in
    let all = g.all in
    ((rw e at all) tt, sym (rw e at (g.value_is)))

pub refused : (bytes : List ℕ) (at value : ℕ) → at < length bytes → GoesOn bytes at value → ((digit_value (get_or bytes at 0) < 10) × (value * 10 + digit_value (get_or bytes at 0) < 2 ^ 64) → ⊥) → AllDigits 10 bytes × (digits_value 10 bytes < 2 ^ 64) → ⊥
refused bytes at value within g fails h =
    let e = drop_more bytes at 0 within in
    let each : AllDigits 10 (get_or bytes at 0 ∷ drop (at + 1) bytes) = rw e at (g.each h.0) in
    let value_is : digits_value_after 10 value (get_or bytes at 0 ∷ drop (at + 1) bytes) ≡ digits_value 10 bytes = rw e at g.value_is in
    fails (each.0, omega (arith, value_is, value_grows (value * 10 + digit_value (get_or bytes at 0)) (drop (at + 1) bytes)))

-- what `value_of_digits` answers is what `read_number` is to answer, where no zero leads
pub read_cases : (bytes : List ℕ) (r : Option ℕ) → 0 < length bytes → (get_or bytes 0 0 ≡ 48 → length bytes ≡ 1) → SomeIff r (AllDigits 10 bytes × (digits_value 10 bytes < 2 ^ 64)) (digits_value 10 bytes) → MatchOption r ((n : ℕ) → IsNumber bytes n → ⊥) (λ n. IsNumber bytes n)
read_cases bytes None p z h = λ n k. let s = spelled bytes n k in let small : n < 2 ^ 64 = k.0 in h (s.digits, omega (arith, s.value))
read_cases bytes (Some x) p z h =
    let at : ℕ → Type 0 = λ v. IsNumber bytes v in
    let e : digits_value 10 bytes ≡ x = sym h.1 in
    subst at e (canonical bytes h.0.0 p z h.0.1)
