-- The length that the fields say.
use Rattle.std.proofs.Common.{◌≡◌, ℕ, ◌<◌, ◌^◌, Bool, true, false, ◌&&◌, List, [], ◌∷◌, length, refl, ap, arith, ◌⊎◌, inl, inr, Option, Some, None}
use Rattle.std.specs.Prelude.{nat_lt}
use Rattle.std.specs.List.{list_all}
use Rattle.std.specs.Option.{SomeIff}
use Rattle.std.specs.Char.{digit_value, is_digit}
use Rattle.std.specs.Str.Parse.{AllDigits, digits_value}
use Rattle.std.proofs.lemmas.Bool.Decides.{nat_tests}
use Rattle.http_heads.specs.declared.fields.Field.{Field}
use Rattle.http_heads.specs.Fields.{is_named, first_value, count_of}
use Rattle.http_bodies.specs.Framings.{length_name, length_number, is_that, is_length, says_length}

and_left : (a b : Bool) → (a && b) ≡ true → a ≡ true
and_left true b both = refl
and_left false b both = both

and_right : (a b : Bool) → (a && b) ≡ true → b ≡ true
and_right true b both = both
and_right false b both = cc

two : (b : Bool) → (b ≡ true) ⊎ (b ≡ false)
two true = inl refl
two false = inr refl

-- the first field's value says what all say
pub first_says : (n : ℕ) (fields : List Field) (value : List ℕ) → Some value ≡ first_value length_name fields
    → says_length n fields ≡ true → is_length n value ≡ true
first_says n [] value first says = cc
first_says n (f ∷ fields) value first says = elim (two (is_named length_name f)) [
  | inl named ↦
      let here : Some value ≡ Some f.value = rw named at first in
      let same : value ≡ f.value = cc in
      let both : (is_length n f.value && says_length n fields) ≡ true = rw named at says in
      rw same (and_left _ _ both)
  | inr other ↦
      let later : Some value ≡ first_value length_name fields = rw other at first in
      let rest : says_length n fields ≡ true = rw other at says in
      first_says n fields value later rest
]

-- without a first there is none
pub none_named : (name : List ℕ) (fields : List Field) → None ≡ first_value name fields → count_of name fields ≡ 0
none_named name [] none = refl
none_named name (f ∷ fields) none = elim (two (is_named name f)) [
  | inl named ↦ let never : None ≡ Some f.value = rw named at none in cc
  | inr other ↦ let rest : None ≡ first_value name fields = rw other at none in rw other (none_named name fields rest)
]

pub that : (m n : ℕ) → is_that m (Some n) ≡ true → m ≡ n
that m n same = grind (arith, nat_tests)

digits_tested : (bytes : List ℕ) → AllDigits 10 bytes → list_all (λ byte. is_digit byte 10) bytes ≡ true
digits_tested [] all = refl
digits_tested (b ∷ bytes) all =
    let digit : is_digit b 10 ≡ true = let small : digit_value b < 10 = all.0 in grind (arith, nat_tests) in
    rw (digit, digits_tested bytes all.1) refl

digits_from : (bytes : List ℕ) → list_all (λ byte. is_digit byte 10) bytes ≡ true → AllDigits 10 bytes
digits_from [] all = tt
digits_from (b ∷ bytes) all =
    let digit : nat_lt (digit_value b) 10 ≡ true = and_left _ _ all in
    (grind (arith, nat_tests), digits_from bytes (and_right _ _ all))

pub number_told : (value : List ℕ) (result : Option ℕ) → 0 < length value
    → SomeIff result (AllDigits 10 value × (digits_value 10 value < 2 ^ 64)) (digits_value 10 value) → result ≡ length_number value
number_told value None some none = elim (two (nat_lt 0 (length value) && list_all (λ byte. is_digit byte 10) value && nat_lt (digits_value 10 value) (2 ^ 64))) [
  | inl all ↦
      let fits : nat_lt (digits_value 10 value) (2 ^ 64) ≡ true = and_right _ _ all in
      let small : digits_value 10 value < 2 ^ 64 = grind (arith, nat_tests) in
      absurd (none (digits_from value (and_right _ _ (and_left _ _ all)), small))
  | inr fails ↦ rw fails refl
]
number_told value (Some n) some told =
    let first : nat_lt 0 (length value) ≡ true = grind (arith, nat_tests) in
    let digits = digits_tested value told.0.0 in
    let small : digits_value 10 value < 2 ^ 64 = told.0.1 in
    let fits : nat_lt (digits_value 10 value) (2 ^ 64) ≡ true = grind (arith, nat_tests) in
    rw (first, digits, fits) (ap Some told.1)
