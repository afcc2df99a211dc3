-- Fields say where a body ends as they were made to.
use Rattle.std.proofs.Common.{◌≡◌, ◌∙◌, ap, ℕ, ◌+◌, ◌<◌, ◌^◌, ◌⊎◌, inl, inr, Bool, true, false, not, ◌&&◌, List, [], ◌∷◌, ◌++◌, length, filter, refl, sym, arith}
use Rattle.std.specs.Prelude.{◌==◌, codes, nat_lt}
use Rattle.std.specs.Char.{is_digit, digit_value}
use Rattle.std.specs.List.{All, list_all, count_by}
use Rattle.std.specs.Fmt.{decimal}
use Rattle.std.specs.Str.Parse.{AllDigits, digits_value}
use Rattle.std.proofs.lemmas.Bool.Decides.{nat_tests}
use Rattle.std.proofs.lemmas.Fmt.{decimal_is_IsNumeral}
use Rattle.std.proofs.lemmas.List.Elements.{All-head, All-tail, All-filter, filter-append, filter_passes}
use Rattle.std.proofs.lemmas.List.Folds.{list_all-append}
use Rattle.std.proofs.lemmas.List.Sums.{length-filter, sum_by-append}
use Rattle.http_heads.specs.declared.fields.Field.{Field}
use Rattle.http_heads.specs.Fields.{is_named, count_of, field, without, replaced}
use Rattle.http_bodies.specs.declared.framing.Framing.TheVariants.{Nothing, Length}
use Rattle.http_bodies.specs.declared.framing.Kind.TheVariants.{Request, Reply}
use Rattle.http_bodies.specs.Framings.{length_name, coding_name, is_length, says_length, Says}
use Rattle.http_bodies.specs.Framed.{unframed, of_length}

by_bit : (b : Bool) → (b ≡ true) ⊎ (b ≡ false)
by_bit true = inl refl
by_bit false = inr refl

-- ---- lists

-- no element passes
abbrev IsClear : {X : Type 0} → (X → Bool) → List X → Type 0
IsClear {X} p xs = All (λ (x : X). not (p x) ≡ true) xs

failing : (b : Bool) → not b ≡ true → b ≡ false
failing true e = sym e
failing false e = refl

none_pass : {X : Type 0} (p : X → Bool) (xs : List X) → IsClear p xs → filter p xs ≡ []
none_pass p [] clear = refl
none_pass {X} p (x ∷ xs) clear =
    let test : X → Type 0 = λ y. not (p y) ≡ true in
    rw (failing (p x) (All-head test x xs clear)) (none_pass p xs (All-tail test x xs clear))

none_counted : {X : Type 0} (p : X → Bool) (xs : List X) → IsClear p xs → count_by p xs ≡ 0
none_counted p xs clear = sym (length-filter p xs) ∙ ap length (none_pass p xs clear)

-- ---- the length that is said

digit_is : (c : ℕ) → digit_value c < 10 → is_digit c 10 ≡ true
digit_is c small = grind (arith, nat_tests)

digits_are : (ds : List ℕ) → AllDigits 10 ds → list_all (λ byte. is_digit byte 10) ds ≡ true
digits_are [] all = refl
digits_are (c ∷ ds) all = rw (digit_is c all.0) (digits_are ds all.1)

below : (n k : ℕ) → n < k → nat_lt n k ≡ true
below n k small = grind (arith, nat_tests)

number_is : (n : ℕ) → n < 2 ^ 64 → is_length n (decimal n) ≡ true
number_is n small =
    let spelled = decimal_is_IsNumeral n small in
    let some : nat_lt 0 (length (decimal n)) ≡ true = below 0 (length (decimal n)) spelled.0.0 in
    let digits : list_all (λ byte. is_digit byte 10) (decimal n) ≡ true = digits_are (decimal n) spelled.0.1 in
    let value : digits_value 10 (decimal n) ≡ n = spelled.1 in
    let fits : nat_lt n (2 ^ 64) ≡ true = below n (2 ^ 64) small in
    rw (some, digits, value, fits) (same n)
  where
    same : (n : ℕ) → (n == n) ≡ true
    same n = grind (arith, nat_tests)

-- fields without a length say none that differs
says_nothing : (n : ℕ) (fields : List Field) → IsClear (is_named length_name) fields → says_length n fields ≡ true
says_nothing n [] clear = refl
says_nothing n (f ∷ fields) clear =
    let test : Field → Type 0 = λ g. not (is_named length_name g) ≡ true in
    rw (failing (is_named length_name f) (All-head test f fields clear)) (says_nothing n fields (All-tail test f fields clear))

-- no field frames a body
record IsUnframed (fields : List Field) : Type 0 where
  lengths : IsClear (is_named length_name) fields
  codings : IsClear (is_named coding_name) fields

unframed_is : (fields : List Field) → IsUnframed (unframed fields)
unframed_is fields = record {
  lengths = All-filter (λ f. not (is_named coding_name f)) (λ f. not (is_named length_name f) ≡ true) (without length_name fields)
      (filter_passes (λ f. not (is_named length_name f)) fields);
  codings = filter_passes (λ f. not (is_named coding_name f)) (without length_name fields);
}

part_is : (q : Field → Bool) (fields : List Field) → IsUnframed fields → IsUnframed (filter q fields)
part_is q fields is = record {
  lengths = All-filter q (λ f. not (is_named length_name f) ≡ true) fields is.lengths;
  codings = All-filter q (λ f. not (is_named coding_name f) ≡ true) fields is.codings;
}

abbrev length_field : ℕ → Field
length_field n = field (codes "Content-Length") (decimal n)

abbrev close_field : Field
close_field = field (codes "Connection") (codes "close")

-- behind such fields one length is all that frames the body
one_length : (n : ℕ) (fields : List Field) → n < 2 ^ 64 → IsUnframed fields → Says Reply (fields ++ length_field n ∷ []) (Length n)
one_length n fields small is =
    let lengths : count_of length_name (fields ++ length_field n ∷ []) ≡ count_of length_name fields + 1 = sum_by-append _ fields (length_field n ∷ []) in
    let codings : count_of coding_name (fields ++ length_field n ∷ []) ≡ count_of coding_name fields + 0 = sum_by-append _ fields (length_field n ∷ []) in
    let says : says_length n (fields ++ length_field n ∷ []) ≡ (says_length n fields && (is_length n (decimal n) && true)) = list_all-append _ fields (length_field n ∷ []) in
    let is_it : says_length n (fields ++ length_field n ∷ []) ≡ true = rw (says, says_nothing n fields is.lengths, number_is n small) refl in
    (omega (arith, lengths), codings ∙ ap (λ (k : ℕ). k + 0) (none_counted (is_named coding_name) fields is.codings), is_it)

-- and so it is with a Connection field behind it
still_one : (n : ℕ) (fields : List Field) → Says Reply fields (Length n) → Says Reply (fields ++ close_field ∷ []) (Length n)
still_one n fields is =
    let lengths : count_of length_name (fields ++ close_field ∷ []) ≡ count_of length_name fields + 0 = sum_by-append _ fields (close_field ∷ []) in
    let codings : count_of coding_name (fields ++ close_field ∷ []) ≡ count_of coding_name fields + 0 = sum_by-append _ fields (close_field ∷ []) in
    let says : says_length n (fields ++ close_field ∷ []) ≡ (says_length n fields && true) = list_all-append _ fields (close_field ∷ []) in
    let said : says_length n fields ≡ true = is.2 in
    let is_it : says_length n (fields ++ close_field ∷ []) ≡ true = rw (says, said) refl in
    (omega (arith, lengths, is.0), omega (arith, codings, is.1), is_it)

pub says_none : (fields : List Field) → Says Request (unframed fields) Nothing
says_none fields =
    let is = unframed_is fields in
    (none_counted (is_named length_name) (unframed fields) is.lengths, none_counted (is_named coding_name) (unframed fields) is.codings, refl)

pub says_length_of_reply : (fields : List Field) (len : ℕ) → len < 2 ^ 64 → Says Reply (of_length len fields) (Length len)
says_length_of_reply fields len small = one_length len (unframed fields) small (unframed_is fields)

pub says_length_of_request : (fields : List Field) (len : ℕ) → len < 2 ^ 64 → Says Request (of_length len fields) (Length len)
says_length_of_request fields len small = says_length_of_reply fields len small

pub says_length_closing : (fields : List Field) (len : ℕ) → len < 2 ^ 64 → Says Reply (replaced (codes "Connection") (codes "close") (of_length len fields)) (Length len)
says_length_closing fields len small =
    let q : Field → Bool = λ f. not (is_named (codes "Connection") f) in
    let split : filter q (unframed fields ++ length_field len ∷ []) ≡ filter q (unframed fields) ++ length_field len ∷ [] = filter-append q (unframed fields) (length_field len ∷ []) in
    rw split (still_one len (filter q (unframed fields) ++ length_field len ∷ []) (one_length len (filter q (unframed fields)) small (part_is q (unframed fields) (unframed_is fields))))
