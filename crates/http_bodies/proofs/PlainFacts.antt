-- Values that read as they are printed: numbers, and texts without white space.
use Rattle.std.proofs.Common.{◌≡◌, not, ℕ, ◌<◌, ◌^◌, false, IsTrue, List, [], ◌∷◌, ◌++◌, length, reverse, refl, sym, ◌∙◌, ap, subst, arith}
use Rattle.std.specs.List.{All}
use Rattle.std.specs.Char.{digit_value}
use Rattle.std.specs.Prelude.{codes}
use Rattle.std.specs.Fmt.{decimal}
use Rattle.std.specs.Str.Parse.{AllDigits}
use Rattle.std.proofs.lemmas.Bool.Decides.{nat_tests}
use Rattle.std.proofs.lemmas.Fmt.{decimal_is_IsNumeral}
use Rattle.std.proofs.lemmas.Str.Parse.{digit_from_value}
use Rattle.std.proofs.lemmas.List.{append_assoc, reverse-append, reverse-reverse, length-reverse}
use Rattle.std.proofs.lemmas.List.Elements.{All-cons, All-nil, All-head, All-tail, All-push, All-filter}
use Rattle.std.proofs.lemmas.List.Sums.{AllPass-from_list_all}
use Rattle.httparse.specs.Grammar.{IsToken, AllPass, is_token_byte, is_value_byte, is_ows, skip_ows, trim_ows}
use Rattle.http_heads.specs.declared.fields.Field.{Field}
use Rattle.http_heads.specs.Fields.{is_named, field, without}
use Rattle.http_heads.specs.Printed.{IsPlainField}
use Rattle.http_bodies.specs.Framings.{length_name, coding_name}
use Rattle.http_bodies.specs.Framed.{unframed, of_length}

-- no white space
abbrev pub IsInk : ℕ → Type 0
IsInk byte = is_ows byte ≡ false

ink_first : (byte : ℕ) (xs : List ℕ) → IsInk byte → skip_ows (byte ∷ xs) ≡ byte ∷ xs
ink_first byte xs ink = rw ink refl

-- what begins with ink begins with no white space
ink_front : (xs ys : List ℕ) → 0 < length xs → All IsInk xs → skip_ows (xs ++ ys) ≡ xs ++ ys
ink_front [] ys some each = absurd (omega (arith, some))
ink_front (byte ∷ xs) ys some each = ink_first byte (xs ++ ys) (All-head IsInk byte xs each)

-- ink alone
ink_all : (xs : List ℕ) → All IsInk xs → skip_ows xs ≡ xs
ink_all [] each = refl
ink_all (byte ∷ xs) each = ink_first byte xs (All-head IsInk byte xs each)

ink_reversed : (xs : List ℕ) → All IsInk xs → All IsInk (reverse xs)
ink_reversed [] each = All-nil IsInk
ink_reversed (byte ∷ xs) each =
    subst (λ (l : List ℕ). All IsInk l) (sym (reverse-append (byte ∷ []) xs))
    (All-push IsInk (reverse xs) byte (ink_reversed xs (All-tail IsInk byte xs each)) (All-head IsInk byte xs each))

-- nothing is trimmed where neither end is white space
trim_kept : (xs : List ℕ) → skip_ows xs ≡ xs → skip_ows (reverse xs) ≡ reverse xs → trim_ows xs ≡ xs
unfolding trim_ows
trim_kept xs front back = ap (λ (l : List ℕ). reverse (skip_ows (reverse l))) front ∙ ap reverse back ∙ reverse-reverse xs

pub trim_ink : (xs : List ℕ) → All IsInk xs → trim_ows xs ≡ xs
trim_ink xs each = trim_kept xs (ink_all xs each) (ink_all (reverse xs) (ink_reversed xs each))

-- ink, anything, and ink
pub trim_between : (xs mid ys : List ℕ) → 0 < length xs → All IsInk xs → 0 < length ys → All IsInk ys → trim_ows (xs ++ (mid ++ ys)) ≡ xs ++ (mid ++ ys)
trim_between xs mid ys some ink more black =
    let turned : reverse (xs ++ (mid ++ ys)) ≡ reverse ys ++ (reverse mid ++ reverse xs) =
    reverse-append xs (mid ++ ys) ∙ ap (λ (l : List ℕ). l ++ reverse xs) (reverse-append mid ys) ∙ append_assoc (reverse ys) (reverse mid) (reverse xs) in
    let at_end : skip_ows (reverse ys ++ (reverse mid ++ reverse xs)) ≡ reverse ys ++ (reverse mid ++ reverse xs) =
    ink_front (reverse ys) (reverse mid ++ reverse xs) (rw (length-reverse ys) more) (ink_reversed ys black) in
    trim_kept (xs ++ (mid ++ ys)) (ink_front xs (mid ++ ys) some ink) (subst (λ (l : List ℕ). skip_ows l ≡ l) (sym turned) at_end)

-- ---- digits

digit_ink : (c : ℕ) → digit_value c < 10 → IsInk c
digit_ink c small = let within = digit_from_value c small in grind (arith, nat_tests)

digit_stands : (c : ℕ) → digit_value c < 10 → IsTrue (is_value_byte c)
digit_stands c small = let within = digit_from_value c small in grind (arith, nat_tests)

digits_each : (P : ℕ → Type 0) → ((c : ℕ) → digit_value c < 10 → P c) → (ds : List ℕ) → AllDigits 10 ds → All P ds
digits_each P each [] all = All-nil P
digits_each P each (c ∷ ds) all = All-cons P c ds (each c all.0) (digits_each P each ds all.1)

pub number_ink : (n : ℕ) → n < 2 ^ 64 → All IsInk (decimal n)
number_ink n small = digits_each IsInk digit_ink (decimal n) (decimal_is_IsNumeral n small).0.1

pub number_stands : (n : ℕ) → n < 2 ^ 64 → AllPass is_value_byte (decimal n)
number_stands n small = digits_each (λ b. IsTrue (is_value_byte b)) digit_stands (decimal n) (decimal_is_IsNumeral n small).0.1

-- a field whose value is a number
pub plain_number : (name : List ℕ) (n : ℕ) → n < 2 ^ 64 → IsToken name → IsPlainField (field name (decimal n))
plain_number name n small token =
    record { name = token; value = number_stands n small; trimmed = trim_ink (decimal n) (number_ink n small) }

-- ---- fields that are put in

length_token : IsToken (codes "Content-Length")
unfolding is_token_byte
length_token = (omega arith, AllPass-from_list_all is_token_byte (codes "Content-Length") refl)

number_token : IsToken (codes "X-Varnish")
unfolding is_token_byte
number_token = (omega arith, AllPass-from_list_all is_token_byte (codes "X-Varnish") refl)

pub plain_varnish : (n : ℕ) → n < 2 ^ 64 → IsPlainField (field (codes "X-Varnish") (decimal n))
plain_varnish n small = plain_number (codes "X-Varnish") n small number_token

pub others_plain : (name : List ℕ) (fields : List Field) → All IsPlainField fields → All IsPlainField (without name fields)
others_plain name fields each = All-filter (λ f. not (is_named name f)) IsPlainField fields each

pub unframed_plain : (fields : List Field) → All IsPlainField fields → All IsPlainField (unframed fields)
unframed_plain fields each = others_plain coding_name (without length_name fields) (others_plain length_name fields each)

pub of_length_plain : (len : ℕ) (fields : List Field) → len < 2 ^ 64 → All IsPlainField fields → All IsPlainField (of_length len fields)
of_length_plain len fields small each =
    All-push IsPlainField (unframed fields) (field (codes "Content-Length") (decimal len)) (unframed_plain fields each) (plain_number (codes "Content-Length") len small length_token)
