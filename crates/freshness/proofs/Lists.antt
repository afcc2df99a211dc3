-- The elements of a list, one by one, and what is given first of them.
use Rattle.std.proofs.Common.{◌≡◌, ◌∙◌, ap, sym, refl, ℕ, ◌<◌, ◌+◌, Bool, true, false, not, List, [], ◌∷◌, ◌++◌, Option, Some, None, length, get_or, map, take, drop, length-drop, inl, inr, min, ◌*◌, codes, arith}
use Rattle.std.specs.List.{position_or_len, before_first, after_first}
use Rattle.std.specs.Option.{option_or}
use Rattle.std.proofs.lemmas.List.Splits.{slice_split_first, slice_split_none}
use Rattle.std.proofs.lemmas.List.Sums.{prefix_len_passes}
use Rattle.std.specs.Char.{is_ascii_digit}
use Rattle.std.specs.List.{list_all}
use Rattle.std.specs.Prelude.{◌==◌}
use Rattle.std.proofs.Math.Seq.{take-length}
use Rattle.std.proofs.lemmas.Bool.Decides.{eqb_tells}
use Rattle.std.proofs.lemmas.List.Folds.{list_all_more}
use Rattle.http_heads.specs.declared.fields.Field.{Field}
use Rattle.http_heads.specs.Fields.{is_named}
use Rattle.units.specs.Blanks.{trimmed}
use Rattle.freshness.specs.Directives.{first_given, elements, is_comma, said_by, directive, directives, most_seconds}

-- before a comma stands one element, and behind it stand the others
pub elements_more : (list : List ℕ) → position_or_len is_comma list < length list
    → elements list ≡ trimmed (before_first is_comma list) ∷ elements (after_first is_comma list)
elements_more list within = ap (map trimmed) (slice_split_first is_comma list 0 within)

-- what gives nothing in front can be left out
pub first_given_append : {A B : Type 0} (f : A → Option B) (xs ys : List A)
    → first_given f (xs ++ ys) ≡ option_or (first_given f xs) (first_given f ys)
first_given_append f [] ys = refl
first_given_append f (x ∷ xs) ys = or_assoc (f x) (first_given f xs) (first_given f ys) (first_given_append f xs ys)
  where
    or_assoc : {B : Type 0} (a b c : Option B) {d : Option B} → d ≡ option_or b c → option_or a d ≡ option_or (option_or a b) c
    or_assoc (Some a) b c e = refl
    or_assoc None b c e = e

-- numbers that differ fail the test
pub test-false : (a b : ℕ) → (a ≡ b → ⊥) → (a == b) ≡ false
test-false a b differ = elim (eqb_tells a b) [ inl (_, same) ↦ absurd (differ same) | inr (fails, _) ↦ fails ]

untrue : (b : Bool) → not b ≡ true → b ≡ false
untrue true e = sym e
untrue false e = refl

-- where no comma stands, the list is one element
pub elements_last : (list : List ℕ) → position_or_len is_comma list ≡ length list → elements list ≡ trimmed list ∷ []
elements_last list whole =
    ap (map trimmed) (slice_split_none is_comma list
    (λ k d within. untrue (is_comma (get_or list k d)) (prefix_len_passes (λ byte. not (is_comma byte)) list k d (rw whole within))))

-- the first element, and the list behind its comma, in the words of a place
pub first_of_more : (list : List ℕ) (place : ℕ) (element behind : List ℕ) → place ≡ position_or_len is_comma list
    → element ≡ trimmed (take place list) → behind ≡ drop (place + 1) list → place < length list
    → (elements list ≡ element ∷ elements behind) × (length behind < length list)
first_of_more list place element behind at is rest within =
    let inside : position_or_len is_comma list < length list = omega arith in
    let e : elements list ≡ trimmed (take place list) ∷ elements (drop (place + 1) list) = rw at (elements_more list inside) in
    (e ∙ cc, rw (rest, length-drop) (omega arith))

last_element : (list : List ℕ) (place : ℕ) (element : List ℕ) → place ≡ length list → element ≡ trimmed (take place list) → element ≡ trimmed list
last_element list place element end is = let whole : take (length list) list ≡ list = take-length list in rw (← whole, ← end) is

pub first_of_last : (list : List ℕ) (place : ℕ) (element : List ℕ) → place ≡ position_or_len is_comma list
    → element ≡ trimmed (take place list) → place ≡ length list → elements list ≡ element ∷ []
first_of_last list place element at is end =
    elements_last list (sym at ∙ end) ∙ ap (λ e. e ∷ []) (sym (last_element list place element end is))

module _ (name : List ℕ) (field : Field) (rest fields : List Field) (first : fields ≡ field ∷ rest) where
  -- a field that is no Cache-Control says nothing
  pub directive_other : is_named (codes "cache-control") field ≡ false → directive name fields ≡ directive name rest
  directive_other other = rw (first, other) refl

  -- a Cache-Control field speaks before those behind it
  pub directive_named : is_named (codes "cache-control") field ≡ true
      → directive name fields ≡ option_or (first_given (said_by name) (elements field.value)) (directive name rest)
  directive_named named = rw (first, named) (first_given_append (said_by name) (elements field.value) (directives rest))

  pub directive_said : {seconds : ℕ} → is_named (codes "cache-control") field ≡ true
      → Some seconds ≡ first_given (said_by name) (elements field.value) → Some seconds ≡ directive name fields
  directive_said named said = sym (directive_named named ∙ rw (← said) refl)

  pub directive_silent : is_named (codes "cache-control") field ≡ true
      → None ≡ first_given (said_by name) (elements field.value) → directive name rest ≡ directive name fields
  directive_silent named said = sym (directive_named named ∙ rw (← said) refl)

-- the digits are such still with one more
pub digits_more : (bytes : List ℕ) (i : ℕ) → i < length bytes → list_all is_ascii_digit (take i bytes) ≡ true
    → is_ascii_digit (get_or bytes i 0) ≡ true → list_all is_ascii_digit (take (i + 1) bytes) ≡ true
digits_more bytes i within all one = rw (list_all_more is_ascii_digit bytes i 0 within, all, one) refl

-- a number that is cut to a greatest one may be cut before its last digit too
pub cut_early : (value digit : ℕ) → min (min value most_seconds * 10 + digit) most_seconds ≡ min (value * 10 + digit) most_seconds
cut_early value digit = omega arith
