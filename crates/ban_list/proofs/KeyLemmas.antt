-- Bans are equal where their keys are.
use Rattle.std.proofs.Common.{◌≡◌, ℕ, Bool, true, false, ◌&&◌, List, [], ◌∷◌, ◌++◌, Option, None, Some, refl, sym, ◌∙◌, ap, arith}
use Rattle.std.specs.Prelude.{nat_eq, if◌then◌else◌}
use Rattle.std.proofs.lemmas.Bool.Decides.{nat_tests}
use Rattle.std.specs.List.{flat_map, list_any}
use Rattle.std.specs.Str.{bytes_eq}
use Rattle.std.specs.Cmp.Lexicographic.{pointwise}
use Rattle.std.proofs.lemmas.List.{append_assoc}
use Rattle.cache_law.specs.declared.ban.TextField.{TextField}
use Rattle.cache_law.specs.declared.ban.TextField.TheVariants.{RequestUrl, RequestHeader, ObjectStatus, ObjectHeader}
use Rattle.cache_law.specs.declared.ban.TextOperator.{TextOperator}
use Rattle.cache_law.specs.declared.ban.TextOperator.TheVariants.{Equal, NotEqual, Matches, MatchesNot}
use Rattle.cache_law.specs.declared.ban.Condition.{Condition}
use Rattle.cache_law.specs.declared.ban.Condition.TheVariants.{OnText, OnTime}
use Rattle.cache_law.specs.declared.ban.Ban.{Ban}
use Rattle.cache_law.specs.Bans.{is_on_time, lasting, same_field, same_operator, same_condition, is_equal}
use Rattle.ban_list.specs.Keys.{field_word, name_in, operator_word, part_of, condition_key, equal_key, same_key}

-- ---- tests
and_assoc : (a b c : Bool) → (a && (b && c)) ≡ ((a && b) && c)
and_assoc true b c = refl
and_assoc false b c = refl

and_five : (word name operator argument rest : Bool) → (word && (name && (operator && (argument && rest)))) ≡ (((word && name) && operator && argument) && rest)
and_five true true true argument rest = refl
and_five true true false argument rest = refl
and_five true false operator argument rest = refl
and_five false name operator argument rest = refl

-- ---- parts
part_equal : (a b r s : List ℕ) → bytes_eq (part_of a ++ r) (part_of b ++ s) ≡ (bytes_eq a b && bytes_eq r s)
part_equal [] [] r s = refl
part_equal [] (y ∷ b) r s = refl
part_equal (x ∷ a) [] r s = refl
part_equal (x ∷ a) (y ∷ b) r s = ap (λ e. nat_eq x y && e) (part_equal a b r s) ∙ and_assoc (nat_eq x y) (bytes_eq a b) (bytes_eq r s)

part_there : (a r : List ℕ) → bytes_eq [] (part_of a ++ r) ≡ false
part_there [] r = refl
part_there (x ∷ a) r = refl

there_part : (a r : List ℕ) → bytes_eq (part_of a ++ r) [] ≡ false
there_part [] r = refl
there_part (x ∷ a) r = refl

-- ---- conditions on texts
field_equal : (field other : TextField) → (bytes_eq (field_word field) (field_word other) && bytes_eq (name_in field) (name_in other)) ≡ same_field field other
field_equal RequestUrl RequestUrl = refl
field_equal RequestUrl (RequestHeader name) = refl
field_equal RequestUrl ObjectStatus = refl
field_equal RequestUrl (ObjectHeader name) = refl
field_equal (RequestHeader name) RequestUrl = refl
field_equal (RequestHeader name) (RequestHeader other) = refl
field_equal (RequestHeader name) ObjectStatus = refl
field_equal (RequestHeader name) (ObjectHeader other) = refl
field_equal ObjectStatus RequestUrl = refl
field_equal ObjectStatus (RequestHeader name) = refl
field_equal ObjectStatus ObjectStatus = refl
field_equal ObjectStatus (ObjectHeader name) = refl
field_equal (ObjectHeader name) RequestUrl = refl
field_equal (ObjectHeader name) (RequestHeader other) = refl
field_equal (ObjectHeader name) ObjectStatus = refl
field_equal (ObjectHeader name) (ObjectHeader other) = refl

operator_equal : (operator other : TextOperator) → bytes_eq (operator_word operator) (operator_word other) ≡ same_operator operator other
operator_equal Equal Equal = refl
operator_equal Equal NotEqual = refl
operator_equal Equal Matches = refl
operator_equal Equal MatchesNot = refl
operator_equal NotEqual Equal = refl
operator_equal NotEqual NotEqual = refl
operator_equal NotEqual Matches = refl
operator_equal NotEqual MatchesNot = refl
operator_equal Matches Equal = refl
operator_equal Matches NotEqual = refl
operator_equal Matches Matches = refl
operator_equal Matches MatchesNot = refl
operator_equal MatchesNot Equal = refl
operator_equal MatchesNot NotEqual = refl
operator_equal MatchesNot Matches = refl
operator_equal MatchesNot MatchesNot = refl

four_parts : (a b c d r : List ℕ) → (a ++ (b ++ (c ++ d))) ++ r ≡ a ++ (b ++ (c ++ (d ++ r)))
four_parts a b c d r =
    append_assoc a (b ++ (c ++ d)) r ∙ ap (λ (l : List ℕ). a ++ l) (append_assoc b (c ++ d) r ∙ ap (λ (l : List ℕ). b ++ l) (append_assoc c d r))

text_equal : (field other : TextField) (operator other_operator : TextOperator) (argument other_argument r s : List ℕ)
    → bytes_eq (condition_key (OnText field operator argument) ++ r) (condition_key (OnText other other_operator other_argument) ++ s)
    ≡ (same_condition (OnText field operator argument) (OnText other other_operator other_argument) && bytes_eq r s)
text_equal field other operator other_operator argument other_argument r s =
    let fw = field_word field in let gw = field_word other in
    let fn = name_in field in let gn = name_in other in
    let ow = operator_word operator in let pw = operator_word other_operator in
    rw (four_parts (part_of fw) (part_of fn) (part_of ow) (part_of argument) r, four_parts (part_of gw) (part_of gn) (part_of pw) (part_of other_argument) s)
    (part_equal fw gw (part_of fn ++ (part_of ow ++ (part_of argument ++ r))) (part_of gn ++ (part_of pw ++ (part_of other_argument ++ s)))
    ∙ ap (λ e. bytes_eq fw gw && e) (part_equal fn gn (part_of ow ++ (part_of argument ++ r)) (part_of pw ++ (part_of other_argument ++ s))
    ∙ ap (λ e. bytes_eq fn gn && e) (part_equal ow pw (part_of argument ++ r) (part_of other_argument ++ s)
    ∙ ap (λ e. bytes_eq ow pw && e) (part_equal argument other_argument r s)))
    ∙ and_five (bytes_eq fw gw) (bytes_eq fn gn) (bytes_eq ow pw) (bytes_eq argument other_argument) (bytes_eq r s)
    ∙ ap (λ e. (e && bytes_eq ow pw && bytes_eq argument other_argument) && bytes_eq r s) (field_equal field other)
    ∙ ap (λ e. (same_field field other && e && bytes_eq argument other_argument) && bytes_eq r s) (operator_equal operator other_operator))

text_there : (field : TextField) (operator : TextOperator) (argument r : List ℕ) → bytes_eq [] (condition_key (OnText field operator argument) ++ r) ≡ false
text_there field operator argument r =
    rw (four_parts (part_of (field_word field)) (part_of (name_in field)) (part_of (operator_word operator)) (part_of argument) r)
    (part_there (field_word field) (part_of (name_in field) ++ (part_of (operator_word operator) ++ (part_of argument ++ r))))

there_text : (field : TextField) (operator : TextOperator) (argument r : List ℕ) → bytes_eq (condition_key (OnText field operator argument) ++ r) [] ≡ false
there_text field operator argument r =
    rw (four_parts (part_of (field_word field)) (part_of (name_in field)) (part_of (operator_word operator)) (part_of argument) r)
    (there_part (field_word field) (part_of (name_in field) ++ (part_of (operator_word operator) ++ (part_of argument ++ r))))

conditions_equal : (conditions others : List Condition) → list_any is_on_time conditions ≡ false → list_any is_on_time others ≡ false
    → bytes_eq (flat_map condition_key conditions) (flat_map condition_key others) ≡ pointwise same_condition conditions others
conditions_equal [] [] e f = refl
conditions_equal [] (OnText field operator argument ∷ others) e f = text_there field operator argument (flat_map condition_key others)
conditions_equal [] (OnTime field comparison milliseconds ∷ others) e f = cc
conditions_equal (OnText field operator argument ∷ conditions) [] e f = there_text field operator argument (flat_map condition_key conditions)
conditions_equal (OnTime field comparison milliseconds ∷ conditions) [] e f = cc
conditions_equal (OnText field operator argument ∷ conditions) (OnText other other_operator other_argument ∷ others) e f =
    text_equal field other operator other_operator argument other_argument (flat_map condition_key conditions) (flat_map condition_key others)
    ∙ ap (λ b. same_condition (OnText field operator argument) (OnText other other_operator other_argument) && b) (conditions_equal conditions others e f)
conditions_equal (OnText field operator argument ∷ conditions) (OnTime other comparison milliseconds ∷ others) e f = cc
conditions_equal (OnTime field comparison milliseconds ∷ conditions) (other ∷ others) e f = cc

-- ---- a condition on a time equals none
and_none : (b : Bool) → (b && false) ≡ false
and_none true = refl
and_none false = refl

lasting_first : (conditions others : List Condition) → list_any is_on_time conditions ≡ true → pointwise same_condition conditions others ≡ false
lasting_first [] others e = cc
lasting_first (condition ∷ conditions) [] e = refl
lasting_first (OnText field operator argument ∷ conditions) (other ∷ others) e =
    ap (λ b. same_condition (OnText field operator argument) other && b) (lasting_first conditions others e) ∙ and_none (same_condition (OnText field operator argument) other)
lasting_first (OnTime field comparison milliseconds ∷ conditions) (other ∷ others) e = refl

lasting_second : (conditions others : List Condition) → list_any is_on_time others ≡ true → pointwise same_condition conditions others ≡ false
lasting_second conditions [] e = cc
lasting_second [] (other ∷ others) e = refl
lasting_second (condition ∷ conditions) (OnText field operator argument ∷ others) e =
    ap (λ b. same_condition condition (OnText field operator argument) && b) (lasting_second conditions others e) ∙ and_none (same_condition condition (OnText field operator argument))
lasting_second (OnText own operator argument ∷ conditions) (OnTime field comparison milliseconds ∷ others) e = refl
lasting_second (OnTime own other_comparison other_milliseconds ∷ conditions) (OnTime field comparison milliseconds ∷ others) e = refl

keys_so : (ban other : Ban) (b c : Bool) → list_any is_on_time ban.conditions ≡ b → list_any is_on_time other.conditions ≡ c
    → pointwise same_condition ban.conditions other.conditions
    ≡ same_key (if b then None else Some (flat_map condition_key ban.conditions)) (if c then None else Some (flat_map condition_key other.conditions))
keys_so ban other true c e f = lasting_first ban.conditions other.conditions e
keys_so ban other false true e f = lasting_second ban.conditions other.conditions f
keys_so ban other false false e f = sym (conditions_equal ban.conditions other.conditions e f)

pub equal_by_keys : (ban other : Ban) → is_equal ban other ≡ same_key (equal_key ban) (equal_key other)
unfolding is_equal equal_key lasting
equal_by_keys ban other = keys_so ban other (list_any is_on_time ban.conditions) (list_any is_on_time other.conditions) refl refl

-- ---- keys that are the same
pub same_key_swaps : (a b : Option (List ℕ)) → same_key a b ≡ same_key b a
same_key_swaps None None = refl
same_key_swaps None (Some b) = refl
same_key_swaps (Some a) None = refl
same_key_swaps (Some a) (Some b) = swap_bytes a b where
  swap_number : (x y : ℕ) → nat_eq x y ≡ nat_eq y x
  swap_number x y = grind (arith, nat_tests)

  swap_bytes : (a b : List ℕ) → bytes_eq a b ≡ bytes_eq b a
  swap_bytes [] [] = refl
  swap_bytes [] (y ∷ b) = refl
  swap_bytes (x ∷ a) [] = refl
  swap_bytes (x ∷ a) (y ∷ b) = rw (swap_number x y, swap_bytes a b) refl
