-- The values of a field among fields, one field after another.
use Rattle.std.proofs.Common.{◌≡◌, ℕ, Bool, true, false, cond, List, [], ◌∷◌, ◌-◌, ◌<◌, ◌≤◌, ◌&&◌, length, map, filter, take, drop, get_or, arith, sym, ap, ◌∙◌}
use Rattle.std.specs.Str.{bytes_eq}
use Rattle.std.proofs.lemmas.List.{take_all}
use Rattle.units.specs.Blanks.{trimmed}
use Rattle.http_heads.specs.declared.fields.Field.{Field}
use Rattle.http_heads.specs.Fields.{is_named}
use Rattle.cache_law.specs.Object.{same_texts}
use Rattle.cache_law.specs.Lookup.{values_of}

-- what is behind the first
pub behind_first : {X : Type 0} (x : X) (xs : List X) → take (length (x ∷ xs) - 1) (drop 1 (x ∷ xs)) ≡ xs
behind_first x xs = take_all (length (x ∷ xs) - 1) xs (omega arith)

other_values : (name : List ℕ) (field : Field) (fields : List Field) → is_named name field ≡ false → values_of name (field ∷ fields) ≡ values_of name fields
other_values name field fields e =
    ap (λ (b : Bool). map (λ (f : Field). trimmed f.value) (cond b (field ∷ filter (is_named name) fields) (filter (is_named name) fields))) e

one_value : (name : List ℕ) (field : Field) (fields : List Field) → is_named name field ≡ true → values_of name (field ∷ fields) ≡ trimmed field.value ∷ values_of name fields
one_value name field fields e =
    ap (λ (b : Bool). map (λ (f : Field). trimmed f.value) (cond b (field ∷ filter (is_named name) fields) (filter (is_named name) fields))) e

-- the first field has another name
pub value_later : (name : List ℕ) (fields : List Field) (field : Field) (values : List (List ℕ)) (answer : Bool) → 1 ≤ length fields → field ≡ get_or fields 0 field → is_named name field ≡ false → answer ≡ same_texts (values_of name (take (length fields - 1) (drop 1 fields))) (map trimmed values) → answer ≡ same_texts (values_of name fields) (map trimmed values)
value_later name [] field values answer least at_ named e = absurd (omega arith)
value_later name (f ∷ fs) field values answer least at_ named e =
    e ∙ ap (λ (more : List Field). same_texts (values_of name more) (map trimmed values)) (behind_first f fs)
    ∙ ap (λ (vs : List (List ℕ)). same_texts vs (map trimmed values)) (sym (other_values name f fs (ap (is_named name) (sym at_) ∙ named)))

-- there is no value more
pub value_over : (name : List ℕ) (fields : List Field) (field : Field) (values : List (List ℕ)) → 1 ≤ length fields → field ≡ get_or fields 0 field → is_named name field ≡ true → length values < 1 → false ≡ same_texts (values_of name fields) (map trimmed values)
value_over name [] field values least at_ named none_ = absurd (omega arith)
value_over name (f ∷ fs) field [] least at_ named none_ =
    ap (λ (vs : List (List ℕ)). same_texts vs []) (sym (one_value name f fs (ap (is_named name) (sym at_) ∙ named)))
value_over name (f ∷ fs) field (v ∷ vs) least at_ named none_ = absurd (omega arith)

-- the first field and the first value
pub value_first : (name : List ℕ) (fields : List Field) (field : Field) (values : List (List ℕ)) (value : List ℕ) (answer : Bool) → 1 ≤ length fields → 1 ≤ length values → field ≡ get_or fields 0 field → value ≡ get_or values 0 value → is_named name field ≡ true → answer ≡ (bytes_eq (trimmed field.value) (trimmed value) && same_texts (values_of name (take (length fields - 1) (drop 1 fields))) (map trimmed (take (length values - 1) (drop 1 values)))) → answer ≡ same_texts (values_of name fields) (map trimmed values)
value_first name [] field values value answer least some_ at_ first named e = absurd (omega arith)
value_first name (f ∷ fs) field [] value answer least some_ at_ first named e = absurd (omega arith)
value_first name (f ∷ fs) field (v ∷ vs) value answer least some_ at_ first named e =
    e
    ∙ ap (λ (more : List Field). bytes_eq (trimmed field.value) (trimmed value) && same_texts (values_of name more) (map trimmed (take (length (v ∷ vs) - 1) (drop 1 (v ∷ vs))))) (behind_first f fs)
    ∙ ap (λ (rest : List (List ℕ)). bytes_eq (trimmed field.value) (trimmed value) && same_texts (values_of name fs) (map trimmed rest)) (behind_first v vs)
    ∙ ap (λ (x : Field). bytes_eq (trimmed x.value) (trimmed value) && same_texts (values_of name fs) (map trimmed vs)) at_
    ∙ ap (λ (x : List ℕ). bytes_eq (trimmed f.value) (trimmed x) && same_texts (values_of name fs) (map trimmed vs)) first
    ∙ ap (λ (ws : List (List ℕ)). same_texts ws (trimmed v ∷ map trimmed vs)) (sym (one_value name f fs (ap (is_named name) (sym at_) ∙ named)))
