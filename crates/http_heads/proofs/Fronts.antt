-- The front of the bytes, and the fields that spans show.
use Rattle.std.proofs.Common.{◌≡◌, ℕ, zero, suc, ◌-◌, ◌<◌, ◌≤◌, min, List, [], ◌∷◌, ◌++◌, length, take, drop, map, sym, ◌∙◌, ap, arith, take-append-drop}
use Rattle.std.proofs.lemmas.List.{length-take, length-map, take_all}
use Rattle.std.proofs.lemmas.Simd.{map-map}
use Rattle.httparse.specs.Grammar.{Field as FieldTree}
use Rattle.httparse.specs.Spans.{header_bytes, name_and_value}
use Rattle.httparse.specs.declared.spans.HeaderSpan.{HeaderSpan}
use Rattle.http_heads.specs.declared.fields.Field.{Field}
use Rattle.http_heads.specs.Heads.{field_of}
use Rattle.http_heads.specs.Spans.{field_at}

-- what fits is at the front
pub take_front : (n : ℕ) (xs ys : List ℕ) → length xs ≤ n → take n (xs ++ ys) ≡ xs ++ take (n - length xs) ys
take_front n [] ys fits = let all : n ≡ n - 0 = omega arith in ap (λ (k : ℕ). take k ys) all
take_front zero (x ∷ xs) ys fits = absurd (omega arith)
take_front (suc n) (x ∷ xs) ys fits =
    let left : n - length xs ≡ suc n - length (x ∷ xs) = omega arith in
    ap (λ (l : List ℕ). x ∷ l) (take_front n xs ys (omega arith)) ∙ ap (λ (k : ℕ). x ∷ (xs ++ take k ys)) left

-- the first bytes, and the others
pub split_front : (n : ℕ) (bytes front : List ℕ) → front ≡ take n bytes → bytes ≡ front ++ drop n bytes
split_front n bytes front is = sym (take-append-drop n bytes) ∙ ap (λ (l : List ℕ). l ++ drop n bytes) (sym is)

-- fields whose spans show the same names and values
abbrev as_field : List ℕ × List ℕ → Field
as_field p = record { name = p.0; value = p.1 }

pub same_fields : (buf : List ℕ) (spans : List HeaderSpan) (lines : List FieldTree)
    → map (header_bytes buf) spans ≡ map name_and_value lines → map (field_at buf) spans ≡ map field_of lines
same_fields buf spans lines same =
    sym (map-map as_field (header_bytes buf) spans) ∙ ap (map as_field) same ∙ map-map as_field name_and_value lines

pub fields_fit : (buf : List ℕ) (room : List HeaderSpan) (count : ℕ) (lines : List FieldTree)
    → map (header_bytes buf) (take count room) ≡ map name_and_value lines → length lines ≤ length room
fields_fit buf room count lines same =
    let sizes : length (map (header_bytes buf) (take count room)) ≡ length (map name_and_value lines) = ap length same in
    omega (arith, sizes, length-map (take count room) (header_bytes buf), length-map lines name_and_value, length-take count room)

-- the first n are all, where there are no more
pub take_min : (n : ℕ) (xs : List ℕ) → take (min (length xs) n) xs ≡ take n xs
take_min zero xs = let none : min (length xs) 0 ≡ 0 = omega arith in ap (λ (k : ℕ). take k xs) none
take_min (suc n) [] = let none : min 0 (suc n) ≡ 0 = omega arith in ap (λ (k : ℕ). take k []) none
take_min (suc n) (x ∷ xs) =
    let less : min (length (x ∷ xs)) (suc n) ≡ suc (min (length xs) n) = omega arith in
    ap (λ (k : ℕ). take k (x ∷ xs)) less ∙ ap (λ (l : List ℕ). x ∷ l) (take_min n xs)

-- a front that isn't full is all
pub all_of : (bytes front : List ℕ) → front ≡ take 32768 bytes → length front < 32768 → (length bytes < 32768) × (front ≡ bytes)
all_of bytes front is short =
    let fewer : length bytes < 32768 = omega (arith, ap length is, length-take 32768 bytes) in
    (fewer, is ∙ take_all 32768 bytes (omega arith))

pub full_of : (bytes front : List ℕ) → front ≡ take 32768 bytes → 32768 ≤ length front → 32768 ≤ length bytes
full_of bytes front is full = omega (arith, ap length is, length-take 32768 bytes)
