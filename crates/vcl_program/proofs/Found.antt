-- Where a name stands in a list of names.
use Rattle.std.proofs.Common.{◌≡◌, ℕ, ◌<◌, ◌≤◌, zero, suc, nat_lt, Bool, true, false, not, ◌+◌, cond, length, List, [], ◌∷◌, refl, sym, ap, ◌∙◌, position, Option, Some, None, slice_get, get_or, map, option_map, arith}
use Rattle.std.proofs.lemmas.Bool.Decides.{nat_tests}
use Rattle.std.specs.Prelude.{Contains}
use Rattle.std.specs.List.{position_or_len}
use Rattle.std.specs.Str.{bytes_eq}
use Rattle.std.proofs.lemmas.List.{length-map}
use Rattle.std.proofs.lemmas.List.Quantifiers.{position-Some}
use Rattle.std.proofs.lemmas.Option.{slice_get_within, slice_get-get_or, slice_get-map}
use Rattle.std.proofs.lemmas.Slice.Eq.{bytes_eq-Decides}

none-some : {A : Type 0} (x : A) → None ≡ Some x → ⊥
none-some x e = cc

pub some-some : {A : Type 0} (x y : A) → Some x ≡ Some y → x ≡ y
some-some x y e = cc

-- what passes is found no later than where it stands
len-later : (b : Bool) (n i : ℕ) → n ≤ i → cond (not b) (1 + n) 0 ≤ suc i
len-later true n i h = omega arith
len-later false n i h = omega (arith, h)

len-early : {A : Type 0} (p : A → Bool) (xs : List A) (i : ℕ) (x : A) → slice_get xs i ≡ Some x → p x ≡ true → position_or_len p xs ≤ i
len-early p [] i x at e = absurd (none-some x at)
len-early p (y ∷ ys) zero x at e = let found : p y ≡ true = ap p (some-some y x at) ∙ e in rw (found) (omega arith)
len-early p (y ∷ ys) (suc i) x at e = len-later (p y) (position_or_len p ys) i (len-early p ys i x at e)

bytes-same : (xs : List ℕ) → bytes_eq xs xs ≡ true
bytes-same xs = (bytes_eq-Decides xs xs).1 refl

same-bytes : (xs ys : List ℕ) → bytes_eq xs ys ≡ true → xs ≡ ys
same-bytes xs ys e = (bytes_eq-Decides xs ys).0 e

some-if : (n size : ℕ) → n < size → cond (nat_lt n size) (Some n) None ≡ Some n
some-if n size h = let low : nat_lt n size ≡ true = grind (arith, nat_tests) in rw (low) refl

-- a name that stands at a place is found there or before it
pub found-by : (key : List ℕ) (keys : List (List ℕ)) (i : ℕ) → slice_get keys i ≡ Some key → (k : ℕ) × (position (λ other. bytes_eq key other) keys ≡ Some k) × (k ≤ i)
found-by key keys i at =
    let p : List ℕ → Bool = λ other. bytes_eq key other in
    let early : position_or_len p keys ≤ i = len-early p keys i key at (bytes-same key) in
    let within : i < length keys = slice_get_within keys i key at in
    (position_or_len p keys, some-if (position_or_len p keys) (length keys) (omega (arith, early, within)), early)

-- what is found under a name is the name
pub found-is : (key : List ℕ) (keys : List (List ℕ)) (k : ℕ) → position (λ other. bytes_eq key other) keys ≡ Some k → slice_get keys k ≡ Some key
found-is key keys k e =
    let x = position-Some (λ other. bytes_eq key other) keys k key e in
    slice_get-get_or keys k key x.0 ∙ ap (λ (n : List ℕ). Some n) (sym (same-bytes key (get_or keys k key) x.1))

-- a name of the list is found
pub found-there : (key : List ℕ) (keys : List (List ℕ)) → Contains keys key → position (λ other. bytes_eq key other) keys ≡ None → ⊥
found-there key keys c none =
    let at : slice_get keys c.0 ≡ Some key = slice_get-get_or keys c.0 key c.1 ∙ ap (λ (n : List ℕ). Some n) c.2 in
    let f = found-by key keys c.0 at in
    none-some f.0 (sym none ∙ f.1)

-- a place of a list whose numbers stand for the items of another one
same-option : (x o : Option (List ℕ)) → Some x ≡ option_map (λ s. Some s) o → x ≡ o
same-option x None e = absurd (none-some x (sym e))
same-option x (Some s) e = some-some x (Some s) e

pub at-number : (texts sources : List (List ℕ)) (numbers : List ℕ) (i n : ℕ) → map (λ k. slice_get texts k) numbers ≡ map (λ s. Some s) sources → i < length numbers
    → n ≡ get_or numbers i n → slice_get texts n ≡ slice_get sources i
at-number texts sources numbers i n e l at =
    let here : slice_get numbers i ≡ Some n = slice_get-get_or numbers i n l ∙ ap (λ (k : ℕ). Some k) (sym at) in
    let mine : slice_get (map (λ k. slice_get texts k) numbers) i ≡ Some (slice_get texts n) =
    slice_get-map (λ k. slice_get texts k) numbers i ∙ ap (λ (o : Option ℕ). option_map (λ k. slice_get texts k) o) here in
    let its : slice_get (map (λ k. slice_get texts k) numbers) i ≡ option_map (λ s. Some s) (slice_get sources i) =
    ap (λ (l : List (Option (List ℕ))). slice_get l i) e ∙ slice_get-map (λ s. Some s) sources i in
    same-option (slice_get texts n) (slice_get sources i) (sym mine ∙ its)

pub numbers-length : (texts sources : List (List ℕ)) (numbers : List ℕ) → map (λ k. slice_get texts k) numbers ≡ map (λ s. Some s) sources → length numbers ≡ length sources
numbers-length texts sources numbers e =
    sym (length-map numbers (λ k. slice_get texts k)) ∙ ap (λ (l : List (Option (List ℕ))). length l) e ∙ length-map sources (λ s. Some s)
