-- Lists of what workers leave, with one worker more.
use Rattle.std.proofs.Common.{◌≡◌, ℕ, ◌+◌, List, [], ◌∷◌, ◌++◌, map, sum_by, refl, sym, ap, ◌∙◌, arith}
use Rattle.std.proofs.lemmas.List.{append_assoc}
use Rattle.std.proofs.lemmas.List.Sums.{fold-append}

map_more : {X A : Type 0} (f : X → A) (xs : List X) (x : X) → map f (xs ++ x ∷ []) ≡ map f xs ++ f x ∷ []
map_more f [] x = refl
map_more {A = A} f (y ∷ ys) x = ap (λ (rest : List A). f y ∷ rest) (map_more f ys x)

sum_by_more : {X : Type 0} (f : X → ℕ) (xs : List X) (x : X) → sum_by f (xs ++ x ∷ []) ≡ sum_by f xs + f x
sum_by_more {X = X} f xs x = fold-append (λ (a : ℕ) (y : X). a + f y) 0 xs (x ∷ [])

pub joins_items : {X A : Type 0} (xs : List X) (x : X) (f : X → A) (start now new : List A) → now ≡ start ++ map f xs → new ≡ now ++ f x ∷ []
    → new ≡ start ++ map f (xs ++ x ∷ [])
joins_items {A = A} xs x f start now new so_far one =
    one ∙ (ap (λ (l : List A). l ++ f x ∷ []) so_far ∙ (append_assoc start (map f xs) (f x ∷ []) ∙ ap (λ (l : List A). start ++ l) (sym (map_more f xs x))))

pub joins_counts : {X : Type 0} (xs : List X) (x : X) (f : X → ℕ) (start now new : ℕ) → now ≡ start + sum_by f xs → new ≡ now + f x
    → new ≡ start + sum_by f (xs ++ x ∷ [])
joins_counts xs x f start now new so_far one =
    let more : sum_by f (xs ++ x ∷ []) ≡ sum_by f xs + f x = sum_by_more f xs x in
    let z : new ≡ start + (sum_by f xs + f x) = omega arith in
    z ∙ ap (λ (n : ℕ). start + n) (sym more)
