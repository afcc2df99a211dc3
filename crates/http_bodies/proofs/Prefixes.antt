-- Two readings of the front of a text.
use Rattle.std.proofs.Common.{◌≡◌, ℕ, zero, suc, ◌≤◌, List, [], ◌∷◌, ◌++◌, length, take, refl, sym, ap, arith}

-- the longer front begins with the shorter
pub prefix_split : (d text s tail : List ℕ) → d ++ text ≡ s ++ tail → length d ≤ length s
    → (rest : List ℕ) × (s ≡ d ++ rest) × (text ≡ rest ++ tail)
prefix_split [] text s tail same shorter = (s, refl, same)
prefix_split (x ∷ d) text [] tail same shorter = absurd (omega arith)
prefix_split (x ∷ d) text (y ∷ s) tail same shorter =
    let head : x ≡ y = cc in
    let rests : d ++ text ≡ s ++ tail = cc in
    let inner = prefix_split d text s tail rests (omega arith) in
    (inner.0, (λ i. sym head i ∷ inner.1 i), inner.2)

pub nothing : (xs : List ℕ) → length xs ≡ 0 → xs ≡ []
nothing [] none = refl
nothing (x ∷ xs) none = absurd (omega arith)

-- a front of the first list
pub take_within : (n : ℕ) (xs more : List ℕ) → n ≤ length xs → take n (xs ++ more) ≡ take n xs
take_within zero xs more within = refl
take_within (suc n) [] more within = absurd (omega (arith, within))
take_within (suc n) (x ∷ xs) more within = ap (λ (l : List ℕ). x ∷ l) (take_within n xs more (omega (arith, within)))
