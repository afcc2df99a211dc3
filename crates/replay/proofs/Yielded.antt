-- A list whose items are taken one after another from its front.
use Rattle.std.proofs.Common.{◌≡◌, ℕ, List, [], ◌∷◌, ◌++◌, ◌+◌, length, refl, sym, ◌∙◌, ap, arith}
use Rattle.std.proofs.lemmas.List.{append-nil, append_assoc}

-- one more is taken
pub one_taken : {X : Type 0} (taken left after all : List X) (x : X) → taken ++ left ≡ all → left ≡ x ∷ after → (taken ++ x ∷ []) ++ after ≡ all
one_taken taken left after all x are next = append_assoc taken (x ∷ []) after ∙ (ap (λ (xs : List _). taken ++ xs) (sym next) ∙ are)

-- where it stood among them
pub stood_between : {X : Type 0} (taken left after all : List X) (x : X) → taken ++ left ≡ all → left ≡ x ∷ after → all ≡ taken ++ x ∷ after
stood_between taken left after all x are next = sym are ∙ ap (λ (xs : List _). taken ++ xs) next

none_left : {X : Type 0} (left : List X) → length left ≡ 0 → left ≡ []
none_left [] short = refl
none_left (x ∷ xs) short = absurd (omega arith)

-- all are taken
pub all_taken : {X : Type 0} (taken left all : List X) (count : ℕ) → taken ++ left ≡ all → count ≡ length left → count ≡ 0 → taken ≡ all
all_taken taken left all count are counts none =
    sym (append-nil taken) ∙ (ap (λ (xs : List _). taken ++ xs) (sym (none_left left (sym counts ∙ none))) ∙ are)

-- how many are left
pub one_less : {X : Type 0} (left after : List X) (x : X) (count less : ℕ) → left ≡ x ∷ after → count ≡ length left → count ≡ less + 1 → less ≡ length after
one_less left after x count less next counts gone =
    let short : length left ≡ length (x ∷ after) = ap (λ (xs : List _). length xs) next in
    omega (arith, short, counts, gone)
