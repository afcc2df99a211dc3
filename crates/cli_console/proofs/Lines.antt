-- Lines joined one by one.
use Rattle.std.proofs.Common.{◌≡◌, ℕ, List, [], ◌∷◌, ◌++◌, ap, sym, ◌∙◌, append_assoc}
use Rattle.std.specs.List.{join_with_byte}
use Rattle.std.proofs.lemmas.List.{append-nil}

-- lines behind a first one
abbrev pub joined_behind : List (List ℕ) → List ℕ
joined_behind [] = []
joined_behind (line ∷ lines) = 10 ∷ line ++ joined_behind lines

-- one more line
pub joined_push : (lines : List (List ℕ)) (line : List ℕ) → joined_behind (lines ++ line ∷ []) ≡ joined_behind lines ++ 10 ∷ line
joined_push [] line = ap (λ t. 10 ∷ t) (append-nil line)
joined_push (first ∷ lines) line =
    ap (λ t. 10 ∷ (first ++ t)) (joined_push lines line) ∙ ap (λ t. 10 ∷ t) (sym (append_assoc first (joined_behind lines) (10 ∷ line)))

pub joined_first : (first : List ℕ) (lines : List (List ℕ)) → join_with_byte 10 (first ∷ lines) ≡ first ++ joined_behind lines
joined_first first [] = sym (append-nil first)
joined_first first (next ∷ lines) = ap (λ t. first ++ 10 ∷ t) (joined_first next lines)

pub joined_next : (before out whole : List ℕ) (lines : List (List ℕ)) (line : List ℕ) → out ≡ before ++ joined_behind lines → whole ≡ out ++ 10 ∷ line → whole ≡ before ++ joined_behind (lines ++ line ∷ [])
joined_next before out whole lines line e w =
    w ∙ (ap (λ t. t ++ 10 ∷ line) e ∙ (append_assoc before (joined_behind lines) (10 ∷ line) ∙ ap (λ t. before ++ t) (sym (joined_push lines line))))

pub joined_whole : (before first_out out first : List ℕ) (lines : List (List ℕ)) → first_out ≡ before ++ first → out ≡ first_out ++ joined_behind lines → out ≡ before ++ join_with_byte 10 (first ∷ lines)
joined_whole before first_out out first lines f e =
    e ∙ (ap (λ t. t ++ joined_behind lines) f ∙ (append_assoc before first (joined_behind lines) ∙ ap (λ t. before ++ t) (sym (joined_first first lines))))
