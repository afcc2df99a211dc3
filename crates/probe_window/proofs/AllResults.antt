-- A window after a result more, and after all results.
use Rattle.std.proofs.Common.{◌≡◌, ℕ, ◌+◌, ◌-◌, ◌<◌, ◌≤◌, Bool, true, false, List, [], ◌∷◌, ◌++◌, length, drop, remove, sym, ap, ◌∙◌, arith, length-append, length-drop, append_assoc, append-nil}
use Rattle.std.specs.Prelude.{fold, replicate}
use Rattle.std.proofs.lemmas.List.{drop-append-le, drop-drop, length-replicate}
use Rattle.probe_window.specs.Windows.{counted, latest, beginning, window_of, with_result}

-- a result behind the others, without the first of them
pub latest_push : (results : List Bool) (good : Bool) → 0 < length results → latest (length results) (results ++ good ∷ []) ≡ remove results 0 ++ good ∷ []
latest_push [] good l = absurd (omega arith)
latest_push (first ∷ results) good l =
    let n : length ((first ∷ results) ++ good ∷ []) - length (first ∷ results) ≡ 1 = omega (arith, length-append (first ∷ results) (good ∷ [])) in
    ap (λ k. drop k ((first ∷ results) ++ good ∷ [])) n

latest_twice : (most : ℕ) (xs : List Bool) (good : Bool) → most ≤ length xs → latest (length (latest most xs)) (latest most xs ++ good ∷ []) ≡ latest most (xs ++ good ∷ [])
latest_twice most xs good l =
    let long : length (latest most xs) ≡ length xs - (length xs - most) = length-drop (length xs - most) xs in
    let one : length (latest most xs ++ good ∷ []) - length (latest most xs) ≡ 1 = omega (arith, length-append (latest most xs) (good ∷ [])) in
    let whole : length (xs ++ good ∷ []) - most ≡ (length xs - most) + 1 = omega (arith, length-append xs (good ∷ [])) in
    ap (λ k. drop k (latest most xs ++ good ∷ [])) one
    ∙ (ap (drop 1) (sym (drop-append-le (length xs - most) xs (good ∷ []) (omega arith)))
    ∙ (drop-drop 1 (length xs - most) (xs ++ good ∷ []) ∙ ap (λ k. drop k (xs ++ good ∷ [])) (sym whole)))

all_told : (most threshold : ℕ) (xs results : List Bool) → most ≤ length xs → fold with_result (counted threshold (latest most xs)) results ≡ counted threshold (latest most (xs ++ results))
all_told most threshold xs [] l = ap (λ r. counted threshold (latest most r)) (sym (append-nil xs))
all_told most threshold xs (good ∷ results) l =
    ap (λ r. fold with_result (counted threshold r) results) (latest_twice most xs good l)
    ∙ (all_told most threshold (xs ++ good ∷ []) results (omega (arith, length-append xs (good ∷ [])))
    ∙ ap (λ r. counted threshold (latest most r)) (append_assoc xs (good ∷ []) results))

pub beginning_long : (window initial : ℕ) → initial ≤ window → length (beginning window initial) ≡ window
beginning_long window initial l =
    omega (arith, length-append (replicate (window - initial) false) (replicate initial true), length-replicate (window - initial) false, length-replicate initial true)

pub window_told : (window threshold initial : ℕ) (results : List Bool) → initial ≤ window → fold with_result (counted threshold (window_of window initial [])) results ≡ counted threshold (window_of window initial results)
window_told window threshold initial results l =
    ap (λ r. fold with_result (counted threshold (latest window r)) results) (append-nil (beginning window initial))
    ∙ all_told window threshold (beginning window initial) results (omega (arith, beginning_long window initial l))

-- what a window begins with is the window of no results
pub window_begins : (window initial : ℕ) (results : List Bool) → initial ≤ window → results ≡ beginning window initial → results ≡ window_of window initial []
window_begins window initial results l e =
    let none : length (beginning window initial ++ []) - window ≡ 0 = omega (arith, beginning_long window initial l, length-append (beginning window initial) []) in
    e ∙ (sym (append-nil (beginning window initial)) ∙ ap (λ k. drop k (beginning window initial ++ [])) (sym none))
