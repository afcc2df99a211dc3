-- Steps of a load, one behind the others, and how much they write.
use Rattle.std.proofs.Common.{◌≡◌, ℕ, zero, suc, ◌+◌, ◌++◌, List, [], ◌∷◌, ap, sym, refl, ◌∙◌, arith, append_assoc}
use Rattle.std.proofs.lemmas.List.{append-nil}
use Rattle.session_text.specs.declared.generated.Load.{Load}
use Rattle.session_text.specs.Generated.{steps_text, step_text, behind_steps, behind_step}

-- the last of one step more
pub behind_one_more : (count : ℕ) (load : Load) → behind_steps (suc count) load ≡ behind_step (behind_steps count load)
behind_one_more zero load = refl
behind_one_more (suc count) load = behind_one_more count (behind_step load)

-- what the last of one step more writes stands at the end
pub text_one_more : (count step : ℕ) (load : Load) → steps_text (suc count) step load ≡ steps_text count step load ++ step_text (step + count) (behind_steps count load)
text_one_more zero step load =
    let e : step + 0 ≡ step = omega arith in
    append-nil (step_text step load) ∙ ap (λ n. step_text n load) (sym e)
text_one_more (suc count) step load =
    let e : (step + 1) + count ≡ step + suc count = omega arith in
    ap (λ rest. step_text step load ++ rest) (text_one_more count (step + 1) (behind_step load))
    ∙ (sym (append_assoc (step_text step load) (steps_text count (step + 1) (behind_step load)) (step_text ((step + 1) + count) (behind_steps count (behind_step load))))
    ∙ ap (λ n. (step_text step load ++ steps_text count (step + 1) (behind_step load)) ++ step_text n (behind_steps count (behind_step load))) e)

-- one step on from what so many steps have written and left
pub one_step_on : (count step : ℕ) (first load after : Load) (out new : List ℕ)
    → load ≡ behind_steps count first → out ≡ steps_text count 1 first → step ≡ count + 1
    → after ≡ behind_step load → new ≡ out ++ step_text step load
    → (after ≡ behind_steps (count + 1) first) × (new ≡ steps_text (count + 1) 1 first)
one_step_on count step first load after out new l o s a n =
    let e : suc count ≡ count + 1 = omega arith in
    let t : step ≡ 1 + count = omega (arith, s) in (
      a ∙ (ap behind_step l ∙ (sym (behind_one_more count first) ∙ ap (λ k. behind_steps k first) e)),
      n ∙ (ap (λ x. x ++ step_text step load) o
          ∙ (ap (λ k. steps_text count 1 first ++ step_text k load) t
          ∙ (ap (λ x. steps_text count 1 first ++ step_text (1 + count) x) l
          ∙ (sym (text_one_more count 1 first) ∙ ap (λ k. steps_text k 1 first) e)))),
    )
