-- The words of a task.
use Rattle.std.proofs.Common.{◌≡◌, ℕ, ◌<◌, ◌≤◌, ◌^◌, List, [], ◌∷◌, length, get_or, ap, sym, ◌∙◌, arith}
use Rattle.std.specs.Fmt.{decimal}
use Rattle.std.proofs.lemmas.Fmt.{decimal_injective}
use Rattle.measure.specs.declared.task.Task.{Task}
use Rattle.measure.specs.declared.task.Task.TheVariants.{Bodies, Tokens}
use Rattle.measure.specs.Tasks.{Says}

-- the list of one word
pub one_word : (words : List (List ℕ)) (word : List ℕ) → 1 ≤ length words → length words < 2 → word ≡ get_or words 0 word → words ≡ word ∷ []
one_word [] word least most is = absurd (omega arith)
one_word (x ∷ y ∷ rest) word least most is = absurd (omega arith)
one_word (x ∷ []) word least most is = ap (λ (w : List ℕ). w ∷ []) (sym is)

-- pieces of no bytes are no task
pub no_pieces : (word shape piece : List ℕ) (n : ℕ) (task : Task) → n ≡ 0 → n < 2 ^ 64 → piece ≡ decimal n → ¬ (Says (word ∷ shape ∷ piece ∷ []) task)
no_pieces word shape piece n (Bodies s p) none fits is says =
    let same : piece ≡ says.0 = cc in
    let zero : n ≡ p = decimal_injective n p fits says.2.0 (sym is ∙ same ∙ says.2.1) in
    omega (arith, zero, none, says.3)
no_pieces word shape piece n Tokens none fits is says = omega (arith, ap length says)
