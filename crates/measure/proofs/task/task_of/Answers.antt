-- One word.
use Rattle.std.proofs.Common.{◌≡◌, ◌∷◌, [], ℕ, List, sym, ◌∙◌, ap, subst, MatchOption}
use Rattle.measure.specs.declared.task.Task.{Task}
use Rattle.measure.specs.Tasks.{Says}
use Rattle.measure.proofs.Words.{one_word}
use Rattle.measure.proofs.task.task_of.Goals as goal

pub returns-in-len1 : goal.returns-in-len1
returns-in-len1 c =
    let is : c.args.words.now ≡ c.bytes.result.now ∷ [] =
    one_word c.args.words.now c.word-item.result c.in-len1.len_at_least c.in-len1.len_below c.word-item.is ∙ ap (λ (w : List ℕ). w ∷ []) (sym c.bytes.ensures) in
    subst (λ (words : List (List ℕ)). MatchOption c.tokens_task.result ((task : Task) → ¬ (Says words task)) (λ task. Says words task)) (sym is) c.tokens_task.ensures
