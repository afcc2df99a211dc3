use Rattle.std.proofs.Common.{◌≡◌, false, ℕ, List, MatchOption, subst}
use Rattle.varn_program.specs.Words.{Gives}
use Rattle.varn_program.proofs.Asking.{two_words}
use Rattle.varn_program.proofs.words.limits_by.Goals as goal

pub returns-in-len2 : goal.returns-in-len2
returns-in-len2 c =
    subst (λ (options : List (List ℕ)). MatchOption c.limits_by_one.result ((room history : ℕ) → Gives options room history → ⊥) (λ params. Gives options params.room params.history × (params.segments ≡ false)))
    (two_words c.args.options.now c.name-item.result c.value-item.result c.in-len2.len_at_least c.in-len2.len_below c.name-item.is c.value-item.is)
    c.limits_by_one.ensures
