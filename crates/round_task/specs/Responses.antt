-- Which programs texts have, and what a round of one wants.
use Rattle.std.specs.Prelude.{⊤, ℕ, List, [], ◌∷◌, Option, Some, None}
use Rattle.cache_law.specs.declared.call.Reply.{Reply}
use Rattle.cache_law.specs.declared.call.Reply.TheVariants.{Began}
use Rattle.cache_law.specs.declared.rounds.Given.{Given}
use Rattle.cache_law.specs.declared.rounds.Given.TheVariants as given
use Rattle.cache_law.specs.declared.rounds.Request.{Request}
use Rattle.vcl_runs.specs.Evaluators.{Evaluator}
use Rattle.round_task.specs.declared.want.Want.{Want}
use Rattle.round_task.specs.Rounds.{Wants}

-- the text that the round's Begin was told
abbrev pub text_told : Reply → Option (List ℕ)
text_told (Began number vcl text) = Some text
text_told other = None

abbrev pub text_given : Given → Option (List ℕ)
text_given (given.Reply told) = text_told told.reply
text_given other = None

-- the text that the first given told, which is the last of the list
abbrev pub text_in : List Given → Option (List ℕ)
text_in [] = None
text_in (first ∷ []) = text_given first
text_in (given ∷ other ∷ givens) = text_in (other ∷ givens)

-- What a round of the request from the peer wants after these givens, its random directors choosing by words that are of this kind.
abbrev pub WantsBy : Evaluator → (Option ℕ → Type 0) → Request → List ℕ → List Given → Want → Type 0
WantsBy e words request peer givens want = (drawn : Option ℕ) × words drawn × Wants e drawn request peer givens want

-- any word at all
abbrev pub AnyWord : Option ℕ → Type 0
AnyWord drawn = ⊤
