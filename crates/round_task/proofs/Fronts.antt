-- What happened in a round, as a list.
use Rattle.std.specs.List.{AllByRecursion}
use Rattle.std.proofs.Common.{◌≡◌, ◌≢◌, ℕ, List, [], ◌∷◌, ◌++◌, Option, refl, subst}
use Rattle.cache_law.specs.declared.call.Call.TheVariants as call
use Rattle.cache_law.specs.declared.rounds.Given.{Given}
use Rattle.cache_law.specs.declared.rounds.Request.{Request}
use Rattle.vcl_runs.specs.Evaluators.{Evaluator}
use Rattle.fetch_task.proofs.OneWant.{OneTurn}
use Rattle.round_task.specs.declared.want.Want.{Want}
use Rattle.round_task.specs.declared.want.Want.TheVariants.{Cache, Exchange, Send, Done}
use Rattle.round_task.specs.Happened.{AnswersIt, Happened, behind, Follow, IsWhole}
use Rattle.round_task.specs.Laws.{IsLast, IsEnd, BeginsOnce, EndsOnce}
use Rattle.round_task.specs.Responses.{WantsBy}
use Rattle.round_task.proofs.Wholes.{begun-once, goes-on-round, nothing-behind-round}

-- a thing more
pub one-more : (wants : List Given → Want → Type 0) (givens : List Given) (steps : List Happened) (one : Happened)
    → Follow wants givens steps → wants (behind givens steps) one.want → AnswersIt one.want one.given → Follow wants givens (steps ++ one ∷ [])
one-more wants givens [] one f w a = (w, a, tt)
one-more wants givens (first ∷ more) one f w a = (f.0, f.1, one-more wants (first.given ∷ givens) more one f.2 w a)

-- a front of a front
pub front-of : (wants : List Given → Want → Type 0) (givens : List Given) (steps more : List Happened) → Follow wants givens (steps ++ more) → Follow wants givens steps
front-of wants givens [] more f = tt
front-of wants givens (first ∷ steps) more f = (f.0, f.1, front-of wants (first.given ∷ givens) steps more f.2)

last-is-end : (w : Want) (g : Given) → AnswersIt w g → ((IsLast w → ⊥) → ⊥) → IsEnd w
last-is-end (Cache call.End) g a k = tt
last-is-end (Cache c) g a k = absurd (k (λ x. x))
last-is-end (Exchange number backend request) g a k = absurd (k (λ x. x))
last-is-end (Send delivery) g a k = absurd (k (λ x. x))
last-is-end Done g a k = absurd a

end-is-last : (w : Want) → IsEnd w → IsLast w
end-is-last (Cache call.End) h = tt
end-is-last w h = absurd h

done-unanswered : (w : Want) (g : Given) → w ≡ Done → AnswersIt w g → ⊥
done-unanswered w g d a = subst (λ (x : Want). AnswersIt x g) d a

ends-once : (e : Evaluator) → OneTurn e → (words : Option ℕ → Type 0) (request : Request) (peer : List ℕ) (givens : List Given) (one : Happened) (more : List Happened)
    → Follow (WantsBy e words request peer) givens (one ∷ more) → WantsBy e words request peer (behind givens (one ∷ more)) Done → EndsOnce (one ∷ more)
ends-once e o words request peer givens one [] f done =
    last-is-end one.want one.given f.1
    (λ n. goes-on-round e o request peer givens one.given f.0.0 done.0 one.want Done n f.1 f.0.2 done.2 refl)
ends-once e o words request peer givens one (other ∷ more) f done = (
  (λ end. done-unanswered other.want other.given
      (nothing-behind-round e o request peer givens one.given f.0.0 f.2.0.0 one.want other.want (end-is-last one.want end) f.0.2 f.2.0.2) f.2.1),
  ends-once e o words request peer (one.given ∷ givens) other more f.2 done,
)

never-again : (e : Evaluator) (words : Option ℕ → Type 0) (request : Request) (peer : List ℕ) (g : Given) (givens : List Given) (steps : List Happened)
    → Follow (WantsBy e words request peer) (g ∷ givens) steps → AllByRecursion (λ (later : Happened). later.want ≢ Cache call.Begin) steps
never-again e words request peer g givens [] f = tt
never-again e words request peer g givens (one ∷ more) f =
    (begun-once e request peer givens g f.0.0 one.want f.0.2, never-again e words request peer one.given (g ∷ givens) more f.2)

nothing-first : Done ≡ Cache call.Begin → ⊥
nothing-first h = cc

pub whole-round : (e : Evaluator) → OneTurn e → (words : Option ℕ → Type 0) (request : Request) (peer : List ℕ) (steps : List Happened)
    → IsWhole (WantsBy e words request peer) steps → BeginsOnce steps × EndsOnce steps
whole-round e o words request peer [] w = absurd (nothing-first w.1.2)
whole-round e o words request peer (one ∷ more) w =
    ((w.0.0.2, never-again e words request peer one.given [] more w.0.2), ends-once e o words request peer [] one more w.0 w.1)
