-- What a round wants by one evaluator it wants by each that is like it.
use Rattle.std.proofs.Common.{◌≡◌, ℕ, List, [], ◌∷◌, Option, refl, sym, ◌∙◌, ap, subst}
use Rattle.std.proofs.Math.Path.{fun_ext}
use Rattle.vcl_values.specs.declared.value.Backend.{Backend}
use Rattle.vcl_context.specs.declared.turn.Turn.{Turn}
use Rattle.vcl_runs.specs.Runs.{Ran}
use Rattle.cache_law.specs.declared.rounds.Given.{Given}
use Rattle.cache_law.specs.declared.rounds.Request.{Request}
use Rattle.directors.specs.declared.target.Target.{Target}
use Rattle.client_graph.specs.declared.round.Next.{Next as ClientNext}
use Rattle.client_graph.specs.declared.round.ClientWant.{ClientWant}
use Rattle.client_task.specs.Rounds.{Evaluator as ClientEvaluator, Node as ClientNode, Step, Settles as ClientSettles, rests as client-rests, enters, ends as client-ends, stops, skips, Reaches as ClientReaches, Wants as ClientWants}
use Rattle.fetch_graph.specs.declared.fetch.Next.{Next as FetchNext}
use Rattle.fetch_graph.specs.declared.fetch.WaitPoint.{WaitPoint}
use Rattle.fetch_graph.specs.declared.fetch.WaitPoint.TheVariants as point
use Rattle.fetch_graph.specs.declared.fetch.FetchWant.{FetchWant}
use Rattle.fetch_graph.specs.Wants.{asks as fetch-asks}
use Rattle.fetch_task.specs.Fetches.{Settles as FetchSettles, rests as fetch-rests, ends as fetch-ends, asked as fetch-asked, Reaches as FetchReaches, target_at, Wants as FetchWants}
use Rattle.vcl_runs.specs.Evaluators.{Evaluator, IsLike}
use Rattle.round_task.specs.declared.want.Want.{Want}
use Rattle.round_task.specs.Rounds.{for_client, Node, Flow, Settles, passes, orders, asks, returns, passes_back, breaks, ends, Reaches, Wants}

-- the evaluator with these turns
abbrev with_turns : Evaluator → (Ran → Turn → Type 0) → Evaluator
with_turns e t = record { turns = t; target = e.target; otherwise = e.otherwise }

abbrev client_with : ClientEvaluator → (Ran → Turn → Type 0) → ClientEvaluator
client_with e t = record { turns = t; target = e.target }

-- ---- a client

client-settles : (e : ClientEvaluator) (t : Ran → Turn → Type 0) → ((ran : Ran) (turn : Turn) → e.turns ran turn → t ran turn)
    → {step : Step} {n : ClientNode} {w : ClientWant} → ClientSettles e step n w → ClientSettles (client_with e t) step n w
client-settles e t up (client-rests point round) = client-rests point round
client-settles e t up (enters p) = enters (client-settles e t up p)
client-settles e t up (client-ends word context h p) = client-ends word context (up _ _ h) (client-settles e t up p)
client-settles e t up (stops command asked call h is) = stops command asked call (up _ _ h) is
client-settles e t up (skips command h mute p) = skips command (up _ _ h) mute (client-settles e t up p)

client-reaches : (e : ClientEvaluator) (t : Ran → Turn → Type 0) → ((ran : Ran) (turn : Turn) → e.turns ran turn → t ran turn)
    → (start : ClientNext) (givens : List Given) (n : ClientNode) → ClientReaches e start givens n → ClientReaches (client_with e t) start givens n
client-reaches e t up start [] n p = p
client-reaches e t up start (g ∷ givens) n p = (p.0, p.1, client-reaches e t up start givens p.0 p.2, client-settles e t up p.3)

client-wants : (e : ClientEvaluator) (t : Ran → Turn → Type 0) → ((ran : Ran) (turn : Turn) → e.turns ran turn → t ran turn)
    → (start : ClientNext) (givens : List Given) (w : ClientWant) → ClientWants e start givens w → ClientWants (client_with e t) start givens w
client-wants e t up start [] w p = absurd p
client-wants e t up start (g ∷ givens) w p = (p.0, p.1, client-reaches e t up start givens p.0 p.2, client-settles e t up p.3)

-- ---- a fetch

fetch-settles : (e : Evaluator) (t : Ran → Turn → Type 0) → ((ran : Ran) (turn : Turn) → e.turns ran turn → t ran turn)
    → {next place : FetchNext} → FetchSettles e next place → FetchSettles (with_turns e t) next place
fetch-settles e t up (fetch-rests point fetch) = fetch-rests point fetch
fetch-settles e t up (fetch-ends word left h p) = fetch-ends word left (up _ _ h) (fetch-settles e t up p)
fetch-settles e t up (fetch-asked command h p) = fetch-asked command (up _ _ h) (fetch-settles e t up p)

fetch-reaches : (e : Evaluator) (t : Ran → Turn → Type 0) → ((ran : Ran) (turn : Turn) → e.turns ran turn → t ran turn)
    → (start : FetchNext) (givens : List Given) (place : FetchNext) → FetchReaches e start givens place → FetchReaches (with_turns e t) start givens place
fetch-reaches e t up start [] place p = p
fetch-reaches e t up start (g ∷ givens) place p = (p.0, fetch-reaches e t up start givens p.0 p.1, fetch-settles e t up p.2)

target-same : (e : Evaluator) (t : Ran → Turn → Type 0) (s : WaitPoint) → target_at e s ≡ target_at (with_turns e t) s
target-same e t (point.Pick context) = refl
target-same e t s = refl

fetch-wants : (e : Evaluator) (t : Ran → Turn → Type 0) → ((ran : Ran) (turn : Turn) → e.turns ran turn → t ran turn)
    → (drawn : ℕ) (start : FetchNext) (givens : List Given) (w : FetchWant) → FetchWants e drawn start givens w → FetchWants (with_turns e t) drawn start givens w
fetch-wants e t up drawn start givens w p =
    (p.0, p.1, fetch-reaches e t up start givens _ p.2, p.3 ∙ ap (λ (x : Target). fetch-asks x drawn p.1 p.0) (target-same e t p.0))

-- ---- and so their round

settles-more : (e : Evaluator) (t : Ran → Turn → Type 0) → ((ran : Ran) (turn : Turn) → e.turns ran turn → t ran turn)
    → {drawn : Option ℕ} {flow : Flow} {n : Node} {w : Want} → Settles e drawn flow n w → Settles (with_turns e t) drawn flow n w
settles-more e t up (passes asked q k) = passes asked (client-wants (for_client e) t up _ _ asked q) k
settles-more e t up (orders asked order q k later) = orders asked order (client-wants (for_client e) t up _ _ asked q) k (settles-more e t up later)
settles-more e t up (asks asked q k) = asks asked (fetch-wants e t up _ _ _ asked q) k
settles-more e t up (returns asked outcome q k later) = returns asked outcome (fetch-wants e t up _ _ _ asked q) k (settles-more e t up later)
settles-more e t up (passes_back asked q k) = passes_back asked (client-wants (for_client e) t up _ _ asked q) k
settles-more e t up (breaks asked order q k) = breaks asked order (client-wants (for_client e) t up _ _ asked q) k
settles-more e t up ends = ends

reaches-more : (e : Evaluator) (t : Ran → Turn → Type 0) → ((ran : Ran) (turn : Turn) → e.turns ran turn → t ran turn)
    → (request : Request) (peer : List ℕ) (givens : List Given) (n : Node) → Reaches e request peer givens n → Reaches (with_turns e t) request peer givens n
reaches-more e t up request peer [] n p = p
reaches-more e t up request peer (g ∷ givens) n p = (p.0, p.1, p.2, reaches-more e t up request peer givens p.0 p.3, settles-more e t up p.4)

wants-more : (e : Evaluator) (t : Ran → Turn → Type 0) → ((ran : Ran) (turn : Turn) → e.turns ran turn → t ran turn)
    → (drawn : Option ℕ) (request : Request) (peer : List ℕ) (givens : List Given) (w : Want) → Wants e drawn request peer givens w → Wants (with_turns e t) drawn request peer givens w
wants-more e t up drawn request peer [] w p = p
wants-more e t up drawn request peer (g ∷ givens) w p = (p.0, p.1, reaches-more e t up request peer givens p.0 p.2, settles-more e t up p.3)

pub wants-like : (e f : Evaluator) → IsLike e f → (drawn : Option ℕ) (request : Request) (peer : List ℕ) (givens : List Given) (w : Want)
    → Wants e drawn request peer givens w → Wants f drawn request peer givens w
wants-like e f like drawn request peer givens w p =
    subst (λ (x : Target). Wants (record { turns = f.turns; target = f.target; otherwise = x }) drawn request peer givens w) (sym like.otherwise)
    (subst (λ (x : Backend → Option Target). Wants (record { turns = f.turns; target = x; otherwise = e.otherwise }) drawn request peer givens w) (sym (fun_ext like.targets))
    (wants-more e f.turns like.turns drawn request peer givens w p))
