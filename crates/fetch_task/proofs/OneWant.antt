-- After the same givens a fetch stands at one place and wants one thing.
use Rattle.std.proofs.Common.{◌≡◌, ℕ, List, [], ◌∷◌, refl, sym, ◌∙◌, ap, subst}
use Rattle.std.specs.Prelude.{⊤}
use Rattle.directors.specs.declared.director.DirectorKind.{DirectorKind}
use Rattle.directors.specs.declared.director.DirectorKind.TheVariants as director
use Rattle.cache_law.specs.declared.call.Call.TheVariants as call
use Rattle.directors.specs.declared.target.Target.{Target}
use Rattle.cache_law.specs.declared.rounds.FetchOutcome.TheVariants.{Failed}
use Rattle.cache_law.specs.declared.rounds.Given.{Given}
use Rattle.vcl_context.specs.declared.turn.Turn.{Turn}
use Rattle.vcl_context.specs.declared.turn.Turn.TheVariants as turn
use Rattle.vcl_runs.specs.Runs.{Ran, begun}
use Rattle.fetch_graph.specs.declared.fetch.Fetch.{Fetch}
use Rattle.fetch_graph.specs.declared.fetch.State.{State}
use Rattle.fetch_graph.specs.declared.fetch.WaitPoint.{WaitPoint}
use Rattle.fetch_graph.specs.declared.fetch.WaitPoint.TheVariants as point
use Rattle.fetch_graph.specs.declared.fetch.Next.{Next}
use Rattle.fetch_graph.specs.declared.fetch.Next.TheVariants.{Enter, Rest}
use Rattle.fetch_graph.specs.declared.fetch.FetchWant.{FetchWant}
use Rattle.fetch_graph.specs.declared.fetch.FetchWant.TheVariants.{Cache, Done}
use Rattle.fetch_graph.specs.Graph.{subroutine_of, leads}
use Rattle.fetch_graph.specs.Wants.{asks, key_text, word_for}
use Rattle.fetch_task.specs.Fetches.{Settles, rests, ends, asked, goes_on, Reaches, target_at, Wants}
use Rattle.vcl_runs.specs.Evaluators.{Evaluator}
use Rattle.fetch_task.specs.Laws.{with_word, word_for as chosen_word}

abbrev pub OneTurn : Evaluator → Type 0
OneTurn e = (ran : Ran) (one other : Turn) → e.turns ran one → e.turns ran other → other ≡ one

-- what lies behind a turn that ended
abbrev BehindEnd : Evaluator → State → Fetch → Next → Turn → Type 0
BehindEnd e s f place (turn.End word left) = Settles e (leads s word left f) place
BehindEnd e s f place (turn.Need command) = ⊥

abbrev IsEnd : Turn → Type 0
IsEnd (turn.End word left) = ⊤
IsEnd (turn.Need command) = ⊥

pub settles-one : (e : Evaluator) → OneTurn e → {next p q : Next} → Settles e next p → Settles e next q → q ≡ p
settles-one e o (rests point fetch) (rests other later) = refl
settles-one e o {q = q} (ends {state = s} {context = c} {fetch = f} word left t p) (ends other later u r) =
    settles-one e o p (subst (BehindEnd e s f q) (o (begun (subroutine_of s) c) (turn.End word left) (turn.End other later) t u) r)
settles-one e o (ends {state = s} {context = c} word left t p) (asked command u r) =
    absurd (subst IsEnd (o (begun (subroutine_of s) c) (turn.Need command) (turn.End word left) u t) tt)
settles-one e o (asked {state = s} {context = c} command t p) (ends word left u r) =
    absurd (subst IsEnd (o (begun (subroutine_of s) c) (turn.Need command) (turn.End word left) t u) tt)
settles-one e o (asked command t p) (asked other u r) = settles-one e o p r

pub reaches-one : (e : Evaluator) → OneTurn e → (opening : Next) (givens : List Given) (p q : Next) → Reaches e opening givens p → Reaches e opening givens q → q ≡ p
reaches-one e o opening [] p q h k = k ∙ sym h
reaches-one e o opening (given ∷ givens) p q h k =
    let same : k.0 ≡ h.0 = reaches-one e o opening givens h.0 k.0 h.1 k.1 in
    settles-one e o h.2 (subst (λ (x : Next). Settles e (goes_on x given) q) same k.2)

-- what is wanted at a place
abbrev wanted : Evaluator → ℕ → Next → FetchWant
wanted e drawn (Rest point fetch) = asks (target_at e point) drawn fetch point
wanted e drawn (Enter state context fetch) = Done Failed

pub wants-one : (e : Evaluator) → OneTurn e → (opening : Next) (givens : List Given) (drawn : ℕ) (one other : FetchWant)
    → Wants e drawn opening givens one → Wants e drawn opening givens other → other ≡ one
wants-one e o opening givens drawn one other p q =
    let same : Rest q.0 q.1 ≡ Rest p.0 p.1 = reaches-one e o opening givens (Rest p.0 p.1) (Rest q.0 q.1) p.2 q.2 in
    q.3 ∙ ap (wanted e drawn) same ∙ sym p.3

-- another word
word-again : (k : DirectorKind) (text : List ℕ) (drawn redrawn : ℕ) → word_for k text redrawn ≡ chosen_word k (word_for k text drawn) redrawn
word-again director.Random text drawn redrawn = refl
word-again director.Hash text drawn redrawn = refl
word-again director.One text drawn redrawn = refl
word-again director.RoundRobin text drawn redrawn = refl
word-again director.Fallback text drawn redrawn = refl

asks-again : (t : Target) (drawn redrawn : ℕ) (f : Fetch) (s : WaitPoint) → asks t redrawn f s ≡ with_word redrawn (asks t drawn f s)
asks-again t drawn redrawn f (point.Pick c) =
    ap (λ (w : ℕ). Cache (call.Pick f.order.vcl t w)) (word-again t.kind (key_text c.fetch_request.backend) drawn redrawn)
asks-again t drawn redrawn f (point.Ask c) = refl
asks-again t drawn redrawn f (point.Insert i c) = refl
asks-again t drawn redrawn f point.Drop = refl
asks-again t drawn redrawn f (point.Over outcome) = refl

pub words-one : (e : Evaluator) → OneTurn e → (opening : Next) (givens : List Given) (drawn redrawn : ℕ) (one other : FetchWant)
    → Wants e drawn opening givens one → Wants e redrawn opening givens other → other ≡ with_word redrawn one
words-one e o opening givens drawn redrawn one other p q =
    let again : Wants e redrawn opening givens (asks (target_at e p.0) redrawn p.1 p.0) = (p.0, p.1, p.2, refl) in
    wants-one e o opening givens redrawn (asks (target_at e p.0) redrawn p.1 p.0) other again q
    ∙ asks-again (target_at e p.0) drawn redrawn p.1 p.0 ∙ ap (with_word redrawn) (sym p.3)
