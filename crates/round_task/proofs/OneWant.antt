-- After the same givens a round stands at one place and wants one thing. Where it stands doesn't hang on the words that were drawn.
use Rattle.std.proofs.Common.{◌≡◌, ℕ, List, [], ◌∷◌, Option, Some, None, refl, sym, ◌∙◌, ap, subst}
use Rattle.cache_law.specs.declared.call.Call.TheVariants as call
use Rattle.cache_law.specs.declared.rounds.FetchOutcome.{FetchOutcome}
use Rattle.cache_law.specs.declared.rounds.Given.{Given}
use Rattle.cache_law.specs.declared.rounds.Given.TheVariants as given
use Rattle.cache_law.specs.declared.rounds.Order.{Order}
use Rattle.cache_law.specs.declared.rounds.Request.{Request}
use Rattle.client_graph.specs.declared.round.ClientWant.{ClientWant}
use Rattle.client_task.proofs.OneWant.{wants-one as client-one}
use Rattle.fetch_graph.specs.declared.fetch.FetchWant.{FetchWant}
use Rattle.fetch_graph.specs.declared.fetch.FetchWant.TheVariants as fetch
use Rattle.fetch_graph.specs.Opening.{opening}
use Rattle.fetch_task.specs.Fetches.{Wants as FetchWants}
use Rattle.vcl_runs.specs.Evaluators.{Evaluator}
use Rattle.fetch_task.specs.Laws.{with_word}
use Rattle.fetch_task.proofs.OneWant.{OneTurn, wants-one as fetch-one, words-one as fetch-words}
use Rattle.round_task.specs.declared.want.Want.{Want}
use Rattle.round_task.specs.declared.want.Passed.TheVariants.{Wanted, Ordered}
use Rattle.round_task.specs.declared.want.Made.{Made}
use Rattle.round_task.specs.declared.want.Made.TheVariants as made
use Rattle.round_task.specs.Rounds.{for_client, word_of, want_of_client, made_of, Node, Flow, BackToClient, ToFetch, Settles, passes, orders, asks, returns, passes_back, breaks, ends, flow_of, Reaches, Wants}

pub wanted-same : {x y : Want} → Wanted x ≡ Wanted y → x ≡ y
wanted-same h = cc

pub ordered-same : {x y : Order} → Ordered x ≡ Ordered y → x ≡ y
ordered-same h = cc

pub wanted-ordered : {x : Want} {y : Order} → Wanted x ≡ Ordered y → ⊥
wanted-ordered h = cc

pub made-same : {x y : Want} → made.Wanted x ≡ made.Wanted y → x ≡ y
made-same h = cc

some-same : {A : Type 0} {x y : A} → Some x ≡ Some y → x ≡ y
some-same h = cc

none-some : {A : Type 0} {y : A} → None ≡ Some y → ⊥
none-some h = cc

-- the outcome of a fetch that is over
abbrev over_in : Made → Option FetchOutcome
over_in (made.Wanted want) = None
over_in (made.Over outcome) = Some outcome

-- it doesn't hang on a drawn word
over-word : (number word : ℕ) (w : FetchWant) → over_in (made_of number (with_word word w)) ≡ over_in (made_of number w)
over-word number word (fetch.Cache (call.Pick vcl target chosen)) = refl
over-word number word w = refl

over-same : (e : Evaluator) → OneTurn e → (number d d2 : ℕ) (order : Order) (told : List Given) (a b : FetchWant)
    → FetchWants e d (opening order) told a → FetchWants e d2 (opening order) told b → over_in (made_of number b) ≡ over_in (made_of number a)
over-same e o number d d2 order told a b p q =
    ap (λ (x : FetchWant). over_in (made_of number x)) (fetch-words e o (opening order) told d d2 a b p q) ∙ over-word number d2 a

pub settles-one : (e : Evaluator) → OneTurn e → {d d2 : Option ℕ} {flow : Flow} {n m : Node} {w v : Want}
    → Settles e d flow n w → Settles e d2 flow m v → (m ≡ n) × (d2 ≡ d → v ≡ w)
settles-one e o (passes {start = s} {givens = gs} a p h) (passes b q k) =
    let same : b ≡ a = client-one (for_client e) o s gs a b p q in
    (refl, λ drawn. wanted-same (sym k ∙ ap (λ (x : ClientWant). want_of_client x) same ∙ h))
settles-one e o (passes {start = s} {givens = gs} a p h) (orders b order q k later) =
    let same : b ≡ a = client-one (for_client e) o s gs a b p q in
    absurd (wanted-ordered (sym h ∙ ap (λ (x : ClientWant). want_of_client x) (sym same) ∙ k))
settles-one e o (orders {start = s} {givens = gs} a order p h later) (passes b q k) =
    let same : b ≡ a = client-one (for_client e) o s gs a b p q in
    absurd (wanted-ordered (sym k ∙ ap (λ (x : ClientWant). want_of_client x) same ∙ h))
settles-one e o {d2 = d2} {m = m} {v = v} (orders {start = s} {givens = gs} a order p h later) (orders b other q k further) =
    let same : b ≡ a = client-one (for_client e) o s gs a b p q in
    let one : other ≡ order = ordered-same (sym k ∙ ap (λ (x : ClientWant). want_of_client x) same ∙ h) in
    settles-one e o later (subst (λ (x : Order). Settles e d2 (ToFetch s gs x (given.Start ∷ [])) m v) one further)
settles-one e o {d = d} (asks {order = order} {told = told} a p h) (asks b q k) = (
  refl,
  λ drawn. made-same (sym k ∙ ap (λ (x : FetchWant). made_of order.number x)
      (fetch-one e o (opening order) told (word_of d order.number) a b p (subst (λ (x : Option ℕ). FetchWants e (word_of x order.number) (opening order) told b) drawn q)) ∙ h),
)
settles-one e o {d = d} {d2 = d2} (asks {start = s} {order = order} {told = told} a p h) (returns b outcome q k later) =
    absurd (none-some (sym (ap (λ (x : Made). over_in x) h) ∙ sym (over-same e o order.number (word_of d order.number) (word_of d2 order.number) order told a b p q) ∙ ap (λ (x : Made). over_in x) k))
settles-one e o {d = d} {d2 = d2} (returns {start = s} {order = order} {told = told} a outcome p h later) (asks b q k) =
    absurd (none-some (sym (ap (λ (x : Made). over_in x) k) ∙ over-same e o order.number (word_of d order.number) (word_of d2 order.number) order told a b p q ∙ ap (λ (x : Made). over_in x) h))
settles-one e o {d = d} {d2 = d2} {m = m} {v = v} (returns {start = s} {givens = gs} {order = order} {told = told} a outcome p h later) (returns b other q k further) =
    let one : other ≡ outcome = some-same (sym (ap (λ (x : Made). over_in x) k)
    ∙ over-same e o order.number (word_of d order.number) (word_of d2 order.number) order told a b p q ∙ ap (λ (x : Made). over_in x) h) in
    settles-one e o later (subst (λ (x : FetchOutcome). Settles e d2 (BackToClient s (given.Fetched x ∷ gs)) m v) one further)
settles-one e o (passes_back {start = s} {givens = gs} a p h) (passes_back b q k) =
    let same : b ≡ a = client-one (for_client e) o s gs a b p q in
    (refl, λ drawn. wanted-same (sym k ∙ ap (λ (x : ClientWant). want_of_client x) same ∙ h))
settles-one e o (passes_back {start = s} {givens = gs} a p h) (breaks b order q k) =
    let same : b ≡ a = client-one (for_client e) o s gs a b p q in
    absurd (wanted-ordered (sym h ∙ ap (λ (x : ClientWant). want_of_client x) (sym same) ∙ k))
settles-one e o (breaks {start = s} {givens = gs} a order p h) (passes_back b q k) =
    let same : b ≡ a = client-one (for_client e) o s gs a b p q in
    absurd (wanted-ordered (sym k ∙ ap (λ (x : ClientWant). want_of_client x) same ∙ h))
settles-one e o (breaks asked order p h) (breaks again other q k) = (refl, λ drawn. refl)
settles-one e o ends ends = (refl, λ drawn. refl)

pub reaches-one : (e : Evaluator) → OneTurn e → (request : Request) (peer : List ℕ) (givens : List Given) (n m : Node)
    → Reaches e request peer givens n → Reaches e request peer givens m → m ≡ n
reaches-one e o request peer [] n m p q = q ∙ sym p
reaches-one e o request peer (g ∷ givens) n m p q =
    let same : q.0 ≡ p.0 = reaches-one e o request peer givens p.0 q.0 p.3 q.3 in
    (settles-one e o p.4 (subst (λ (x : Node). Settles e q.1 (flow_of x g) m q.2) same q.4)).0

pub wants-one : (e : Evaluator) → OneTurn e → (drawn : Option ℕ) (request : Request) (peer : List ℕ) (givens : List Given) (one other : Want)
    → Wants e drawn request peer givens one → Wants e drawn request peer givens other → other ≡ one
wants-one e o drawn request peer [] one other p q = q ∙ sym p
wants-one e o drawn request peer (g ∷ givens) one other p q =
    let same : q.0 ≡ p.0 = reaches-one e o request peer givens p.0 q.0 p.2 q.2 in
    (settles-one e o p.3 (subst (λ (x : Node). Settles e drawn (flow_of x g) q.1 other) same q.3)).1 refl
