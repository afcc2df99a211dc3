-- Which node a place is.
use Rattle.std.specs.Prelude.{⊤}
use Rattle.std.proofs.Common.{◌≡◌, ◌≢◌, ℕ, min, List, [], ◌∷◌, Option, Some, None, refl, sym, ◌∙◌, ap, subst, arith}
use Rattle.vcl_context.specs.declared.turn.Answer.{Answer}
use Rattle.vcl_context.specs.declared.turn.Answer.TheVariants.{Number}
use Rattle.vcl_runs.specs.Runs.{Ran, answered}
use Rattle.cache_law.specs.declared.cache.Told.{Told}
use Rattle.cache_law.specs.declared.call.Reply.{Reply}
use Rattle.cache_law.specs.declared.call.Reply.TheVariants as reply
use Rattle.cache_law.specs.declared.rounds.Given.{Given}
use Rattle.cache_law.specs.declared.rounds.Given.TheVariants as gifts
use Rattle.client_graph.specs.declared.round.Round.{Round}
use Rattle.client_graph.specs.declared.round.State.{State}
use Rattle.client_graph.specs.declared.round.WaitPoint.{WaitPoint}
use Rattle.client_graph.specs.declared.round.Next.{Next}
use Rattle.client_graph.specs.Answers.{takes, over}
use Rattle.client_task.specs.declared.settling.Settled.{Settled}
use Rattle.client_task.specs.declared.place.Asked.{Asked}
use Rattle.client_task.specs.declared.place.Asked.TheVariants as kinds
use Rattle.client_task.specs.declared.place.Place.{Place}
use Rattle.client_task.specs.declared.place.Place.TheVariants as places
use Rattle.client_task.specs.Commands.{counted, answer_to}
use Rattle.client_task.specs.Rounds.{Node, Before, Inside, Between, Step, Runs, Moves, Evaluator, goes_on, step_of, Wants}
use Rattle.client_task.specs.Standing.{IsReady, IsAt, StandsAt, SettlesAt, MayGoOn}

-- what is to be shown of a place at each node that it is
abbrev pub AtEachNode : {M : Type 0} → (M → Ran → Type 0) → (M → Answer → Type 0) → Place M → (Node → Type 0) → Type 0
AtEachNode stands fits place P = (node : Node) → IsAt stands fits place node → P node

pub at-before : {M : Type 0} (stands : M → Ran → Type 0) (fits : M → Answer → Type 0) (next : Next) (P : Node → Type 0)
    → P (Before next) → AtEachNode stands fits (places.Before next) P
at-before stands fits next P h (Before other) same = subst (λ (n : Next). P (Before n)) same h
at-before stands fits next P h (Inside asked state ran round) same = absurd same
at-before stands fits next P h (Between point round) same = absurd same

pub at-between : {M : Type 0} (stands : M → Ran → Type 0) (fits : M → Answer → Type 0) (point : WaitPoint) (round : Round) (P : Node → Type 0)
    → P (Between point round) → AtEachNode stands fits (places.Between point round) P
at-between stands fits point round P h (Before other) same = absurd same
at-between stands fits point round P h (Inside asked state ran other) same = absurd same
at-between stands fits point round P h (Between one other) same =
    subst (λ (r : Round). P (Between one r)) same.1 (subst (λ (s : WaitPoint). P (Between s round)) same.0 h)

pub at-inside : {M : Type 0} (stands : M → Ran → Type 0) (fits : M → Answer → Type 0) (asked : Asked) (state : State) (run : M) (round : Round) (P : Node → Type 0)
    → ((ran : Ran) → stands run ran → P (Inside asked state ran round)) → AtEachNode stands fits (places.Inside asked state run round) P
at-inside stands fits asked state run round P h (Before other) same = absurd same
at-inside stands fits asked state run round P h (Inside one other ran later) same =
    subst (λ (r : Round). P (Inside one other ran r)) same.2
    (subst (λ (s : State). P (Inside one s ran round)) same.1 (subst (λ (a : Asked). P (Inside a state ran round)) same.0 (h ran same.3)))
at-inside stands fits asked state run round P h (Between point other) same = absurd same

-- a place that is a node may go on, and is ready where a subroutine asked
pub goes-on : {M : Type 0} (stands : M → Ran → Type 0) (fits : M → Answer → Type 0) (place : Place M) (node : Node)
    → IsAt stands fits place node → MayGoOn stands fits place
goes-on stands fits (places.Before next) node h = (node, h)
goes-on stands fits (places.Inside asked state run round) node h = (node, h)
goes-on stands fits (places.Between point round) node h = (node, h)
goes-on stands fits places.Broken node h = tt

pub stood-inside : {M : Type 0} (stands : M → Ran → Type 0) (fits : M → Answer → Type 0) (asked : Asked) (state : State) (run : M) (round : Round) (node : Node)
    → IsAt stands fits (places.Inside asked state run round) node → ((ran : Ran) × stands run ran) × IsReady (fits run) asked
stood-inside stands fits asked state run round (Before other) h = absurd h
stood-inside stands fits asked state run round (Inside one other ran later) h = ((ran, h.3), h.4)
stood-inside stands fits asked state run round (Between point other) h = absurd h

-- What settles the next step at each node that a place is, is where the round stands next, and what it wants.
abbrev pub SettlesEach : {M : Type 0} → Evaluator → (M → Ran → Type 0) → (M → Answer → Type 0) → Place M → Given → Settled M → Type 0
SettlesEach e stands fits place given settled = (node : Node) → IsAt stands fits place node → SettlesAt e stands fits (step_of node given) settled

pub stands-next : {M : Type 0} (e : Evaluator) (stands : M → Ran → Type 0) (fits : M → Answer → Type 0) (place : Place M) (given : Given) (settled : Settled M)
    → SettlesEach e stands fits place given settled
    → (opening : Next) (givens : List Given) → StandsAt e stands fits opening givens place → StandsAt e stands fits opening (given ∷ givens) settled.place
stands-next e stands fits place given settled h opening givens at =
    let next : SettlesAt e stands fits (step_of at.0 given) settled = h at.0 at.2 in
    (next.0, (at.0, settled.want, at.1, next.2), next.1)

pub wants-next : {M : Type 0} (e : Evaluator) (stands : M → Ran → Type 0) (fits : M → Answer → Type 0) (place : Place M) (given : Given) (settled : Settled M)
    → SettlesEach e stands fits place given settled
    → (opening : Next) (givens : List Given) → StandsAt e stands fits opening givens place → Wants e opening (given ∷ givens) settled.want
wants-next e stands fits place given settled h opening givens at =
    let next : SettlesAt e stands fits (step_of at.0 given) settled = h at.0 at.2 in
    (at.0, next.0, at.1, next.2)

pub goes-on-next : {M : Type 0} (e : Evaluator) (stands : M → Ran → Type 0) (fits : M → Answer → Type 0) (place : Place M) (given : Given) (settled : Settled M)
    → SettlesEach e stands fits place given settled → MayGoOn stands fits place → place ≢ places.Broken → MayGoOn stands fits settled.place
goes-on-next e stands fits (places.Before next) given settled h may n = let s = h may.0 may.1 in goes-on stands fits settled.place s.0 s.1
goes-on-next e stands fits (places.Inside asked state run round) given settled h may n = let s = h may.0 may.1 in goes-on stands fits settled.place s.0 s.1
goes-on-next e stands fits (places.Between point round) given settled h may n = let s = h may.0 may.1 in goes-on stands fits settled.place s.0 s.1
goes-on-next e stands fits places.Broken given settled h may n = absurd (n refl)

abbrev IsBroken : {M : Type 0} → Place M → Type 0
IsBroken places.Broken = ⊤
IsBroken place = ⊥

pub not-broken-before : {M : Type 0} (at : Place M) (next : Next) → at ≡ places.Before next → at ≡ places.Broken → ⊥
not-broken-before {M} at next same broken = subst (λ (p : Place M). IsBroken p) same (subst (λ (p : Place M). IsBroken p) (sym broken) tt)

pub not-broken-inside : {M : Type 0} (at : Place M) (asked : Asked) (state : State) (run : M) (round : Round) → at ≡ places.Inside asked state run round → at ≡ places.Broken → ⊥
not-broken-inside {M} at asked state run round same broken = subst (λ (p : Place M). IsBroken p) same (subst (λ (p : Place M). IsBroken p) (sym broken) tt)

pub not-broken-between : {M : Type 0} (at : Place M) (point : WaitPoint) (round : Round) → at ≡ places.Between point round → at ≡ places.Broken → ⊥
not-broken-between {M} at point round same broken = subst (λ (p : Place M). IsBroken p) same (subst (λ (p : Place M). IsBroken p) (sym broken) tt)

-- what settles where a place of each kind leads settles it at each node that the place is
pub settles-before : {M : Type 0} (e : Evaluator) (stands : M → Ran → Type 0) (fits : M → Answer → Type 0) (at : Place M) (next : Next) (given : Given) (settled : Settled M)
    → at ≡ places.Before next → SettlesAt e stands fits (Moves next) settled → SettlesEach e stands fits at given settled
settles-before {M} e stands fits at next given settled same h =
    subst (λ (p : Place M). SettlesEach e stands fits p given settled) (sym same)
    (at-before stands fits next (λ node. SettlesAt e stands fits (step_of node given) settled) h)

pub settles-between : {M : Type 0} (e : Evaluator) (stands : M → Ran → Type 0) (fits : M → Answer → Type 0) (at : Place M) (point : WaitPoint) (round : Round) (next : Next) (given : Given) (settled : Settled M)
    → at ≡ places.Between point round → next ≡ takes point given round → SettlesAt e stands fits (Moves next) settled → SettlesEach e stands fits at given settled
settles-between {M} e stands fits at point round next given settled same led h =
    subst (λ (p : Place M). SettlesEach e stands fits p given settled) (sym same)
    (at-between stands fits point round (λ node. SettlesAt e stands fits (step_of node given) settled)
    (subst (λ (n : Next). SettlesAt e stands fits (Moves n) settled) led h))

pub settles-inside : {M : Type 0} (e : Evaluator) (stands : M → Ran → Type 0) (fits : M → Answer → Type 0) (at : Place M) (asked : Asked) (state : State) (run : M) (round : Round) (given : Given) (settled : Settled M)
    → at ≡ places.Inside asked state run round
    → ((ran : Ran) → stands run ran → SettlesAt e stands fits (step_of (Inside asked state ran round) given) settled) → SettlesEach e stands fits at given settled
settles-inside {M} e stands fits at asked state run round given settled same h =
    subst (λ (p : Place M). SettlesEach e stands fits p given settled) (sym same)
    (at-inside stands fits asked state run round (λ node. SettlesAt e stands fits (step_of node given) settled) h)

pub ready-inside : {M : Type 0} (stands : M → Ran → Type 0) (fits : M → Answer → Type 0) (at : Place M) (asked : Asked) (state : State) (run : M) (round : Round)
    → at ≡ places.Inside asked state run round → MayGoOn stands fits at → ((ran : Ran) × stands run ran) × IsReady (fits run) asked
ready-inside {M} stands fits at asked state run round same may =
    let here : MayGoOn stands fits (places.Inside asked state run round) = subst (λ (p : Place M). MayGoOn stands fits p) same may in
    stood-inside stands fits asked state run round here.0 here.1

-- what holds of a place holds of one that is equal
pub may-at : {M : Type 0} (stands : M → Ran → Type 0) (fits : M → Answer → Type 0) (one other : Place M) → one ≡ other → MayGoOn stands fits other → MayGoOn stands fits one
may-at {M} stands fits one other same h = subst (λ (p : Place M). MayGoOn stands fits p) (sym same) h

pub stands-at : {M : Type 0} (e : Evaluator) (stands : M → Ran → Type 0) (fits : M → Answer → Type 0) (one other : Place M) (opening : Next) (givens : List Given)
    → one ≡ other → StandsAt e stands fits opening givens other → StandsAt e stands fits opening givens one
stands-at {M} e stands fits one other opening givens same h = subst (λ (p : Place M). StandsAt e stands fits opening givens p) (sym same) h

pub settles-at : {M : Type 0} (e : Evaluator) (stands : M → Ran → Type 0) (fits : M → Answer → Type 0) (one other : Place M) (g : Given) (settled : Settled M)
    → one ≡ other → SettlesEach e stands fits one g settled → SettlesEach e stands fits other g settled
settles-at {M} e stands fits one other g settled same h = subst (λ (p : Place M). SettlesEach e stands fits p g settled) same h

-- how a subroutine that asked goes on
pub step-answered : (asked : Asked) (state : State) (ran : Ran) (round : Round) (given : Given) (told : Told) (answer : Answer)
    → given ≡ gifts.Reply told → answer_to asked told.reply ≡ Some answer → step_of (Inside asked state ran round) given ≡ Runs state (answered answer ran) round
step-answered asked state ran round given told answer same is =
    ap (λ (g : Given). step_of (Inside asked state ran round) g) same ∙ ap (λ (a : Option Answer). goes_on state ran round a) is

pub step-unanswered : (asked : Asked) (state : State) (ran : Ran) (round : Round) (given : Given) (told : Told)
    → given ≡ gifts.Reply told → answer_to asked told.reply ≡ None → step_of (Inside asked state ran round) given ≡ Moves (over round)
step-unanswered asked state ran round given told same is =
    ap (λ (g : Given). step_of (Inside asked state ran round) g) same ∙ ap (λ (a : Option Answer). goes_on state ran round a) is

pub step-other : (asked : Asked) (state : State) (ran : Ran) (round : Round) (given : Given)
    → ((told : Told) → given ≢ gifts.Reply told) → step_of (Inside asked state ran round) given ≡ Moves (over round)
step-other asked state ran round gifts.Start unlike = refl
step-other asked state ran round (gifts.Reply told) unlike = absurd (unlike told refl)
step-other asked state ran round (gifts.Exchange got) unlike = refl
step-other asked state ran round (gifts.Fetched outcome) unlike = refl
step-other asked state ran round gifts.Sent unlike = refl

pub settles-step : {M : Type 0} (e : Evaluator) (stands : M → Ran → Type 0) (fits : M → Answer → Type 0) (one other : Step) (settled : Settled M)
    → one ≡ other → SettlesAt e stands fits other settled → SettlesAt e stands fits one settled
settles-step {M} e stands fits one other settled same h = subst (λ (s : Step). SettlesAt e stands fits s settled) (sym same) h

some_same : {A : Type 0} {x y : A} → Some x ≡ Some y → x ≡ y
some_same h = cc

none_same : {A : Type 0} {y : A} → None ≡ Some y → ⊥
none_same h = cc

-- the answer is one that the run may be given
number-fits : (fits : Answer → Type 0) (count : ℕ) → IsReady fits kinds.Xkey → fits (Number (counted count))
number-fits fits count f = f (min count 9223372036854775807) (omega arith)

pub answer-fits : (fits : Answer → Type 0) (asked : Asked) (reply : Reply) (answer : Answer) → answer_to asked reply ≡ Some answer → IsReady fits asked → fits answer
answer-fits fits kinds.Ban reply.Banned answer is f = subst fits (some_same is) f
answer-fits fits kinds.Xkey (reply.Purged count) answer is f = subst fits (some_same is) (number-fits fits count f)
answer-fits fits asked reply answer is f = absurd (none_same is)

-- a place before the start
pub stands-first : {M : Type 0} (e : Evaluator) (stands : M → Ran → Type 0) (fits : M → Answer → Type 0) (at : Place M) (next opening : Next)
    → at ≡ places.Before next → next ≡ opening → StandsAt e stands fits opening [] at
stands-first e stands fits at next opening same is =
    stands-at e stands fits at (places.Before next) opening [] same (Before next, ap (λ (n : Next). Before n) is, refl)

pub goes-on-first : {M : Type 0} (stands : M → Ran → Type 0) (fits : M → Answer → Type 0) (at : Place M) (next : Next) → at ≡ places.Before next → MayGoOn stands fits at
goes-on-first stands fits at next same = may-at stands fits at (places.Before next) same (Before next, refl)
