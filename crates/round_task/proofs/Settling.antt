-- How what a client or a fetch wants settles its round's flow.
use Rattle.std.specs.Prelude.{⊤, IfOk, Result, Ok, Err, Box}
use Rattle.std.proofs.Common.{◌≡◌, ◌≢◌, ℕ, List, [], ◌∷◌, Option, Some, refl, sym, ◌∙◌, ap, subst}
use Rattle.std.specs.declared.alloc.Global.{Global}
use Rattle.vcl_context.specs.declared.turn.Answer.{Answer}
use Rattle.vcl_runs.specs.Runs.{Ran}
use Rattle.cache_law.specs.declared.cache.Told.{Told}
use Rattle.cache_law.specs.declared.call.Reply.{Reply}
use Rattle.cache_law.specs.declared.call.Reply.TheVariants as reply
use Rattle.cache_law.specs.declared.rounds.FetchOutcome.{FetchOutcome}
use Rattle.cache_law.specs.declared.rounds.Given.{Given}
use Rattle.cache_law.specs.declared.rounds.Given.TheVariants as given
use Rattle.cache_law.specs.declared.rounds.Order.{Order}
use Rattle.cache_law.specs.declared.rounds.Request.{Request}
use Rattle.client_graph.specs.declared.round.Next.{Next}
use Rattle.client_graph.specs.declared.round.ClientWant.{ClientWant}
use Rattle.client_task.specs.declared.client.Client.{Client}
use Rattle.client_task.specs.Rounds.{Wants as ClientWants}
use Rattle.client_task.specs.Standing.{StandsAt as ClientStands, MayGoOn as ClientMay}
use Rattle.fetch_graph.specs.declared.fetch.FetchWant.{FetchWant}
use Rattle.fetch_graph.specs.declared.fetch.Next.{Next as FetchNext}
use Rattle.fetch_graph.specs.Opening.{opening}
use Rattle.fetch_task.specs.declared.fetch.Fetch.{Fetch}
use Rattle.fetch_task.specs.Fetches.{Wants as FetchWants}
use Rattle.vcl_runs.specs.Evaluators.{Evaluator}
use Rattle.fetch_task.specs.Standing.{StandsAt as FetchStands}
use Rattle.round_task.specs.declared.want.Want.{Want}
use Rattle.round_task.specs.declared.want.Want.TheVariants.{Done}
use Rattle.round_task.specs.declared.want.Passed.TheVariants.{Wanted, Ordered}
use Rattle.round_task.specs.declared.want.Made.TheVariants as made
use Rattle.round_task.specs.declared.place.Place.{Place}
use Rattle.round_task.specs.declared.place.Place.TheVariants as place
use Rattle.round_task.specs.declared.leading.Settled.{Settled}
use Rattle.round_task.specs.Rounds.{for_client, word_of, want_of_client, made_of, Node, Opening, AtClient, AtFetch, Over, Flow, ToClient, BackToClient, ToFetch, Ends, passes, orders, asks, returns, passes_back, breaks, ends, after_begin, flow_of, Wants}
use Rattle.round_task.specs.Standing.{IsAt, StandsAt, SettlesAt, MayGoOn}

-- what follows from each Ok
pub if_ok : {A E : Type 0} (P Q : A → Type 0) (r : Result A E) → ((a : A) → P a → Q a) → IfOk r P → IfOk r Q
if_ok P Q (Ok a) f h = f a h
if_ok P Q (Err e) f h = tt

-- ---- the client wants something

pub passed-on : {M : Type 0} (e : Evaluator) (stands : M → Ran → Type 0) (fits : M → Answer → Type 0) (drawn : Option ℕ) (start : Next) (givens : List Given) (client : Client M) (asked : ClientWant) (want : Want)
    → ClientStands (for_client e) stands fits start givens client.place → ClientWants (for_client e) start givens asked → want_of_client asked ≡ Wanted want
    → SettlesAt e stands fits drawn (ToClient start givens) (record { place = place.Client client; want = want })
passed-on e stands fits drawn start givens client asked want s w h = (AtClient start givens, s, passes asked w h)

pub passed-back : {M : Type 0} (e : Evaluator) (stands : M → Ran → Type 0) (fits : M → Answer → Type 0) (drawn : Option ℕ) (start : Next) (givens : List Given) (client : Client M) (asked : ClientWant) (want : Want)
    → ClientStands (for_client e) stands fits start givens client.place → ClientWants (for_client e) start givens asked → want_of_client asked ≡ Wanted want
    → SettlesAt e stands fits drawn (BackToClient start givens) (record { place = place.Client client; want = want })
passed-back e stands fits drawn start givens client asked want s w h = (AtClient start givens, s, passes_back asked w h)

pub broke : {M : Type 0} (e : Evaluator) (stands : M → Ran → Type 0) (fits : M → Answer → Type 0) (drawn : Option ℕ) (start : Next) (givens : List Given) (asked : ClientWant) (order : Order) (settled : Settled M)
    → ClientWants (for_client e) start givens asked → want_of_client asked ≡ Ordered order → settled ≡ record { place = place.Over; want = Done }
    → SettlesAt e stands fits drawn (BackToClient start givens) settled
broke {M} e stands fits drawn start givens asked order settled w h same =
    subst (λ (x : Settled M). SettlesAt e stands fits drawn (BackToClient start givens) x) (sym same) (Over, tt, breaks asked order w h)

-- it asks for a fetch, and what settles that settles this
pub ordered : {M : Type 0} (e : Evaluator) (stands : M → Ran → Type 0) (fits : M → Answer → Type 0) (drawn : Option ℕ) (start : Next) (givens : List Given) (asked : ClientWant) (order : Order) (settled : Settled M)
    → ClientWants (for_client e) start givens asked → want_of_client asked ≡ Ordered order
    → SettlesAt e stands fits drawn (ToFetch start givens order (given.Start ∷ [])) settled → SettlesAt e stands fits drawn (ToClient start givens) settled
ordered e stands fits drawn start givens asked order settled w h s = (s.0, s.1, orders asked order w h s.2)

-- ---- the fetch wants something

pub begun-fetch : (e : Evaluator) (order : Order) (fetch : Box Fetch Global) → fetch.value.place ≡ Some (opening order) → FetchStands e (opening order) [] fetch.value.place
begun-fetch e order fetch same = subst (λ (p : Option FetchNext). FetchStands e (opening order) [] p) (sym same) refl

-- what holds of a fetch holds of it behind a reference
pub behind : (e : Evaluator) (order : Order) (told : List Given) (one other : Fetch) → one ≡ other → FetchStands e (opening order) told other.place → FetchStands e (opening order) told one.place
behind e order told one other same h = subst (λ (fetch : Fetch). FetchStands e (opening order) told fetch.place) (sym same) h

pub asked-on : {M : Type 0} (e : Evaluator) (stands : M → Ran → Type 0) (fits : M → Answer → Type 0) (drawn : Option ℕ) (start : Next) (givens : List Given) (order : Order) (told : List Given)
    (client : Client M) (number word : ℕ) (fetch : Box Fetch Global) (asked : FetchWant) (want : Want)
    → ClientStands (for_client e) stands fits start givens client.place → number ≡ order.number → FetchStands e (opening order) told fetch.value.place
    → word ≡ word_of drawn number → FetchWants e word (opening order) told asked → made_of number asked ≡ made.Wanted want
    → SettlesAt e stands fits drawn (ToFetch start givens order told) (record { place = place.Fetch client number fetch; want = want })
asked-on e stands fits drawn start givens order told client number word fetch asked want s same f said w h =
    let wants : FetchWants e (word_of drawn order.number) (opening order) told asked =
    subst (λ (n : ℕ). FetchWants e n (opening order) told asked) (said ∙ ap (λ (n : ℕ). word_of drawn n) same) w in
    (AtFetch start givens order told, (s, same, f), asks asked wants (subst (λ (n : ℕ). made_of n asked ≡ made.Wanted want) same h))

-- it is over, and what settles its client's going on settles this
pub returned : {M : Type 0} (e : Evaluator) (stands : M → Ran → Type 0) (fits : M → Answer → Type 0) (drawn : Option ℕ) (start : Next) (givens : List Given) (order : Order) (told : List Given)
    (number word : ℕ) (asked : FetchWant) (outcome : FetchOutcome) (settled : Settled M)
    → number ≡ order.number → word ≡ word_of drawn number → FetchWants e word (opening order) told asked → made_of number asked ≡ made.Over outcome
    → SettlesAt e stands fits drawn (BackToClient start (given.Fetched outcome ∷ givens)) settled → SettlesAt e stands fits drawn (ToFetch start givens order told) settled
returned e stands fits drawn start givens order told number word asked outcome settled same said w h s =
    let wants : FetchWants e (word_of drawn order.number) (opening order) told asked =
    subst (λ (n : ℕ). FetchWants e n (opening order) told asked) (said ∙ ap (λ (n : ℕ). word_of drawn n) same) w in
    (s.0, s.1, returns asked outcome wants (subst (λ (n : ℕ). made_of n asked ≡ made.Over outcome) same h) s.2)

-- ---- the round's Begin is answered

pub settled-flow : {M : Type 0} (e : Evaluator) (stands : M → Ran → Type 0) (fits : M → Answer → Type 0) (drawn : Option ℕ) (one other : Flow) (settled : Settled M)
    → one ≡ other → SettlesAt e stands fits drawn other settled → SettlesAt e stands fits drawn one settled
settled-flow e stands fits drawn one other settled same h = subst (λ (f : Flow). SettlesAt e stands fits drawn f settled) (sym same) h

pub settled-over : {M : Type 0} (e : Evaluator) (stands : M → Ran → Type 0) (fits : M → Answer → Type 0) (drawn : Option ℕ) (flow : Flow) (settled : Settled M)
    → flow ≡ Ends → settled ≡ record { place = place.Over; want = Done } → SettlesAt e stands fits drawn flow settled
settled-over {M} e stands fits drawn flow settled same over =
    settled-flow e stands fits drawn flow Ends settled same
    (subst (λ (x : Settled M). SettlesAt e stands fits drawn Ends x) (sym over) (Over, tt, ends))

pub begun-other : (request : Request) (peer : List ℕ) (r : Reply) → ((number vcl : ℕ) (text : List ℕ) → r ≢ reply.Began number vcl text) → after_begin request peer r ≡ Ends
begun-other request peer (reply.Began number vcl text) unlike = absurd (unlike number vcl text refl)
begun-other request peer r unlike = refl

pub opened-other : (request : Request) (peer : List ℕ) (g : Given) → ((told : Told) → g ≢ given.Reply told) → flow_of (Opening request peer) g ≡ Ends
opened-other request peer (given.Reply told) unlike = absurd (unlike told refl)
opened-other request peer g unlike = refl

-- ---- a place is given something

-- what settles where the place is given this, at each node that it is
abbrev pub SettlesEach : {M : Type 0} → Evaluator → (M → Ran → Type 0) → (M → Answer → Type 0) → Option ℕ → Place M → Given → Settled M → Type 0
SettlesEach e stands fits drawn place given settled = (node : Node) → IsAt e stands fits place node → SettlesAt e stands fits drawn (flow_of node given) settled

opening-node : {M : Type 0} (e : Evaluator) (stands : M → Ran → Type 0) (fits : M → Answer → Type 0) (drawn : Option ℕ) (request : Request) (peer : List ℕ) (g : Given) (settled : Settled M)
    → SettlesAt e stands fits drawn (flow_of (Opening request peer) g) settled → SettlesEach e stands fits drawn (place.Opening request peer) g settled
opening-node e stands fits drawn request peer g settled h (Opening asked address) is =
    subst (λ (a : List ℕ). SettlesAt e stands fits drawn (flow_of (Opening asked a) g) settled) is.1
    (subst (λ (r : Request). SettlesAt e stands fits drawn (flow_of (Opening r peer) g) settled) is.0 h)
opening-node e stands fits drawn request peer g settled h node is = absurd is

pub each-opening : {M : Type 0} (e : Evaluator) (stands : M → Ran → Type 0) (fits : M → Answer → Type 0) (drawn : Option ℕ) (at : Place M) (request : Request) (peer : List ℕ) (g : Given) (settled : Settled M)
    → at ≡ place.Opening request peer → SettlesAt e stands fits drawn (flow_of (Opening request peer) g) settled → SettlesEach e stands fits drawn at g settled
each-opening {M} e stands fits drawn at request peer g settled same h =
    subst (λ (p : Place M). SettlesEach e stands fits drawn p g settled) (sym same) (opening-node e stands fits drawn request peer g settled h)

client-node : {M : Type 0} (e : Evaluator) (stands : M → Ran → Type 0) (fits : M → Answer → Type 0) (drawn : Option ℕ) (client : Client M) (g : Given) (settled : Settled M)
    → ((start : Next) (givens : List Given) → ClientStands (for_client e) stands fits start givens client.place → SettlesAt e stands fits drawn (ToClient start (g ∷ givens)) settled)
    → SettlesEach e stands fits drawn (place.Client client) g settled
client-node e stands fits drawn client g settled h (AtClient start givens) is = h start givens is
client-node e stands fits drawn client g settled h node is = absurd is

pub each-client : {M : Type 0} (e : Evaluator) (stands : M → Ran → Type 0) (fits : M → Answer → Type 0) (drawn : Option ℕ) (at : Place M) (client : Client M) (g : Given) (settled : Settled M)
    → at ≡ place.Client client
    → ((start : Next) (givens : List Given) → ClientStands (for_client e) stands fits start givens client.place → SettlesAt e stands fits drawn (ToClient start (g ∷ givens)) settled)
    → SettlesEach e stands fits drawn at g settled
each-client {M} e stands fits drawn at client g settled same h =
    subst (λ (p : Place M). SettlesEach e stands fits drawn p g settled) (sym same) (client-node e stands fits drawn client g settled h)

-- the same of a fetch
abbrev pub SettlesFetch : {M : Type 0} → Evaluator → (M → Ran → Type 0) → (M → Answer → Type 0) → Option ℕ → Client M → ℕ → Box Fetch Global → Given → Settled M → Type 0
SettlesFetch e stands fits drawn client number fetch g settled =
    (start : Next) (givens : List Given) (order : Order) (told : List Given)
    → ClientStands (for_client e) stands fits start givens client.place → number ≡ order.number → FetchStands e (opening order) told fetch.value.place
    → SettlesAt e stands fits drawn (ToFetch start givens order (g ∷ told)) settled

fetch-node : {M : Type 0} (e : Evaluator) (stands : M → Ran → Type 0) (fits : M → Answer → Type 0) (drawn : Option ℕ) (client : Client M) (number : ℕ) (fetch : Box Fetch Global) (g : Given) (settled : Settled M)
    → SettlesFetch e stands fits drawn client number fetch g settled → SettlesEach e stands fits drawn (place.Fetch client number fetch) g settled
fetch-node e stands fits drawn client number fetch g settled h (AtFetch start givens order told) is = h start givens order told is.0 is.1 is.2
fetch-node e stands fits drawn client number fetch g settled h node is = absurd is

pub each-fetch : {M : Type 0} (e : Evaluator) (stands : M → Ran → Type 0) (fits : M → Answer → Type 0) (drawn : Option ℕ) (at : Place M) (client : Client M) (number : ℕ) (fetch : Box Fetch Global) (g : Given) (settled : Settled M)
    → at ≡ place.Fetch client number fetch → SettlesFetch e stands fits drawn client number fetch g settled → SettlesEach e stands fits drawn at g settled
each-fetch {M} e stands fits drawn at client number fetch g settled same h =
    subst (λ (p : Place M). SettlesEach e stands fits drawn p g settled) (sym same) (fetch-node e stands fits drawn client number fetch g settled h)

over-node : {M : Type 0} (e : Evaluator) (stands : M → Ran → Type 0) (fits : M → Answer → Type 0) (drawn : Option ℕ) (g : Given) (settled : Settled M)
    → settled ≡ record { place = place.Over; want = Done } → SettlesEach e stands fits drawn place.Over g settled
over-node e stands fits drawn g settled over Over is = settled-over e stands fits drawn Ends settled refl over
over-node e stands fits drawn g settled over node is = absurd is

pub each-over : {M : Type 0} (e : Evaluator) (stands : M → Ran → Type 0) (fits : M → Answer → Type 0) (drawn : Option ℕ) (at : Place M) (g : Given) (settled : Settled M)
    → at ≡ place.Over → settled ≡ record { place = place.Over; want = Done } → SettlesEach e stands fits drawn at g settled
each-over {M} e stands fits drawn at g settled same over =
    subst (λ (p : Place M). SettlesEach e stands fits drawn p g settled) (sym same) (over-node e stands fits drawn g settled over)

-- ---- where the round stands then, and what it wants

pub stands-next : {M : Type 0} (e : Evaluator) (stands : M → Ran → Type 0) (fits : M → Answer → Type 0) (drawn : Option ℕ) (at : Place M) (g : Given) (settled : Settled M)
    → SettlesEach e stands fits drawn at g settled
    → (request : Request) (peer : List ℕ) (givens : List Given) → StandsAt e stands fits request peer givens at → StandsAt e stands fits request peer (g ∷ givens) settled.place
stands-next e stands fits drawn at g settled h request peer givens s =
    let next : SettlesAt e stands fits drawn (flow_of s.0 g) settled = h s.0 s.2 in
    (next.0, (s.0, drawn, settled.want, s.1, next.2), next.1)

pub wants-next : {M : Type 0} (e : Evaluator) (stands : M → Ran → Type 0) (fits : M → Answer → Type 0) (drawn : Option ℕ) (at : Place M) (g : Given) (settled : Settled M)
    → SettlesEach e stands fits drawn at g settled
    → (request : Request) (peer : List ℕ) (givens : List Given) → StandsAt e stands fits request peer givens at → Wants e drawn request peer (g ∷ givens) settled.want
wants-next e stands fits drawn at g settled h request peer givens s =
    let next : SettlesAt e stands fits drawn (flow_of s.0 g) settled = h s.0 s.2 in
    (s.0, next.0, s.1, next.2)

-- what holds of a place holds of one that is equal
pub settles-at : {M : Type 0} (e : Evaluator) (stands : M → Ran → Type 0) (fits : M → Answer → Type 0) (drawn : Option ℕ) (one other : Place M) (g : Given) (settled : Settled M)
    → one ≡ other → SettlesEach e stands fits drawn one g settled → SettlesEach e stands fits drawn other g settled
settles-at {M} e stands fits drawn one other g settled same h = subst (λ (p : Place M). SettlesEach e stands fits drawn p g settled) same h

pub may-at : {M : Type 0} (stands : M → Ran → Type 0) (fits : M → Answer → Type 0) (one other : Place M) → one ≡ other → MayGoOn stands fits other → MayGoOn stands fits one
may-at {M} stands fits one other same h = subst (λ (p : Place M). MayGoOn stands fits p) (sym same) h

-- a round that is over may go on, to nothing
pub over-may : {M : Type 0} (stands : M → Ran → Type 0) (fits : M → Answer → Type 0) (settled : Settled M)
    → settled ≡ record { place = place.Over; want = Done } → MayGoOn stands fits settled.place
over-may {M} stands fits settled over = subst (λ (s : Settled M). MayGoOn stands fits s.place) (sym over) tt

-- what holds of a place of each kind, where the round may go on
pub may-client : {M : Type 0} (stands : M → Ran → Type 0) (fits : M → Answer → Type 0) (at : Place M) (client : Client M) → at ≡ place.Client client → MayGoOn stands fits at → ClientMay stands fits client.place
may-client {M} stands fits at client same may = subst (λ (p : Place M). MayGoOn stands fits p) same may

pub may-fetch : {M : Type 0} (stands : M → Ran → Type 0) (fits : M → Answer → Type 0) (at : Place M) (client : Client M) (number : ℕ) (fetch : Box Fetch Global)
    → at ≡ place.Fetch client number fetch → MayGoOn stands fits at → ClientMay stands fits client.place
may-fetch {M} stands fits at client number fetch same may = subst (λ (p : Place M). MayGoOn stands fits p) same may

-- none of them is a place where memory was wanting
abbrev IsBroken : {M : Type 0} → Place M → Type 0
IsBroken place.Broken = ⊤
IsBroken at = ⊥

pub not-broken : {M : Type 0} (at other : Place M) → at ≡ other → (IsBroken other → ⊥) → at ≡ place.Broken → ⊥
not-broken {M} at other same n broken = n (subst (λ (p : Place M). IsBroken p) (sym broken ∙ same) tt)
