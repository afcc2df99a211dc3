-- Whatever a round picks from, it picks under the VCL that its Begin was told.
use Rattle.std.specs.Prelude.{⊤}
use Rattle.std.proofs.Common.{◌≡◌, ℕ, List, [], ◌∷◌, Option, Some, refl, sym, ◌∙◌, ap, subst}
use Rattle.cache_law.specs.declared.call.Call.{Call}
use Rattle.cache_law.specs.declared.call.Call.TheVariants as call
use Rattle.cache_law.specs.declared.call.Reply.{Reply}
use Rattle.cache_law.specs.declared.call.Reply.TheVariants as reply
use Rattle.cache_law.specs.declared.rounds.Given.{Given}
use Rattle.cache_law.specs.declared.rounds.Given.TheVariants as given
use Rattle.cache_law.specs.declared.rounds.Order.{Order}
use Rattle.cache_law.specs.declared.rounds.Request.{Request}
use Rattle.directors.specs.declared.target.Target.{Target}
use Rattle.client_graph.specs.declared.round.Next.{Next}
use Rattle.client_graph.specs.declared.round.ClientWant.{ClientWant}
use Rattle.client_graph.specs.declared.round.ClientWant.TheVariants as client
use Rattle.client_task.specs.Laws.{IsUnder}
use Rattle.client_task.proofs.Vcls.{vcl_of, wants-under}
use Rattle.fetch_graph.specs.declared.fetch.FetchWant.{FetchWant}
use Rattle.fetch_graph.specs.declared.fetch.FetchWant.TheVariants as fetch
use Rattle.vcl_runs.specs.Evaluators.{Evaluator}
use Rattle.fetch_task.specs.Laws.{CallsFor, IsFor}
use Rattle.fetch_task.proofs.Orders.{wants-for}
use Rattle.round_task.specs.declared.want.Want.{Want}
use Rattle.round_task.specs.declared.want.Want.TheVariants.{Cache}
use Rattle.round_task.specs.declared.want.Passed.TheVariants.{Wanted, Ordered}
use Rattle.round_task.specs.declared.want.Made.TheVariants as made
use Rattle.round_task.specs.Laws.{vcl_told, vcl_in}
use Rattle.round_task.specs.Rounds.{for_client, word_of, want_of_client, made_of, Node, Opening, AtClient, AtFetch, Over, Flow, ToClient, BackToClient, ToFetch, Ends, Settles, passes, orders, asks, returns, passes_back, breaks, ends, after_begin, flow_of, Reaches, Wants}
use Rattle.round_task.proofs.Clients.{IsOwn, wants-own}
use Rattle.round_task.proofs.OneWant.{wanted-same, ordered-same, wanted-ordered, made-same}
use Rattle.round_task.proofs.Wholes.{WantsAt, wants-at, cache-same, made-over}

-- where a round stands, its client and its fetch are under this VCL
abbrev Under : Option ℕ → Node → Type 0
Under v (Opening request peer) = ⊥
Under v (AtClient start givens) = v ≡ Some (vcl_of start)
Under v (AtFetch start givens order told) = (v ≡ Some (vcl_of start)) × (v ≡ Some order.vcl)
Under v Over = ⊤

abbrev UnderFlow : Option ℕ → Flow → Type 0
UnderFlow v (ToClient start givens) = v ≡ Some (vcl_of start)
UnderFlow v (BackToClient start givens) = v ≡ Some (vcl_of start)
UnderFlow v (ToFetch start givens order told) = (v ≡ Some (vcl_of start)) × (v ≡ Some order.vcl)
UnderFlow v Ends = ⊤

ordered-under : (v : Option ℕ) (start : Next) (asked : ClientWant) (order : Order) → v ≡ Some (vcl_of start) → IsUnder (vcl_of start) asked → want_of_client asked ≡ Ordered order → v ≡ Some order.vcl
ordered-under v start (client.Cache c) order u h k = absurd (wanted-ordered k)
ordered-under v start (client.Fetch other) order u h k = u ∙ ap (λ (n : ℕ). Some n) (sym h ∙ ap (λ (o : Order). o.vcl) (ordered-same k))
ordered-under v start (client.Send delivery) order u h k = absurd (wanted-ordered k)
ordered-under v start (client.Background other) order u h k = u ∙ ap (λ (n : ℕ). Some n) (sym h ∙ ap (λ (o : Order). o.vcl) (ordered-same k))
ordered-under v start client.Done order u h k = absurd (wanted-ordered k)

settles-under : (e : Evaluator) (v : Option ℕ) {d : Option ℕ} {flow : Flow} {n : Node} {w : Want} → Settles e d flow n w → UnderFlow v flow → Under v n
settles-under e v (passes asked q k) u = u
settles-under e v (orders {start = start} {givens = givens} asked order q k later) u =
    settles-under e v later (u, ordered-under v start asked order u (wants-under (for_client e) start givens asked q) k)
settles-under e v (asks asked q k) u = u
settles-under e v (returns asked outcome q k later) u = settles-under e v later u.0
settles-under e v (passes_back asked q k) u = u
settles-under e v (breaks asked order q k) u = tt
settles-under e v ends u = tt

begun-under : (request : Request) (peer : List ℕ) (x : Reply) → UnderFlow (vcl_told x) (after_begin request peer x)
begun-under request peer (reply.Began number vcl text) = refl
begun-under request peer x = tt

first-under : (request : Request) (peer : List ℕ) (g : Given) → UnderFlow (vcl_in (g ∷ [])) (flow_of (Opening request peer) g)
first-under request peer (given.Reply told) = begun-under request peer told.reply
first-under request peer g = tt

next-under : (v : Option ℕ) (n : Node) (g : Given) → Under v n → UnderFlow v (flow_of n g)
next-under v (Opening request peer) g u = absurd u
next-under v (AtClient start givens) g u = u
next-under v (AtFetch start givens order told) g u = u
next-under v Over g u = tt

reaches-under : (e : Evaluator) (request : Request) (peer : List ℕ) (g : Given) (givens : List Given) (n : Node) → Reaches e request peer (g ∷ givens) n → Under (vcl_in (g ∷ givens)) n
reaches-under e request peer g [] n p =
    settles-under e (vcl_in (g ∷ [])) p.4 (subst (λ (x : Node). UnderFlow (vcl_in (g ∷ [])) (flow_of x g)) (sym p.3) (first-under request peer g))
reaches-under e request peer g (x ∷ givens) n p =
    settles-under e (vcl_in (x ∷ givens)) p.4 (next-under (vcl_in (x ∷ givens)) p.0 g (reaches-under e request peer x givens p.0 p.3))

-- ---- what is picked from

abbrev IsPick : Want → Type 0
IsPick (Cache (call.Pick vcl target word)) = ⊤
IsPick w = ⊥

own-not-pick : (asked : ClientWant) (w : Want) → IsOwn asked → want_of_client asked ≡ Wanted w → IsPick w → ⊥
own-not-pick (client.Cache (call.Pick vcl target word)) w own h is = own
own-not-pick (client.Cache c) w own h is = subst (λ (x : Want). IsPick x) (sym (wanted-same h)) is
own-not-pick (client.Fetch order) w own h is = wanted-ordered (sym h)
own-not-pick (client.Send delivery) w own h is = subst (λ (x : Want). IsPick x) (sym (wanted-same h)) is
own-not-pick (client.Background order) w own h is = wanted-ordered (sym h)
own-not-pick client.Done w own h is = subst (λ (x : Want). IsPick x) (sym (wanted-same h)) is

fetch-pick : (v : Option ℕ) (order : Order) (number : ℕ) (asked : FetchWant) (vcl : ℕ) (target : Target) (word : ℕ)
    → v ≡ Some order.vcl → IsFor order asked → made_of number asked ≡ made.Wanted (Cache (call.Pick vcl target word)) → v ≡ Some vcl
fetch-pick v order number (fetch.Cache c) vcl target word u f h =
    let same : vcl ≡ order.vcl = subst (λ (x : Call). CallsFor order x) (cache-same (made-same h)) f in
    u ∙ ap (λ (n : ℕ). Some n) (sym same)
fetch-pick v order number (fetch.Ask backend request) vcl target word u f h = absurd (subst (λ (x : Want). IsPick x) (sym (made-same h)) tt)
fetch-pick v order number (fetch.Done outcome) vcl target word u f h = absurd (made-over (sym h))

pick-under : (e : Evaluator) (v d : Option ℕ) (n : Node) (vcl : ℕ) (target : Target) (word : ℕ) → Under v n → WantsAt e d n (Cache (call.Pick vcl target word)) → v ≡ Some vcl
pick-under e v d (Opening request peer) vcl target word u at = absurd u
pick-under e v d (AtClient start givens) vcl target word u at =
    absurd (own-not-pick at.0 (Cache (call.Pick vcl target word)) (wants-own (for_client e) start givens at.0 at.1) at.2 tt)
pick-under e v d (AtFetch start givens order told) vcl target word u at =
    fetch-pick v order order.number at.0 vcl target word u.1 (wants-for e order told (word_of d order.number) at.0 at.1) at.2
pick-under e v d Over vcl target word u at = absurd (subst (λ (x : Want). IsPick x) at tt)

nothing-picked : (vcl : ℕ) (target : Target) (word : ℕ) → call.Pick vcl target word ≡ call.Begin → ⊥
nothing-picked vcl target word h = cc

pub wants-under-round : (e : Evaluator) (d : Option ℕ) (request : Request) (peer : List ℕ) (givens : List Given) (vcl : ℕ) (target : Target) (word : ℕ)
    → Wants e d request peer givens (Cache (call.Pick vcl target word)) → vcl_in givens ≡ Some vcl
wants-under-round e d request peer [] vcl target word p = absurd (nothing-picked vcl target word (cache-same p))
wants-under-round e d request peer (g ∷ givens) vcl target word p =
    pick-under e (vcl_in (g ∷ givens)) d p.1 vcl target word
    (reaches-under e request peer g givens p.1 (p.0, d, Cache (call.Pick vcl target word), p.2, p.3)) (wants-at e p.3)
