-- A round goes from its Begin to its End, with one response before a fetch behind it.
use Rattle.std.specs.Prelude.{⊤}
use Rattle.std.proofs.Common.{◌≡◌, ◌≢◌, ℕ, true, false, List, [], ◌∷◌, ◌++◌, Option, refl, sym, ◌∙◌, ap, subst}
use Rattle.cache_law.specs.declared.cache.Told.{Told}
use Rattle.cache_law.specs.declared.call.Call.{Call}
use Rattle.cache_law.specs.declared.call.Call.TheVariants as call
use Rattle.cache_law.specs.declared.call.Query.{Query}
use Rattle.cache_law.specs.declared.call.Reply.{Reply}
use Rattle.cache_law.specs.declared.call.Reply.TheVariants as reply
use Rattle.cache_law.specs.declared.rounds.FetchOutcome.{FetchOutcome}
use Rattle.cache_law.specs.declared.rounds.FetchOutcome.TheVariants.{Delivered, Failed, Ended}
use Rattle.cache_law.specs.declared.rounds.Given.{Given}
use Rattle.cache_law.specs.declared.rounds.Given.TheVariants as given
use Rattle.cache_law.specs.declared.rounds.Order.{Order}
use Rattle.cache_law.specs.declared.rounds.Request.{Request}
use Rattle.client_graph.specs.declared.round.Next.{Next}
use Rattle.client_graph.specs.declared.round.ClientWant.{ClientWant}
use Rattle.client_graph.specs.declared.round.ClientWant.TheVariants as client
use Rattle.client_graph.specs.Opening.{opening}
use Rattle.client_task.specs.Laws.{IsAnswer, AnswersIt as ClientAnswers, IsLast as IsClientLast}
use Rattle.client_task.specs.Rounds.{Wants as ClientWants}
use Rattle.client_task.proofs.Ends.{nothing-behind}
use Rattle.client_task.proofs.Live.{goes-on-to-end}
use Rattle.fetch_graph.specs.declared.fetch.FetchWant.{FetchWant}
use Rattle.fetch_graph.specs.declared.fetch.FetchWant.TheVariants as fetch
use Rattle.fetch_graph.specs.Opening.{opening as fetch_opening}
use Rattle.fetch_task.specs.Fetches.{Wants as FetchWants}
use Rattle.vcl_runs.specs.Evaluators.{Evaluator}
use Rattle.fetch_task.specs.Laws.{ComesOf, IsFor}
use Rattle.fetch_task.proofs.OneWant.{OneTurn}
use Rattle.fetch_task.proofs.Orders.{wants-for}
use Rattle.round_task.specs.declared.want.Want.{Want}
use Rattle.round_task.specs.declared.want.Want.TheVariants.{Cache, Exchange, Send, Done}
use Rattle.round_task.specs.declared.want.Passed.TheVariants.{Wanted, Ordered}
use Rattle.round_task.specs.declared.want.Made.TheVariants as made
use Rattle.round_task.specs.Happened.{IsReply, AnswersIt}
use Rattle.round_task.specs.Laws.{IsLast, IsSend}
use Rattle.round_task.specs.Rounds.{for_client, word_of, want_of_client, made_of, Node, Opening, AtClient, AtFetch, Over, Flow, ToClient, BackToClient, ToFetch, Ends, Settles, passes, orders, asks, returns, passes_back, breaks, ends, after_begin, flow_of, Reaches, Wants}
use Rattle.round_task.proofs.Clients.{IsOwn, IsOwnCall, OkWant, IsLate, IsSent, FromStart, WasSent, wants-own, first-ok, no-fetch-behind, background-behind, late-wants, looks-again}
use Rattle.round_task.proofs.OneWant.{wanted-same, ordered-same, wanted-ordered, made-same, reaches-one}

false-true : false ≡ true → ⊥
false-true h = cc

over-same : {x y : FetchOutcome} → made.Over x ≡ made.Over y → x ≡ y
over-same h = cc

pub made-over : {x : Want} {y : FetchOutcome} → made.Wanted x ≡ made.Over y → ⊥
made-over h = cc

-- ---- what a want is to the round

passed-last : (asked : ClientWant) (w : Want) → want_of_client asked ≡ Wanted w → IsLast w → IsClientLast asked
passed-last (client.Cache c) w h l = subst (λ (x : Want). IsLast x) (sym (wanted-same h)) l
passed-last (client.Fetch order) w h l = absurd (wanted-ordered (sym h))
passed-last (client.Send delivery) w h l = subst (λ (x : Want). IsLast x) (sym (wanted-same h)) l
passed-last (client.Background order) w h l = absurd (wanted-ordered (sym h))
passed-last client.Done w h l = tt

last-passed : (asked : ClientWant) (w : Want) → want_of_client asked ≡ Wanted w → IsClientLast asked → IsLast w
last-passed (client.Cache c) w h l = subst (λ (x : Want). IsLast x) (wanted-same h) l
last-passed (client.Fetch order) w h l = absurd l
last-passed (client.Send delivery) w h l = absurd l
last-passed (client.Background order) w h l = absurd l
last-passed client.Done w h l = subst (λ (x : Want). IsLast x) (wanted-same h) tt

abbrev IsDone : Want → Type 0
IsDone Done = ⊤
IsDone w = ⊥

passed-done : (asked : ClientWant) (w : Want) → want_of_client asked ≡ Wanted w → w ≡ Done → asked ≡ client.Done
passed-done (client.Cache c) w h d = absurd (subst (λ (x : Want). IsDone x) (sym (wanted-same h ∙ d)) tt)
passed-done (client.Fetch order) w h d = absurd (wanted-ordered (sym h))
passed-done (client.Send delivery) w h d = absurd (subst (λ (x : Want). IsDone x) (sym (wanted-same h ∙ d)) tt)
passed-done (client.Background order) w h d = absurd (wanted-ordered (sym h))
passed-done client.Done w h d = refl

ordered-not-last : (asked : ClientWant) (order : Order) → want_of_client asked ≡ Ordered order → IsClientLast asked → ⊥
ordered-not-last (client.Cache c) order h l = wanted-ordered h
ordered-not-last (client.Fetch other) order h l = l
ordered-not-last (client.Send delivery) order h l = l
ordered-not-last (client.Background other) order h l = l
ordered-not-last client.Done order h l = wanted-ordered h

-- a client that comes from a fetch asks for none
not-ordered : (F O : Type 0) (asked : ClientWant) (order : Order) → (F → ⊥) → OkWant F O asked → want_of_client asked ≡ Ordered order → ⊥
not-ordered F O (client.Cache c) order n ok h = wanted-ordered h
not-ordered F O (client.Fetch other) order n ok h = n ok
not-ordered F O (client.Send delivery) order n ok h = wanted-ordered h
not-ordered F O (client.Background other) order n ok h = ok
not-ordered F O client.Done order n ok h = wanted-ordered h

-- what comes of its fetch answers it
outcome-answers : (asked : ClientWant) (order : Order) (outcome : FetchOutcome) → IsOwn asked → want_of_client asked ≡ Ordered order → ComesOf order outcome
    → ClientAnswers asked (given.Fetched outcome)
outcome-answers (client.Cache c) order outcome own h of = absurd (wanted-ordered h)
outcome-answers (client.Send delivery) order outcome own h of = absurd (wanted-ordered h)
outcome-answers client.Done order outcome own h of = absurd (wanted-ordered h)
outcome-answers (client.Fetch other) order (Delivered view m uncacheable) own h of = tt
outcome-answers (client.Fetch other) order Failed own h of = tt
outcome-answers (client.Fetch other) order Ended own h of =
    absurd (false-true (sym own ∙ ap (λ (o : Order). o.background) (ordered-same h) ∙ of))
outcome-answers (client.Background other) order (Delivered view m uncacheable) own h of =
    absurd (false-true (sym (sym own ∙ ap (λ (o : Order). o.background) (ordered-same h) ∙ of.0)))
outcome-answers (client.Background other) order Failed own h of =
    absurd (false-true (sym (sym own ∙ ap (λ (o : Order). o.background) (ordered-same h) ∙ of)))
outcome-answers (client.Background other) order Ended own h of = tt

own-reply : (c : Call) (x : Reply) → IsOwnCall c → IsReply c x → IsAnswer c x
own-reply call.Begin x own h = absurd own
own-reply (call.Pick vcl target word) x own h = absurd own
own-reply (call.Insert token object stale) x own h = absurd own
own-reply c x own h = h

-- what answers the round's want answers its client's
passed-answers : (asked : ClientWant) (w : Want) (g : Given) → IsOwn asked → want_of_client asked ≡ Wanted w → AnswersIt w g → (IsClientLast asked → ⊥) → ClientAnswers asked g
passed-answers (client.Cache c) w (given.Reply told) own h a n =
    own-reply c told.reply own (subst (λ (x : Want). AnswersIt x (given.Reply told)) (sym (wanted-same h)) a)
passed-answers (client.Cache c) w g own h a n = absurd (subst (λ (x : Want). AnswersIt x g) (sym (wanted-same h)) a)
passed-answers (client.Fetch order) w g own h a n = absurd (wanted-ordered (sym h))
passed-answers (client.Send delivery) w given.Sent own h a n = tt
passed-answers (client.Send delivery) w g own h a n = absurd (subst (λ (x : Want). AnswersIt x g) (sym (wanted-same h)) a)
passed-answers (client.Background order) w g own h a n = absurd (wanted-ordered (sym h))
passed-answers client.Done w g own h a n = absurd (n tt)

-- a fetch asks for its own calls and its exchanges alone
abbrev IsFetchWant : Want → Type 0
IsFetchWant (Cache (call.Pick vcl target word)) = ⊤
IsFetchWant (Cache (call.Insert token object stale)) = ⊤
IsFetchWant (Cache (call.Drop token)) = ⊤
IsFetchWant (Cache c) = ⊥
IsFetchWant (Exchange number backend request) = ⊤
IsFetchWant w = ⊥

made-of-fetch : (order : Order) (number : ℕ) (asked : FetchWant) (w : Want) → IsFor order asked → made_of number asked ≡ made.Wanted w → IsFetchWant w
made-of-fetch order number (fetch.Cache (call.Pick vcl target word)) w f h = subst (λ (x : Want). IsFetchWant x) (made-same h) tt
made-of-fetch order number (fetch.Cache (call.Insert token object stale)) w f h = subst (λ (x : Want). IsFetchWant x) (made-same h) tt
made-of-fetch order number (fetch.Cache (call.Drop token)) w f h = subst (λ (x : Want). IsFetchWant x) (made-same h) tt
made-of-fetch order number (fetch.Cache c) w f h = absurd f
made-of-fetch order number (fetch.Ask backend request) w f h = subst (λ (x : Want). IsFetchWant x) (made-same h) tt
made-of-fetch order number (fetch.Done outcome) w f h = absurd (made-over (sym h))

fetch-not-last : (w : Want) → IsFetchWant w → IsLast w → ⊥
fetch-not-last (Cache call.End) f l = f
fetch-not-last (Cache c) f l = l
fetch-not-last (Exchange number backend request) f l = l
fetch-not-last (Send delivery) f l = f
fetch-not-last Done f l = f

fetch-over : (order : Order) (asked : FetchWant) (number : ℕ) (outcome : FetchOutcome) → IsFor order asked → made_of number asked ≡ made.Over outcome → ComesOf order outcome
fetch-over order (fetch.Cache c) number outcome f h = absurd (made-over h)
fetch-over order (fetch.Ask backend request) number outcome f h = absurd (made-over h)
fetch-over order (fetch.Done other) number outcome f h = subst (λ (o : FetchOutcome). ComesOf order o) (over-same h) f

-- ---- where a round stands, its client began as its Begin was told, and its fetch is one that the client asked for

pub record Led (request : Request) (peer : List ℕ) (start : Next) (givens : List Given) : Type 0 where
  pub number : ℕ
  pub vcl : ℕ
  pub opened : start ≡ opening number vcl request peer
  pub from : FromStart givens

abbrev IsOrdered : Evaluator → Next → List Given → Order → Type 0
IsOrdered e start givens order = (asked : ClientWant) × ClientWants (for_client e) start givens asked × (want_of_client asked ≡ Ordered order)

abbrev Tied : Evaluator → Request → List ℕ → Node → Type 0
Tied e request peer (Opening asked address) = (asked ≡ request) × (address ≡ peer)
Tied e request peer (AtClient start givens) = Led request peer start givens
Tied e request peer (AtFetch start givens order told) = Led request peer start givens × IsOrdered e start givens order
Tied e request peer Over = ⊤

abbrev TiedFlow : Evaluator → Request → List ℕ → Flow → Type 0
TiedFlow e request peer (ToClient start givens) = Led request peer start givens
TiedFlow e request peer (BackToClient start givens) = Led request peer start givens
TiedFlow e request peer (ToFetch start givens order told) = Led request peer start givens × IsOrdered e start givens order
TiedFlow e request peer Ends = ⊤

more-from : (g : Given) (givens : List Given) → FromStart givens → FromStart (g ∷ givens)
more-from g [] f = absurd f
more-from g (h ∷ givens) f = f

more-led : (request : Request) (peer : List ℕ) (start : Next) (g : Given) (givens : List Given) → Led request peer start givens → Led request peer start (g ∷ givens)
more-led request peer start g givens l = record { number = l.number; vcl = l.vcl; opened = l.opened; from = more-from g givens l.from }

begun-tied : (e : Evaluator) (request asked : Request) (peer address : List ℕ) (x : Reply) → asked ≡ request → address ≡ peer → TiedFlow e request peer (after_begin asked address x)
begun-tied e request asked peer address (reply.Began number vcl text) r p =
    record {
      number = number;
      vcl = vcl;
      opened = ap (λ (q : Request). opening number vcl q address) r ∙ ap (λ (a : List ℕ). opening number vcl request a) p;
      from = tt;
    }
begun-tied e request asked peer address x r p = tt

flow-tied : (e : Evaluator) (request : Request) (peer : List ℕ) (n : Node) (g : Given) → Tied e request peer n → TiedFlow e request peer (flow_of n g)
flow-tied e request peer (Opening asked address) (given.Reply told) t = begun-tied e request asked peer address told.reply t.0 t.1
flow-tied e request peer (Opening asked address) g t = tt
flow-tied e request peer (AtClient start givens) g t = more-led request peer start g givens t
flow-tied e request peer (AtFetch start givens order told) g t = t
flow-tied e request peer Over g t = tt

settles-tied : (e : Evaluator) (request : Request) (peer : List ℕ) {d : Option ℕ} {flow : Flow} {n : Node} {w : Want} → Settles e d flow n w → TiedFlow e request peer flow → Tied e request peer n
settles-tied e request peer (passes asked q k) t = t
settles-tied e request peer (orders asked order q k later) t = settles-tied e request peer later (t, (asked, q, k))
settles-tied e request peer (asks asked q k) t = t
settles-tied e request peer (returns {start = start} {givens = givens} asked outcome q k later) t =
    settles-tied e request peer later (more-led request peer start (given.Fetched outcome) givens t.0)
settles-tied e request peer (passes_back asked q k) t = t
settles-tied e request peer (breaks asked order q k) t = tt
settles-tied e request peer ends t = tt

pub reaches-tied : (e : Evaluator) (request : Request) (peer : List ℕ) (givens : List Given) (n : Node) → Reaches e request peer givens n → Tied e request peer n
reaches-tied e request peer [] n p = subst (λ (x : Node). Tied e request peer x) (sym p) (refl, refl)
reaches-tied e request peer (g ∷ givens) n p =
    settles-tied e request peer p.4 (flow-tied e request peer p.0 g (reaches-tied e request peer givens p.0 p.3))

-- what is wanted there
abbrev pub WantsAt : Evaluator → Option ℕ → Node → Want → Type 0
WantsAt e d (Opening request peer) w = ⊥
WantsAt e d (AtClient start givens) w = (asked : ClientWant) × ClientWants (for_client e) start givens asked × (want_of_client asked ≡ Wanted w)
WantsAt e d (AtFetch start givens order told) w =
    (asked : FetchWant) × FetchWants e (word_of d order.number) (fetch_opening order) told asked × (made_of order.number asked ≡ made.Wanted w)
WantsAt e d Over w = w ≡ Done

pub wants-at : (e : Evaluator) {d : Option ℕ} {flow : Flow} {n : Node} {w : Want} → Settles e d flow n w → WantsAt e d n w
wants-at e (passes asked q k) = (asked, q, k)
wants-at e (orders asked order q k later) = wants-at e later
wants-at e (asks asked q k) = (asked, q, k)
wants-at e (returns asked outcome q k later) = wants-at e later
wants-at e (passes_back asked q k) = (asked, q, k)
wants-at e (breaks asked order q k) = refl
wants-at e ends = refl

-- ---- behind the end nothing is wanted

passed-over : (asked : ClientWant) (w : Want) → asked ≡ client.Done → want_of_client asked ≡ Wanted w → w ≡ Done
passed-over asked w same h = sym (wanted-same (ap (λ (x : ClientWant). want_of_client x) (sym same) ∙ h))

client-over : (e : Evaluator) → OneTurn e → {d : Option ℕ} {m : Node} {later : Want} (start : Next) (givens : List Given) (g : Given) (asked : ClientWant)
    → IsClientLast asked → ClientWants (for_client e) start givens asked → Settles e d (ToClient start (g ∷ givens)) m later → later ≡ Done
client-over e o start givens g asked l p (passes {want = w} other q k) =
    passed-over other w (nothing-behind (for_client e) o start givens g asked other l p q) k
client-over e o start givens g asked l p (orders other order q k rest) =
    let over : other ≡ client.Done = nothing-behind (for_client e) o start givens g asked other l p q in
    absurd (wanted-ordered (ap (λ (x : ClientWant). want_of_client x) (sym over) ∙ k))

over-over : (e : Evaluator) {d : Option ℕ} {m : Node} {later : Want} → Settles e d Ends m later → later ≡ Done
over-over e ends = refl

node-over : (e : Evaluator) → OneTurn e → (request : Request) (peer : List ℕ) (d : Option ℕ) {d2 : Option ℕ} (n m : Node) (g : Given) (w later : Want)
    → Tied e request peer n → WantsAt e d n w → IsLast w → Settles e d2 (flow_of n g) m later → later ≡ Done
node-over e o request peer d (Opening asked address) m g w later t at l p = absurd at
node-over e o request peer d (AtClient start givens) m g w later t at l p = client-over e o start givens g at.0 (passed-last at.0 w at.2 l) at.1 p
node-over e o request peer d (AtFetch start givens order told) m g w later t at l p =
    absurd (fetch-not-last w (made-of-fetch order order.number at.0 w (wants-for e order told (word_of d order.number) at.0 at.1) at.2) l)
node-over e o request peer d Over m g w later t at l p = over-over e p

pub nothing-behind-round : (e : Evaluator) → OneTurn e → (request : Request) (peer : List ℕ) (givens : List Given) (g : Given) (d d2 : Option ℕ) (w later : Want)
    → IsLast w → Wants e d request peer givens w → Wants e d2 request peer (g ∷ givens) later → later ≡ Done
nothing-behind-round e o request peer [] g d d2 w later l p q = absurd (subst (λ (x : Want). IsLast x) p l)
nothing-behind-round e o request peer (x ∷ givens) g d d2 w later l p q =
    let here : Reaches e request peer (x ∷ givens) p.1 = (p.0, d, w, p.2, p.3) in
    let same : q.0 ≡ p.1 = reaches-one e o request peer (x ∷ givens) p.1 q.0 here q.2 in
    node-over e o request peer d p.1 q.1 g w later (reaches-tied e request peer (x ∷ givens) p.1 here) (wants-at e p.3) l
    (subst (λ (n : Node). Settles e d2 (flow_of n g) q.1 later) same q.3)

-- ---- before that something is

done-fetch : (w : Want) → IsFetchWant w → w ≡ Done → ⊥
done-fetch w f d = subst (λ (x : Want). IsFetchWant x) d f

back-lives : (e : Evaluator) → OneTurn e → {d : Option ℕ} {m : Node} {later : Want} (start : Next) (g : Given) (givens : List Given) (outcome : FetchOutcome) (asked : ClientWant)
    → ClientWants (for_client e) start (g ∷ givens) asked → (IsClientLast asked → ⊥) → ClientAnswers asked (given.Fetched outcome)
    → Settles e d (BackToClient start (given.Fetched outcome ∷ g ∷ givens)) m later → later ≡ Done → ⊥
back-lives e o start g givens outcome asked p n a (passes_back {want = w} other q k) over =
    goes-on-to-end (for_client e) o start (g ∷ givens) (given.Fetched outcome) asked other n a p q (passed-done other w k over)
back-lives e o start g givens outcome asked p n a (breaks other order q k) over =
    not-ordered ⊥ ⊤ other order (λ x. x) (no-fetch-behind (for_client e) start givens g outcome other q) k

fetch-lives : (e : Evaluator) → OneTurn e → {d : Option ℕ} {m : Node} {later : Want} (start : Next) (givens : List Given) (order : Order) (told : List Given) (asked : ClientWant)
    → FromStart givens → ClientWants (for_client e) start givens asked → want_of_client asked ≡ Ordered order
    → Settles e d (ToFetch start givens order told) m later → later ≡ Done → ⊥
fetch-lives e o {d = d} start givens order told asked f p h (asks {want = w} other q k) over =
    done-fetch w (made-of-fetch order order.number other w (wants-for e order told (word_of d order.number) other q) k) over
fetch-lives e o start [] order told asked f p h (returns other outcome q k rest) over = f
fetch-lives e o {d = d} start (g ∷ givens) order told asked f p h (returns other outcome q k rest) over =
    back-lives e o start g givens outcome asked p (ordered-not-last asked order h)
    (outcome-answers asked order outcome (wants-own (for_client e) start (g ∷ givens) asked p) h
    (fetch-over order other order.number outcome (wants-for e order told (word_of d order.number) other q) k))
    rest over

client-lives : (e : Evaluator) → OneTurn e → {d : Option ℕ} {m : Node} {later : Want} (start : Next) (givens : List Given) (g : Given) (asked : ClientWant)
    → FromStart givens → ClientWants (for_client e) start givens asked → (IsClientLast asked → ⊥) → ClientAnswers asked g
    → Settles e d (ToClient start (g ∷ givens)) m later → later ≡ Done → ⊥
client-lives e o start givens g asked f p n a (passes {want = w} other q k) over =
    goes-on-to-end (for_client e) o start givens g asked other n a p q (passed-done other w k over)
client-lives e o start givens g asked f p n a (orders other order q k rest) over =
    fetch-lives e o start (g ∷ givens) order (given.Start ∷ []) other (more-from g givens f) q k rest over

ok-done : (asked : ClientWant) → OkWant ⊥ ⊥ asked → asked ≡ client.Done → ⊥
ok-done asked ok over = subst (λ (x : ClientWant). OkWant ⊥ ⊥ x) over ok

first-lives : (e : Evaluator) {d : Option ℕ} {m : Node} {later : Want} (number vcl : ℕ) (request : Request) (peer : List ℕ)
    → Settles e d (ToClient (opening number vcl request peer) (given.Start ∷ [])) m later → later ≡ Done → ⊥
first-lives e number vcl request peer (passes {want = w} other q k) over =
    ok-done other (first-ok (for_client e) number vcl request peer given.Start other q) (passed-done other w k over)
first-lives e number vcl request peer (orders other order q k rest) over =
    not-ordered ⊥ ⊥ other order (λ x. x) (first-ok (for_client e) number vcl request peer given.Start other q) k

begun-lives : (e : Evaluator) {d : Option ℕ} {m : Node} {later : Want} (request : Request) (peer : List ℕ) (x : Reply)
    → IsReply call.Begin x → Settles e d (after_begin request peer x) m later → later ≡ Done → ⊥
begun-lives e request peer (reply.Began number vcl text) a p over = first-lives e number vcl request peer p over
begun-lives e request peer x a p over = a

opening-lives : (e : Evaluator) {d : Option ℕ} {m : Node} {later : Want} (request : Request) (peer : List ℕ) (g : Given)
    → AnswersIt (Cache call.Begin) g → Settles e d (flow_of (Opening request peer) g) m later → later ≡ Done → ⊥
opening-lives e request peer (given.Reply told) a p over = begun-lives e request peer told.reply a p over
opening-lives e request peer g a p over = a

node-lives : (e : Evaluator) → OneTurn e → (request : Request) (peer : List ℕ) (d : Option ℕ) {d2 : Option ℕ} (n m : Node) (g : Given) (w later : Want)
    → Tied e request peer n → WantsAt e d n w → (IsLast w → ⊥) → AnswersIt w g → Settles e d2 (flow_of n g) m later → later ≡ Done → ⊥
node-lives e o request peer d (Opening asked address) m g w later t at l a p over = at
node-lives e o request peer d (AtClient start givens) m g w later t at l a p over =
    let not-last : IsClientLast at.0 → ⊥ = λ x. l (last-passed at.0 w at.2 x) in
    client-lives e o start givens g at.0 t.from at.1 not-last
    (passed-answers at.0 w g (wants-own (for_client e) start givens at.0 at.1) at.2 a not-last) p over
node-lives e o request peer d (AtFetch start givens order told) m g w later t at l a p over =
    fetch-lives e o start givens order (g ∷ told) t.1.0 t.0.from t.1.1 t.1.2 p over
node-lives e o request peer d Over m g w later t at l a p over = l (subst (λ (x : Want). IsLast x) (sym at) tt)

pub goes-on-round : (e : Evaluator) → OneTurn e → (request : Request) (peer : List ℕ) (givens : List Given) (g : Given) (d d2 : Option ℕ) (w later : Want)
    → (IsLast w → ⊥) → AnswersIt w g → Wants e d request peer givens w → Wants e d2 request peer (g ∷ givens) later → later ≡ Done → ⊥
goes-on-round e o request peer [] g d d2 w later l a p q over =
    opening-lives e request peer g (subst (λ (x : Want). AnswersIt x g) p a)
    (subst (λ (n : Node). Settles e d2 (flow_of n g) q.1 later) q.2 q.3) over
goes-on-round e o request peer (x ∷ givens) g d d2 w later l a p q over =
    let here : Reaches e request peer (x ∷ givens) p.1 = (p.0, d, w, p.2, p.3) in
    let same : q.0 ≡ p.1 = reaches-one e o request peer (x ∷ givens) p.1 q.0 here q.2 in
    node-lives e o request peer d p.1 q.1 g w later (reaches-tied e request peer (x ∷ givens) p.1 here) (wants-at e p.3) l a
    (subst (λ (n : Node). Settles e d2 (flow_of n g) q.1 later) same q.3) over

-- ---- its Begin is its first want alone

abbrev IsBegin : Want → Type 0
IsBegin (Cache call.Begin) = ⊤
IsBegin w = ⊥

own-not-begin : (asked : ClientWant) (w : Want) → IsOwn asked → want_of_client asked ≡ Wanted w → IsBegin w → ⊥
own-not-begin (client.Cache call.Begin) w own h b = own
own-not-begin (client.Cache c) w own h b = subst (λ (x : Want). IsBegin x) (sym (wanted-same h)) b
own-not-begin (client.Fetch order) w own h b = wanted-ordered (sym h)
own-not-begin (client.Send delivery) w own h b = subst (λ (x : Want). IsBegin x) (sym (wanted-same h)) b
own-not-begin (client.Background order) w own h b = wanted-ordered (sym h)
own-not-begin client.Done w own h b = subst (λ (x : Want). IsBegin x) (sym (wanted-same h)) b

fetch-not-begin : (w : Want) → IsFetchWant w → IsBegin w → ⊥
fetch-not-begin (Cache call.Begin) f b = f
fetch-not-begin (Cache c) f b = b
fetch-not-begin (Exchange number backend request) f b = b
fetch-not-begin (Send delivery) f b = b
fetch-not-begin Done f b = b

at-not-begin : (e : Evaluator) (d : Option ℕ) (n : Node) (w : Want) → WantsAt e d n w → IsBegin w → ⊥
at-not-begin e d (Opening request peer) w at b = at
at-not-begin e d (AtClient start givens) w at b = own-not-begin at.0 w (wants-own (for_client e) start givens at.0 at.1) at.2 b
at-not-begin e d (AtFetch start givens order told) w at b =
    fetch-not-begin w (made-of-fetch order order.number at.0 w (wants-for e order told (word_of d order.number) at.0 at.1) at.2) b
at-not-begin e d Over w at b = subst (λ (x : Want). IsBegin x) at b

pub begun-once : (e : Evaluator) (request : Request) (peer : List ℕ) (givens : List Given) (g : Given) (d : Option ℕ) (w : Want)
    → Wants e d request peer (g ∷ givens) w → w ≡ Cache call.Begin → ⊥
begun-once e request peer givens g d w p same = at-not-begin e d p.1 w (wants-at e p.3) (subst (λ (x : Want). IsBegin x) (sym same) tt)

-- ---- it has one response

abbrev SentNode : Node → Type 0
SentNode (Opening request peer) = ⊥
SentNode (AtClient start givens) = FromStart givens × WasSent givens
SentNode (AtFetch start givens order told) = FromStart givens × WasSent givens
SentNode Over = ⊤

abbrev SentFlow : Flow → Type 0
SentFlow (ToClient start givens) = FromStart givens × WasSent givens
SentFlow (BackToClient start givens) = FromStart givens × WasSent givens
SentFlow (ToFetch start givens order told) = FromStart givens × WasSent givens
SentFlow Ends = ⊤

more-sent : (g : Given) (givens : List Given) → WasSent givens → WasSent (g ∷ givens)
more-sent given.Sent givens s = tt
more-sent g givens s = s

sent-flow : (n : Node) (g : Given) → SentNode n → SentFlow (flow_of n g)
sent-flow (Opening request peer) g s = absurd s
sent-flow (AtClient start givens) g s = (more-from g givens s.0, more-sent g givens s.1)
sent-flow (AtFetch start givens order told) g s = s
sent-flow Over g s = tt

sent-settles : (e : Evaluator) {d : Option ℕ} {flow : Flow} {n : Node} {w : Want} → Settles e d flow n w → SentFlow flow → SentNode n
sent-settles e (passes asked q k) s = s
sent-settles e (orders asked order q k later) s = sent-settles e later s
sent-settles e (asks asked q k) s = s
sent-settles e (returns {givens = givens} asked outcome q k later) s =
    sent-settles e later (more-from (given.Fetched outcome) givens s.0, more-sent (given.Fetched outcome) givens s.1)
sent-settles e (passes_back asked q k) s = s
sent-settles e (breaks asked order q k) s = tt
sent-settles e ends s = tt

sent-reaches : (e : Evaluator) (request : Request) (peer : List ℕ) (givens more : List Given) (n : Node)
    → ((m : Node) → Reaches e request peer givens m → SentNode m) → Reaches e request peer (more ++ givens) n → SentNode n
sent-reaches e request peer givens [] n h p = h n p
sent-reaches e request peer givens (g ∷ more) n h p = sent-settles e p.4 (sent-flow p.0 g (sent-reaches e request peer givens more p.0 h p.3))

late-not-send : (asked : ClientWant) (w : Want) → IsLate asked → want_of_client asked ≡ Wanted w → IsSend w → ⊥
late-not-send (client.Cache c) w l h s = subst (λ (x : Want). IsSend x) (sym (wanted-same h)) s
late-not-send (client.Fetch order) w l h s = l
late-not-send (client.Send delivery) w l h s = l
late-not-send (client.Background order) w l h s = wanted-ordered (sym h)
late-not-send client.Done w l h s = subst (λ (x : Want). IsSend x) (sym (wanted-same h)) s

fetch-not-send : (w : Want) → IsFetchWant w → IsSend w → ⊥
fetch-not-send (Cache c) f s = s
fetch-not-send (Exchange number backend request) f s = s
fetch-not-send (Send delivery) f s = f
fetch-not-send Done f s = s

sent-wants : (e : Evaluator) (d : Option ℕ) (n : Node) (w : Want) → SentNode n → WantsAt e d n w → IsSend w → ⊥
sent-wants e d (Opening request peer) w s at is = at
sent-wants e d (AtClient start givens) w s at is = late-not-send at.0 w (late-wants (for_client e) start givens at.0 s.0 s.1 at.1) at.2 is
sent-wants e d (AtFetch start givens order told) w s at is =
    fetch-not-send w (made-of-fetch order order.number at.0 w (wants-for e order told (word_of d order.number) at.0 at.1) at.2) is
sent-wants e d Over w s at is = subst (λ (x : Want). IsSend x) at is

send-flow : (e : Evaluator) (request : Request) (peer : List ℕ) (d : Option ℕ) (n : Node) (w : Want) → Tied e request peer n → WantsAt e d n w → IsSend w → SentFlow (flow_of n given.Sent)
send-flow e request peer d (Opening asked address) w t at is = absurd at
send-flow e request peer d (AtClient start givens) w t at is = (more-from given.Sent givens t.from, tt)
send-flow e request peer d (AtFetch start givens order told) w t at is =
    absurd (fetch-not-send w (made-of-fetch order order.number at.0 w (wants-for e order told (word_of d order.number) at.0 at.1) at.2) is)
send-flow e request peer d Over w t at is = absurd (subst (λ (x : Want). IsSend x) at is)

sent-behind : (e : Evaluator) → OneTurn e → (request : Request) (peer : List ℕ) (givens : List Given) (d : Option ℕ) (w : Want)
    → IsSend w → Wants e d request peer givens w → (n : Node) → Reaches e request peer (given.Sent ∷ givens) n → SentNode n
sent-behind e o request peer [] d w is p n q = absurd (subst (λ (x : Want). IsSend x) p is)
sent-behind e o request peer (x ∷ givens) d w is p n q =
    let here : Reaches e request peer (x ∷ givens) p.1 = (p.0, d, w, p.2, p.3) in
    let same : q.0 ≡ p.1 = reaches-one e o request peer (x ∷ givens) p.1 q.0 here q.3 in
    let flow : SentFlow (flow_of p.1 given.Sent) = send-flow e request peer d p.1 w (reaches-tied e request peer (x ∷ givens) p.1 here) (wants-at e p.3) is in
    sent-settles e q.4 (subst (λ (m : Node). SentFlow (flow_of m given.Sent)) (sym same) flow)

pub one-response-round : (e : Evaluator) → OneTurn e → (request : Request) (peer : List ℕ) (givens more : List Given) (d d2 : Option ℕ) (w later : Want)
    → IsSend w → Wants e d request peer givens w → Wants e d2 request peer (more ++ given.Sent ∷ givens) later → IsSend later → ⊥
one-response-round e o request peer givens [] d d2 w later is p q again =
    sent-wants e d2 q.1 later (sent-behind e o request peer givens d w is p q.1 (q.0, d2, later, q.2, q.3)) (wants-at e q.3) again
one-response-round e o request peer givens (g ∷ more) d d2 w later is p q again =
    sent-wants e d2 q.1 later
    (sent-reaches e request peer (given.Sent ∷ givens) (g ∷ more) q.1 (sent-behind e o request peer givens d w is p) (q.0, d2, later, q.2, q.3))
    (wants-at e q.3) again

-- ---- a fetch behind it begins once it was sent

unlike-sent : (g : Given) → (IsSent g → ⊥) → g ≢ given.Sent
unlike-sent g n same = n (subst (λ (x : Given). IsSent x) (sym same) tt)

is-sent : (g : Given) → ((g ≢ given.Sent) → ⊥) → g ≡ given.Sent
is-sent given.Sent k = refl
is-sent given.Start k = absurd (k (unlike-sent given.Start (λ x. x)))
is-sent (given.Reply told) k = absurd (k (unlike-sent (given.Reply told) (λ x. x)))
is-sent (given.Exchange got) k = absurd (k (unlike-sent (given.Exchange got) (λ x. x)))
is-sent (given.Fetched outcome) k = absurd (k (unlike-sent (given.Fetched outcome) (λ x. x)))

first-behind : (e : Evaluator) (number vcl : ℕ) (request : Request) (peer : List ℕ) (g : Given) (order : Order)
    → ClientWants (for_client e) (opening number vcl request peer) (g ∷ []) (client.Background order) → ⊥
first-behind e number vcl request peer g order q = first-ok (for_client e) number vcl request peer g (client.Background order) q

ordered-behind : (e : Evaluator) (request : Request) (peer : List ℕ) (start : Next) (g : Given) (givens : List Given) (order : Order) (asked : ClientWant)
    → Led request peer start (g ∷ givens) → ClientWants (for_client e) start (g ∷ givens) asked → want_of_client asked ≡ Ordered order → order.background ≡ true → g ≡ given.Sent
ordered-behind e request peer start g givens order (client.Cache c) l q k b = absurd (wanted-ordered k)
ordered-behind e request peer start g givens order (client.Send delivery) l q k b = absurd (wanted-ordered k)
ordered-behind e request peer start g givens order client.Done l q k b = absurd (wanted-ordered k)
ordered-behind e request peer start g givens order (client.Fetch other) l q k b =
    absurd (false-true (sym (wants-own (for_client e) start (g ∷ givens) (client.Fetch other) q) ∙ ap (λ (o : Order). o.background) (ordered-same k) ∙ b))
ordered-behind e request peer start g [] order (client.Background other) l q k b =
    absurd (first-behind e l.number l.vcl request peer g other (subst (λ (s : Next). ClientWants (for_client e) s (g ∷ []) (client.Background other)) l.opened q))
ordered-behind e request peer start g (x ∷ givens) order (client.Background other) l q k b =
    is-sent g (λ n. background-behind (for_client e) start givens x g (client.Background other) q n)

pub fetch-behind : (e : Evaluator) (request : Request) (peer : List ℕ) (givens : List Given) (start : Next) (g : Given) (told : List Given) (order : Order) (made : List Given)
    → Reaches e request peer givens (AtFetch start (g ∷ told) order made) → order.background ≡ true → g ≡ given.Sent
fetch-behind e request peer givens start g told order made p b =
    let t : Tied e request peer (AtFetch start (g ∷ told) order made) = reaches-tied e request peer givens (AtFetch start (g ∷ told) order made) p in
    ordered-behind e request peer start g told order t.1.0 t.0 t.1.1 t.1.2 b

-- ---- a lookup that is told to wait is made again

pub cache-same : {x y : Call} → Cache x ≡ Cache y → x ≡ y
cache-same h = cc

abbrev IsLookup : Want → Type 0
IsLookup (Cache (call.Lookup query)) = ⊤
IsLookup w = ⊥

fetch-not-lookup : (w : Want) → IsFetchWant w → IsLookup w → ⊥
fetch-not-lookup (Cache (call.Lookup query)) f l = f
fetch-not-lookup (Cache c) f l = l
fetch-not-lookup (Exchange number backend request) f l = l
fetch-not-lookup (Send delivery) f l = l
fetch-not-lookup Done f l = l

passed-lookup : (asked : ClientWant) (query : Query) → want_of_client asked ≡ Wanted (Cache (call.Lookup query)) → asked ≡ client.Cache (call.Lookup query)
passed-lookup (client.Cache c) query h = ap (λ (x : Call). client.Cache x) (cache-same (wanted-same h))
passed-lookup (client.Fetch order) query h = absurd (wanted-ordered (sym h))
passed-lookup (client.Send delivery) query h = absurd (subst (λ (x : Want). IsLookup x) (sym (wanted-same h)) tt)
passed-lookup (client.Background order) query h = absurd (wanted-ordered (sym h))
passed-lookup client.Done query h = absurd (subst (λ (x : Want). IsLookup x) (sym (wanted-same h)) tt)

client-again : (e : Evaluator) → OneTurn e → {d : Option ℕ} {m : Node} {later : Want} (start : Next) (givens : List Given) (told : Told) (token : ℕ) (query : Query)
    → told.reply ≡ reply.Wait token → ClientWants (for_client e) start givens (client.Cache (call.Lookup query))
    → Settles e d (ToClient start (given.Reply told ∷ givens)) m later → later ≡ Cache (call.Lookup query)
client-again e o start givens told token query wait p (passes other q k) =
    let again : other ≡ client.Cache (call.Lookup query) = looks-again (for_client e) o start givens told token query other wait p q in
    sym (wanted-same (ap (λ (x : ClientWant). want_of_client x) (sym again) ∙ k))
client-again e o start givens told token query wait p (orders other order q k rest) =
    let again : other ≡ client.Cache (call.Lookup query) = looks-again (for_client e) o start givens told token query other wait p q in
    absurd (wanted-ordered (ap (λ (x : ClientWant). want_of_client x) (sym again) ∙ k))

node-again : (e : Evaluator) → OneTurn e → (d : Option ℕ) {d2 : Option ℕ} (n m : Node) (told : Told) (token : ℕ) (query : Query) (later : Want)
    → told.reply ≡ reply.Wait token → WantsAt e d n (Cache (call.Lookup query)) → Settles e d2 (flow_of n (given.Reply told)) m later → later ≡ Cache (call.Lookup query)
node-again e o d (Opening request peer) m told token query later wait at p = absurd at
node-again e o d (AtClient start givens) m told token query later wait at p =
    client-again e o start givens told token query wait
    (subst (λ (x : ClientWant). ClientWants (for_client e) start givens x) (passed-lookup at.0 query at.2) at.1) p
node-again e o d (AtFetch start givens order made) m told token query later wait at p =
    absurd (fetch-not-lookup (Cache (call.Lookup query))
    (made-of-fetch order order.number at.0 (Cache (call.Lookup query)) (wants-for e order made (word_of d order.number) at.0 at.1) at.2) tt)
node-again e o d Over m told token query later wait at p = absurd (subst (λ (x : Want). IsLookup x) at tt)

pub looks-again-round : (e : Evaluator) → OneTurn e → (request : Request) (peer : List ℕ) (givens : List Given) (told : Told) (token : ℕ) (query : Query) (d d2 : Option ℕ) (later : Want)
    → told.reply ≡ reply.Wait token → Wants e d request peer givens (Cache (call.Lookup query))
    → Wants e d2 request peer (given.Reply told ∷ givens) later → later ≡ Cache (call.Lookup query)
looks-again-round e o request peer [] told token query d d2 later wait p q = absurd (subst (λ (x : Want). IsLookup x) p tt)
looks-again-round e o request peer (x ∷ givens) told token query d d2 later wait p q =
    let here : Reaches e request peer (x ∷ givens) p.1 = (p.0, d, Cache (call.Lookup query), p.2, p.3) in
    let same : q.0 ≡ p.1 = reaches-one e o request peer (x ∷ givens) p.1 q.0 here q.2 in
    node-again e o d p.1 q.1 told token query later wait (wants-at e p.3)
    (subst (λ (n : Node). Settles e d2 (flow_of n (given.Reply told)) q.1 later) same q.3)
