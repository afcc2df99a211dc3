-- A fetch keeps its order, and what it wants is for that.
use Rattle.std.proofs.Common.{◌≡◌, ℕ, ◌≤◌, ◌<◌, Bool, true, false, List, [], ◌∷◌, Option, Some, None, refl, sym, ◌∙◌, ap, subst, arith}
use Rattle.std.proofs.lemmas.Bool.{ltb-true}
use Rattle.std.specs.Prelude.{⊤, is_some, option_map, if◌then◌else◌}
use Rattle.http_heads.specs.declared.exchange.Exchange.{Exchange}
use Rattle.http_heads.specs.declared.exchange.Exchange.TheVariants as exchange
use Rattle.cache_law.specs.declared.call.Query.{Query}
use Rattle.cache_law.specs.declared.call.Reply.{Reply}
use Rattle.cache_law.specs.declared.call.Reply.TheVariants as reply
use Rattle.cache_law.specs.declared.object.Object.{Object}
use Rattle.cache_law.specs.declared.object.Object.TheVariants.{Ordinary}
use Rattle.cache_law.specs.declared.object.ObjectView.{ObjectView}
use Rattle.cache_law.specs.declared.object.Response.{Response}
use Rattle.directors.specs.declared.target.Target.{Target}
use Rattle.cache_law.specs.declared.rounds.FetchOutcome.TheVariants.{Delivered, Failed, Ended}
use Rattle.cache_law.specs.declared.rounds.Given.{Given}
use Rattle.cache_law.specs.declared.rounds.Given.TheVariants as given
use Rattle.cache_law.specs.declared.rounds.Order.{Order}
use Rattle.vcl_context.specs.declared.context.Context.{Context}
use Rattle.vcl_context.specs.declared.turn.Return.{Return}
use Rattle.vcl_context.specs.declared.turn.Return.TheVariants as word
use Rattle.delivery.specs.declared.pages.Failure.TheVariants.{FetchFailed}
use Rattle.delivery.specs.Pages.{reason_of}
use Rattle.backend_request.specs.Stored.{response_of}
use Rattle.backend_request.specs.declared.receiving.Received.{Received}
use Rattle.backend_request.specs.Received.{received}
use Rattle.fetch_graph.specs.declared.fetch.Arrived.{Arrived}
use Rattle.fetch_graph.specs.declared.fetch.Fetch.{Fetch}
use Rattle.fetch_graph.specs.declared.fetch.Insertion.{Insertion}
use Rattle.fetch_graph.specs.declared.fetch.StoreAs.{StoreAs}
use Rattle.fetch_graph.specs.declared.fetch.StoreAs.TheVariants as store_as
use Rattle.fetch_graph.specs.declared.fetch.State.{State}
use Rattle.fetch_graph.specs.declared.fetch.State.TheVariants as state
use Rattle.fetch_graph.specs.declared.fetch.WaitPoint.{WaitPoint}
use Rattle.fetch_graph.specs.declared.fetch.WaitPoint.TheVariants as point
use Rattle.fetch_graph.specs.declared.fetch.Next.{Next}
use Rattle.fetch_graph.specs.declared.fetch.Next.TheVariants.{Enter, Rest}
use Rattle.fetch_graph.specs.declared.fetch.FetchWant.{FetchWant}
use Rattle.vcl_context.specs.Initial.{status_or_503}
use Rattle.fetch_graph.specs.Opening.{opening, purpose_of, content_of}
use Rattle.fetch_graph.specs.Graph.{erring, failing, view_of, outcome_of, token_dropped, without_response, may_retry, fetch_again_if, last_retry, insertion_first, deliver_as, timing_left, kept_by, made_at, confirmed_number, leads}
use Rattle.fetch_graph.specs.Answers.{over, after_choice, after_pick, responding, after_receipt, after_exchange, after_insertion, takes}
use Rattle.fetch_graph.specs.Wants.{asks}
use Rattle.fetch_task.specs.Fetches.{Settles, rests, ends, asked, goes_on, Reaches, target_at, Wants}
use Rattle.vcl_runs.specs.Evaluators.{Evaluator}
use Rattle.fetch_task.specs.Laws.{fetch_of, Replaces, ComesOf, IsFor}

-- what a place means for an order
abbrev pub PointFor : Order → WaitPoint → Type 0
PointFor order (point.Insert i c) = (is_some order.looked ≡ true) × Replaces order i.stale
PointFor order point.Drop = is_some order.looked ≡ true
PointFor order (point.Over outcome) = ComesOf order outcome
PointFor order point = ⊤

abbrev pub Tidy : Next → Type 0
Tidy (Enter s c f) = ⊤
Tidy (Rest point f) = PointFor f.order point

-- The same order as before, tried again at most so often, at a place that is for it.
pub record Keeps (f : Fetch) (next : Next) : Type 0 where
  pub order : (fetch_of next).order ≡ f.order
  pub retries : f.retries ≤ 4 → (fetch_of next).retries ≤ 4
  pub tidy : Tidy next

-- ---- what comes of a fetch

nothing-comes : (f : Fetch) (b : Bool) → f.order.background ≡ b → ComesOf f.order (if b then Ended else Failed)
nothing-comes f true h = h
nothing-comes f false h = h

response-comes : (f : Fetch) (view : ObjectView) (m : ℕ) (uncacheable b : Bool) → f.order.background ≡ b → view.number ≡ f.order.number
    → ComesOf f.order (if b then Ended else Delivered view m uncacheable)
response-comes f view m uncacheable true h n = h
response-comes f view m uncacheable false h n = (h, n)

over-keeps : (f : Fetch) → Keeps f (over f)
over-keeps f = record { order = refl; retries = λ h. h; tidy = nothing-comes f f.order.background refl }

given-keeps : (f : Fetch) (looked : Option Query) → f.order.looked ≡ looked → Keeps f (token_dropped looked f)
given-keeps f None e = record { order = refl; retries = λ h. h; tidy = nothing-comes f f.order.background refl }
given-keeps f (Some query) e = record { order = refl; retries = λ h. h; tidy = ap (λ (q : Option Query). is_some q) e }

pub abandoned-keeps : (f : Fetch) → Keeps f (without_response f)
abandoned-keeps f = given-keeps f f.order.looked refl

-- ---- the arrows

erring-keeps : (status : ℕ) (reason : List ℕ) (c : Context) (f : Fetch) → Keeps f (erring status reason c f)
unfolding erring
erring-keeps status reason c f = record { order = refl; retries = λ h. h; tidy = tt }

stale-replaced : (order : Order) (was_304 : Bool) (stale : Option ObjectView) → order.stale ≡ stale → Replaces order (confirmed_number was_304 stale)
stale-replaced order false stale e = tt
stale-replaced order true None e = tt
stale-replaced order true (Some view) e = ap (λ (s : Option ObjectView). option_map (λ (v : ObjectView). v.number) s) e

handed-keeps : (f : Fetch) (looked : Option Query) → f.order.looked ≡ looked → (k : StoreAs) (r : Response) (c : Context) → Keeps f (insertion_first looked k r c f)
unfolding insertion_first
handed-keeps f None e k r c =
    record { order = refl; retries = λ h. h; tidy = response-comes f (view_of f.order.number (Ordinary r)) f.moment true f.order.background refl refl }
handed-keeps f (Some query) e k r c =
    record { order = refl; retries = λ h. h; tidy = (ap (λ (q : Option Query). is_some q) e, stale-replaced f.order c.fetch_response.was_304 f.order.stale refl) }

delivered-keeps : (k : StoreAs) (a : Arrived) (c : Context) (f : Fetch) → Keeps f (deliver_as k a c f)
unfolding deliver_as
delivered-keeps k a c f = handed-keeps f f.order.looked refl k
    (response_of f.order.looked c.fetch_response.head a.body (timing_left a.origin c.fetch_response)) c

retried-keeps : (b : Bool) (c : Context) (f : Fetch) → may_retry f ≡ b → Keeps f (fetch_again_if b c f)
retried-keeps true c f e = record { order = refl; retries = λ h. (let few : f.retries < 4 = ltb-true f.retries 4 e in omega (arith, few)); tidy = tt }
retried-keeps false c f e = erring-keeps 503 (reason_of FetchFailed) c f

last-keeps : (b : Bool) (c : Context) (f : Fetch) → may_retry f ≡ b → Keeps f (last_retry b c f)
last-keeps true c f e = record { order = refl; retries = λ h. (let few : f.retries < 4 = ltb-true f.retries 4 e in omega (arith, few)); tidy = tt }
last-keeps false c f e = abandoned-keeps f

pub leads-keeps : (s : State) (w : Return) (c : Context) (f : Fetch) → Keeps f (leads s w c f)
leads-keeps state.Request word.Fetch c f = record { order = refl; retries = λ h. h; tidy = tt }
leads-keeps state.Request (word.Error status reason) c f = erring-keeps (status_or_503 status) reason c f
leads-keeps state.Request w c f = abandoned-keeps f
leads-keeps (state.Response a) word.Deliver c f = delivered-keeps (kept_by c.fetch_response) a c f
leads-keeps (state.Response a) (word.PassFor ttl) c f = delivered-keeps (store_as.HitForPass ttl) a c f
leads-keeps (state.Response a) (word.Error status reason) c f = erring-keeps (status_or_503 status) reason c f
leads-keeps (state.Response a) word.Retry c f = retried-keeps (may_retry f) c f refl
leads-keeps (state.Response a) w c f = abandoned-keeps f
leads-keeps (state.Error origin) word.Deliver c f = delivered-keeps (kept_by c.fetch_response) (made_at origin c) c f
leads-keeps (state.Error origin) word.Retry c f = last-keeps (may_retry f) c f refl
leads-keeps (state.Error origin) w c f = abandoned-keeps f

-- ---- the answers

-- what is kept of a fetch at another moment, and with another backend, is kept of it
pub at-moment : (f g : Fetch) (next : Next) → g.order ≡ f.order → g.retries ≡ f.retries → Keeps g next → Keeps f next
at-moment f g next o r k = record { order = k.order ∙ o; retries = λ h. k.retries (subst (λ (n : ℕ). n ≤ 4) (sym r) h); tidy = k.tidy }

chosen-keeps : (name : Option (List ℕ)) (c : Context) (m : ℕ) (f : Fetch) → Keeps f (after_choice name c m f)
chosen-keeps (Some name) c m f = record { order = refl; retries = λ h. h; tidy = tt }
chosen-keeps None c m f = at-moment f (record f { moment = m }) (failing c (record f { moment = m })) refl refl (erring-keeps 503 (reason_of FetchFailed) c (record f { moment = m }))

picked-keeps : (c : Context) (m : ℕ) (x : Reply) (f : Fetch) → Keeps f (after_pick c m x f)
picked-keeps c m (reply.Picked name) f = chosen-keeps name c m f
picked-keeps c m x f = over-keeps f

responding-keeps : (x : Received) (c : Context) (f : Fetch) → Keeps f (responding x c f)
unfolding responding
responding-keeps x c f = record { order = refl; retries = λ h. h; tidy = tt }

arrived-keeps : (x : Option Received) (c : Context) (f : Fetch) → Keeps f (after_receipt x c f)
arrived-keeps None c f = erring-keeps 503 (reason_of FetchFailed) c f
arrived-keeps (Some x) c f = responding-keeps x c f

exchanged-keeps : (c : Context) (x : Exchange) (f : Fetch) → Keeps f (after_exchange c x f)
exchanged-keeps c (exchange.Reply head body) f =
    arrived-keeps (received c.fetch_request.head (purpose_of f.order.looked) (content_of f.order.stale) head body) c f
exchanged-keeps c (exchange.Fault cause) f = erring-keeps 503 (reason_of FetchFailed) c f
exchanged-keeps c exchange.NoMemory f = over-keeps f

told-keeps : (f : Fetch) (object : Object) (m : ℕ) (uncacheable : Bool) → Keeps f (Rest (point.Over (outcome_of f object m uncacheable)) f)
told-keeps f object m uncacheable =
    record { order = refl; retries = λ h. h; tidy = response-comes f (view_of f.order.number object) m uncacheable f.order.background refl refl }

inserted-keeps : (i : Insertion) (c : Context) (m : ℕ) (x : Reply) (f : Fetch) → Keeps f (after_insertion i c m x f)
inserted-keeps i c m (reply.Stored number) f = told-keeps f i.delivered m i.is_marker
inserted-keeps i c m reply.NotInTime f = told-keeps f i.delivered m i.is_marker
inserted-keeps i c m reply.NoRoom f = told-keeps f i.delivered m i.is_marker
inserted-keeps i c m reply.Refused f = told-keeps f i.delivered m i.is_marker
inserted-keeps i c m reply.StaleGone f = record { order = refl; retries = λ h. h; tidy = tt }
inserted-keeps i c m x f = over-keeps f

takes-keeps : (s : WaitPoint) (g : Given) (f : Fetch) → Keeps f (takes s g f)
takes-keeps (point.Pick c) (given.Reply told) f = picked-keeps c told.moment told.reply f
takes-keeps (point.Ask c) (given.Exchange got) f =
    at-moment f (record f { moment = got.moment }) (after_exchange c got.exchange (record f { moment = got.moment })) refl refl
    (exchanged-keeps c got.exchange (record f { moment = got.moment }))
takes-keeps (point.Insert i c) (given.Reply told) f = inserted-keeps i c told.moment told.reply f
takes-keeps s g f = over-keeps f

-- ---- a whole fetch

-- of two steps behind each other
after : (f : Fetch) (one other : Next) → Keeps f one → Keeps (fetch_of one) other → Keeps f other
after f one other k l = record { order = l.order ∙ k.order; retries = λ h. l.retries (k.retries h); tidy = l.tidy }

settles-keeps : (e : Evaluator) {next place : Next} → Settles e next place → Tidy next → Keeps (fetch_of next) place
settles-keeps e (rests s f) h = record { order = refl; retries = λ x. x; tidy = h }
settles-keeps e {place = place} (ends {state = s} {fetch = f} word left t p) h =
    after f (leads s word left f) place (leads-keeps s word left f) (settles-keeps e p (leads-keeps s word left f).tidy)
settles-keeps e {place = place} (asked {fetch = f} command t p) h =
    after f (without_response f) place (abandoned-keeps f) (settles-keeps e p (abandoned-keeps f).tidy)

goes-keeps : (place : Next) (g : Given) → Keeps (fetch_of place) (goes_on place g)
goes-keeps (Enter s c f) g = record { order = refl; retries = λ x. x; tidy = tt }
goes-keeps (Rest s f) g = takes-keeps s g f

pub reaches-keeps : (e : Evaluator) (order : Order) (givens : List Given) (place : Next) → Reaches e (opening order) givens place
    → Keeps (fetch_of (opening order)) place
reaches-keeps e order [] place p =
    let begins : Keeps (fetch_of (opening order)) (opening order) = record { order = refl; retries = λ x. x; tidy = tt } in
    subst (Keeps (fetch_of (opening order))) (sym p) begins
reaches-keeps e order (g ∷ givens) place p =
    let k : Keeps (fetch_of p.0) (goes_on p.0 g) = goes-keeps p.0 g in
    after (fetch_of (opening order)) p.0 place (reaches-keeps e order givens p.0 p.1)
    (after (fetch_of p.0) (goes_on p.0 g) place k (settles-keeps e p.2 k.tidy))

pub retries-few : (e : Evaluator) (order : Order) (givens : List Given) (place : Next) → Reaches e (opening order) givens place → (fetch_of place).retries ≤ 4
retries-few e order givens place p =
    let none : 0 ≤ 4 = omega arith in
    (reaches-keeps e order givens place p).retries none

asks-for : (t : Target) (drawn : ℕ) (f : Fetch) (s : WaitPoint) → PointFor f.order s → IsFor f.order (asks t drawn f s)
asks-for t drawn f (point.Pick c) h = refl
asks-for t drawn f (point.Ask c) h = tt
asks-for t drawn f (point.Insert i c) h = (refl, h.0, h.1)
asks-for t drawn f point.Drop h = (refl, h)
asks-for t drawn f (point.Over outcome) h = h

pub wants-for : (e : Evaluator) (order : Order) (givens : List Given) (drawn : ℕ) (want : FetchWant) → Wants e drawn (opening order) givens want → IsFor order want
wants-for e order givens drawn want p =
    let k : Keeps (fetch_of (opening order)) (Rest p.0 p.1) = reaches-keeps e order givens (Rest p.0 p.1) p.2 in
    subst (λ (w : FetchWant). IsFor order w) (sym p.3)
    (subst (λ (x : Order). IsFor x (asks (target_at e p.0) drawn p.1 p.0)) k.order (asks-for (target_at e p.0) drawn p.1 p.0 k.tidy))
