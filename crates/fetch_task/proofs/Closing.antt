-- A fetch of what may be stored is over only behind the answer to its insertion, or to its drop.
use Rattle.std.specs.Prelude.{⊤, is_some}
use Rattle.std.proofs.Common.{◌≡◌, ◌⊎◌, inl, inr, ℕ, Bool, true, false, List, [], ◌∷◌, Option, Some, None, refl, sym, ◌∙◌, ap, subst}
use Rattle.http_heads.specs.declared.exchange.Exchange.{Exchange}
use Rattle.http_heads.specs.declared.exchange.Exchange.TheVariants as exchange
use Rattle.cache_law.specs.declared.call.Query.{Query}
use Rattle.cache_law.specs.declared.call.Reply.{Reply}
use Rattle.cache_law.specs.declared.call.Reply.TheVariants as reply
use Rattle.cache_law.specs.declared.object.Object.{Object}
use Rattle.cache_law.specs.declared.object.Object.TheVariants.{Ordinary}
use Rattle.cache_law.specs.declared.object.ObjectView.{ObjectView}
use Rattle.cache_law.specs.declared.object.Response.{Response}
use Rattle.directors.specs.declared.target.Target.{Target}
use Rattle.cache_law.specs.declared.rounds.FetchOutcome.TheVariants.{Delivered, Failed, Ended}
use Rattle.cache_law.specs.declared.rounds.Given.{Given}
use Rattle.cache_law.specs.declared.rounds.Given.TheVariants as given
use Rattle.cache_law.specs.declared.rounds.Order.{Order}
use Rattle.vcl_context.specs.declared.context.Context.{Context}
use Rattle.vcl_context.specs.declared.turn.Return.{Return}
use Rattle.vcl_context.specs.declared.turn.Return.TheVariants as word
use Rattle.delivery.specs.declared.pages.Failure.TheVariants.{FetchFailed}
use Rattle.delivery.specs.Pages.{reason_of}
use Rattle.backend_request.specs.Stored.{response_of}
use Rattle.backend_request.specs.declared.receiving.Received.{Received}
use Rattle.backend_request.specs.Received.{received}
use Rattle.fetch_graph.specs.declared.fetch.Arrived.{Arrived}
use Rattle.fetch_graph.specs.declared.fetch.Fetch.{Fetch}
use Rattle.fetch_graph.specs.declared.fetch.Insertion.{Insertion}
use Rattle.fetch_graph.specs.declared.fetch.StoreAs.{StoreAs}
use Rattle.fetch_graph.specs.declared.fetch.StoreAs.TheVariants as store_as
use Rattle.fetch_graph.specs.declared.fetch.State.{State}
use Rattle.fetch_graph.specs.declared.fetch.State.TheVariants as state
use Rattle.fetch_graph.specs.declared.fetch.WaitPoint.{WaitPoint}
use Rattle.fetch_graph.specs.declared.fetch.WaitPoint.TheVariants as point
use Rattle.fetch_graph.specs.declared.fetch.Next.{Next}
use Rattle.fetch_graph.specs.declared.fetch.Next.TheVariants.{Enter, Rest}
use Rattle.fetch_graph.specs.declared.fetch.FetchWant.{FetchWant}
use Rattle.vcl_context.specs.Initial.{status_or_503}
use Rattle.fetch_graph.specs.Opening.{opening, purpose_of, content_of}
use Rattle.fetch_graph.specs.Graph.{erring, failing, view_of, outcome_of, token_dropped, without_response, may_retry, fetch_again_if, last_retry, insertion_first, deliver_as, timing_left, kept_by, made_at, confirmed_number, leads}
use Rattle.fetch_graph.specs.Answers.{over, after_choice, after_pick, responding, after_receipt, after_exchange, after_insertion, takes}
use Rattle.fetch_graph.specs.Wants.{asks}
use Rattle.fetch_task.specs.Fetches.{Settles, rests, ends, asked, goes_on, Reaches, target_at, Wants}
use Rattle.vcl_runs.specs.Evaluators.{Evaluator}
use Rattle.fetch_task.specs.Laws.{AnswersIt, Closes, IsOver, IsPicked}
use Rattle.fetch_task.proofs.OneWant.{OneTurn, reaches-one}
use Rattle.fetch_task.proofs.Orders.{reaches-keeps}
use Rattle.fetch_graph.specs.declared.fetch.FetchWant.TheVariants as want
use Rattle.cache_law.specs.declared.rounds.FetchOutcome.{FetchOutcome}

-- the response may be stored
abbrev HasToken : Fetch → Type 0
HasToken f = is_some f.order.looked ≡ true

abbrev IsOpen : WaitPoint → Type 0
IsOpen (point.Over outcome) = ⊥
IsOpen point = ⊤

-- the fetch isn't over
abbrev GoesOn : Next → Type 0
GoesOn (Enter s c f) = HasToken f
GoesOn (Rest point f) = HasToken f × IsOpen point

-- ---- the arrows

erring-goes : (status : ℕ) (reason : List ℕ) (c : Context) (f : Fetch) → HasToken f → GoesOn (erring status reason c f)
unfolding erring
erring-goes status reason c f h = h

dropped-goes : (looked : Option Query) (f : Fetch) → HasToken f → is_some looked ≡ true → GoesOn (token_dropped looked f)
dropped-goes None f h k = let clash = k in absurd (cc)
dropped-goes (Some query) f h k = (h, tt)

abandoned-goes : (f : Fetch) → HasToken f → GoesOn (without_response f)
abandoned-goes f h = dropped-goes f.order.looked f h h

handed-goes : (looked : Option Query) (k : StoreAs) (r : Response) (c : Context) (f : Fetch) → HasToken f → is_some looked ≡ true → GoesOn (insertion_first looked k r c f)
unfolding insertion_first
handed-goes None k r c f h l = let clash = l in absurd (cc)
handed-goes (Some query) k r c f h l = (h, tt)

delivered-goes : (k : StoreAs) (a : Arrived) (c : Context) (f : Fetch) → HasToken f → GoesOn (deliver_as k a c f)
unfolding deliver_as
delivered-goes k a c f h =
    handed-goes f.order.looked k (response_of f.order.looked c.fetch_response.head a.body (timing_left a.origin c.fetch_response)) c f h h

retried-goes : (b : Bool) (c : Context) (f : Fetch) → HasToken f → GoesOn (fetch_again_if b c f)
retried-goes true c f h = h
retried-goes false c f h = erring-goes 503 (reason_of FetchFailed) c f h

last-goes : (b : Bool) (c : Context) (f : Fetch) → HasToken f → GoesOn (last_retry b c f)
last-goes true c f h = h
last-goes false c f h = abandoned-goes f h

leads-goes : (s : State) (w : Return) (c : Context) (f : Fetch) → HasToken f → GoesOn (leads s w c f)
leads-goes state.Request word.Fetch c f h = (h, tt)
leads-goes state.Request (word.Error status reason) c f h = erring-goes (status_or_503 status) reason c f h
leads-goes state.Request w c f h = abandoned-goes f h
leads-goes (state.Response a) word.Deliver c f h = delivered-goes (kept_by c.fetch_response) a c f h
leads-goes (state.Response a) (word.PassFor ttl) c f h = delivered-goes (store_as.HitForPass ttl) a c f h
leads-goes (state.Response a) (word.Error status reason) c f h = erring-goes (status_or_503 status) reason c f h
leads-goes (state.Response a) word.Retry c f h = retried-goes (may_retry f) c f h
leads-goes (state.Response a) w c f h = abandoned-goes f h
leads-goes (state.Error origin) word.Deliver c f h = delivered-goes (kept_by c.fetch_response) (made_at origin c) c f h
leads-goes (state.Error origin) word.Retry c f h = last-goes (may_retry f) c f h
leads-goes (state.Error origin) w c f h = abandoned-goes f h

settles-goes : (e : Evaluator) {next place : Next} → Settles e next place → GoesOn next → GoesOn place
settles-goes e (rests s f) h = h
settles-goes e (ends {state = s} {fetch = f} word left t p) h = settles-goes e p (leads-goes s word left f h)
settles-goes e (asked {fetch = f} command t p) h = settles-goes e p (abandoned-goes f h)

-- ---- the answers

chosen-goes : (name : Option (List ℕ)) (c : Context) (m : ℕ) (f : Fetch) → HasToken f → GoesOn (after_choice name c m f)
chosen-goes (Some name) c m f h = (h, tt)
chosen-goes None c m f h = erring-goes 503 (reason_of FetchFailed) c (record f { moment = m }) h

picked-goes : (c : Context) (m : ℕ) (x : Reply) (f : Fetch) → HasToken f → IsPicked x → GoesOn (after_pick c m x f)
picked-goes c m (reply.Picked name) f h a = chosen-goes name c m f h
picked-goes c m x f h a = absurd a

responding-goes : (x : Received) (c : Context) (f : Fetch) → HasToken f → GoesOn (responding x c f)
unfolding responding
responding-goes x c f h = h

arrived-goes : (x : Option Received) (c : Context) (f : Fetch) → HasToken f → GoesOn (after_receipt x c f)
arrived-goes None c f h = erring-goes 503 (reason_of FetchFailed) c f h
arrived-goes (Some x) c f h = responding-goes x c f h

exchanged-goes : (c : Context) (x : Exchange) (f : Fetch) → HasToken f → IsOver x → GoesOn (after_exchange c x f)
exchanged-goes c (exchange.Reply head body) f h a =
    arrived-goes (received c.fetch_request.head (purpose_of f.order.looked) (content_of f.order.stale) head body) c f h
exchanged-goes c (exchange.Fault cause) f h a = erring-goes 503 (reason_of FetchFailed) c f h
exchanged-goes c exchange.NoMemory f h a = absurd a

-- ---- a whole fetch

-- what is wanted at a place closes what the lookup opened, or its answer doesn't end the fetch
closed-or-on : (e : Evaluator) (t : Target) (drawn : ℕ) (s : WaitPoint) (g : Given) (f : Fetch) (place : Next) → HasToken f
    → AnswersIt (asks t drawn f s) g → Settles e (takes s g f) place → Closes (asks t drawn f s) ⊎ GoesOn place
closed-or-on e t drawn (point.Pick c) (given.Reply told) f place h a p = inr (settles-goes e p (picked-goes c told.moment told.reply f h a))
closed-or-on e t drawn (point.Pick c) g f place h a p = absurd a
closed-or-on e t drawn (point.Ask c) (given.Exchange got) f place h a p = inr (settles-goes e p (exchanged-goes c got.exchange (record f { moment = got.moment }) h a))
closed-or-on e t drawn (point.Ask c) g f place h a p = absurd a
closed-or-on e t drawn (point.Insert i c) g f place h a p = inl tt
closed-or-on e t drawn point.Drop g f place h a p = inl tt
closed-or-on e t drawn (point.Over outcome) g f place h a p = absurd a

-- only a fetch that is over wants nothing more
isnt-over : (t : Target) (drawn : ℕ) (f : Fetch) (s : WaitPoint) (outcome : FetchOutcome) → IsOpen s → want.Done outcome ≡ asks t drawn f s → ⊥
isnt-over t drawn f (point.Pick c) outcome h e = let clash = e in absurd (cc)
isnt-over t drawn f (point.Ask c) outcome h e = let clash = e in absurd (cc)
isnt-over t drawn f (point.Insert i c) outcome h e = let clash = e in absurd (cc)
isnt-over t drawn f point.Drop outcome h e = let clash = e in absurd (cc)
isnt-over t drawn f (point.Over other) outcome h e = absurd h

pub closes : (e : Evaluator) → OneTurn e → (order : Order) (givens : List Given) (g : Given) (drawn redrawn : ℕ) (w : FetchWant) (outcome : FetchOutcome)
    → is_some order.looked ≡ true → AnswersIt w g → Wants e drawn (opening order) givens w → Wants e redrawn (opening order) (g ∷ givens) (want.Done outcome) → Closes w
closes e o order givens g drawn redrawn w outcome looked a p q =
    let place : Next = Rest p.0 p.1 in
    let before : q.2.0 ≡ place = reaches-one e o (opening order) givens place q.2.0 p.2 q.2.1 in
    let settles : Settles e (takes p.0 g p.1) (Rest q.0 q.1) = subst (λ (x : Next). Settles e (goes_on x g) (Rest q.0 q.1)) before q.2.2 in
    let kept : p.1.order ≡ order = (reaches-keeps e order givens place p.2).order in
    let token : HasToken p.1 = ap (λ (x : Order). is_some x.looked) kept ∙ looked in
    let answered : AnswersIt (asks (target_at e p.0) drawn p.1 p.0) g = subst (λ (x : FetchWant). AnswersIt x g) p.3 a in
    let closed : Closes (asks (target_at e p.0) drawn p.1 p.0) =
    elim (closed-or-on e (target_at e p.0) drawn p.0 g p.1 (Rest q.0 q.1) token answered settles) [
      | inl shut ↦ shut
      | inr on ↦ absurd (isnt-over (target_at e q.0) redrawn q.1 q.0 outcome on.1 q.3)
    ] in
    subst Closes (sym p.3) closed
