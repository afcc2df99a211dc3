-- Each arrow of a fetch leads to where fewer subroutines may still run.
use Rattle.std.proofs.Common.{◌≡◌, ℕ, ◌+◌, ◌*◌, ◌-◌, ◌<◌, Bool, true, false, List, Option, Some, None, refl, sym, ◌∙◌, ap, subst, arith}
use Rattle.std.proofs.lemmas.Bool.{ltb-true}
use Rattle.cache_law.specs.declared.call.Query.{Query}
use Rattle.cache_law.specs.declared.object.Response.{Response}
use Rattle.vcl_context.specs.declared.context.Context.{Context}
use Rattle.vcl_context.specs.declared.turn.Return.{Return}
use Rattle.vcl_context.specs.declared.turn.Return.TheVariants as word
use Rattle.delivery.specs.declared.pages.Failure.TheVariants.{FetchFailed}
use Rattle.delivery.specs.Pages.{reason_of}
use Rattle.backend_request.specs.Stored.{response_of}
use Rattle.fetch_graph.specs.declared.fetch.Arrived.{Arrived}
use Rattle.fetch_graph.specs.declared.fetch.Fetch.{Fetch}
use Rattle.fetch_graph.specs.declared.fetch.StoreAs.{StoreAs}
use Rattle.fetch_graph.specs.declared.fetch.StoreAs.TheVariants as store_as
use Rattle.fetch_graph.specs.declared.fetch.Next.{Next}
use Rattle.fetch_graph.specs.declared.fetch.State.{State}
use Rattle.fetch_graph.specs.declared.fetch.State.TheVariants as state
use Rattle.fetch_graph.specs.Graph.{erring, failing, token_dropped, without_response, may_retry, fetch_again_if, last_retry, insertion_first, deliver_as, timing_left, kept_by, made_at, leads}
use Rattle.vcl_context.specs.Initial.{status_or_503}
use Rattle.fetch_task.specs.Standing.{weight, weight_of}

erring-weight : (status : ℕ) (reason : List ℕ) (c : Context) (f : Fetch) → weight_of (erring status reason c f) ≡ 4 * (4 - f.retries) + 1
unfolding erring
erring-weight status reason c f = refl

given-weight : (looked : Option Query) (f : Fetch) → weight_of (token_dropped looked f) ≡ 0
given-weight None f = refl
given-weight (Some query) f = refl

abandoned-weight : (f : Fetch) → weight_of (without_response f) ≡ 0
abandoned-weight f = given-weight f.order.looked f

handed-weight : (looked : Option Query) (k : StoreAs) (r : Response) (c : Context) (f : Fetch) → weight_of (insertion_first looked k r c f) ≡ 0
unfolding insertion_first
handed-weight None k r c f = refl
handed-weight (Some query) k r c f = refl

delivered-weight : (k : StoreAs) (a : Arrived) (c : Context) (f : Fetch) → weight_of (deliver_as k a c f) ≡ 0
unfolding deliver_as
delivered-weight k a c f = handed-weight f.order.looked k
    (response_of f.order.looked c.fetch_response.head a.body (timing_left a.origin c.fetch_response)) c f

-- where nothing may run, or vcl_backend_error
none-lower : (w k : ℕ) → w ≡ 0 → 0 < k → w < k
none-lower w k e h = omega (arith, e, h)

error-lower : (w : ℕ) (f : Fetch) (k : ℕ) → w ≡ 4 * (4 - f.retries) + 1 → 1 < k → w < 4 * (4 - f.retries) + k
error-lower w f k e h = omega (arith, e, h)

retry-lower : (b : Bool) (c : Context) (f : Fetch) → may_retry f ≡ b → weight_of (fetch_again_if b c f) < 4 * (4 - f.retries) + 3
retry-lower true c f e = let few : f.retries < 4 = ltb-true f.retries 4 e in omega (arith, few)
retry-lower false c f e = error-lower (weight_of (failing c f)) f 3 (erring-weight 503 (reason_of FetchFailed) c f) (omega arith)

last-lower : (b : Bool) (c : Context) (f : Fetch) → may_retry f ≡ b → weight_of (last_retry b c f) < 4 * (4 - f.retries) + 1
last-lower true c f e = let few : f.retries < 4 = ltb-true f.retries 4 e in omega (arith, few)
last-lower false c f e = none-lower (weight_of (without_response f)) (4 * (4 - f.retries) + 1) (abandoned-weight f) (omega arith)

leads-lower : (s : State) (w : Return) (c : Context) (f : Fetch) → weight_of (leads s w c f) < weight s f
leads-lower state.Request word.Fetch c f = omega arith
leads-lower state.Request (word.Error status reason) c f =
    error-lower (weight_of (erring (status_or_503 status) reason c f)) f 2 (erring-weight (status_or_503 status) reason c f) (omega arith)
leads-lower state.Request w c f = none-lower (weight_of (without_response f)) (weight state.Request f) (abandoned-weight f) (omega arith)
leads-lower (state.Response a) word.Deliver c f =
    none-lower (weight_of (deliver_as (kept_by c.fetch_response) a c f)) (weight (state.Response a) f) (delivered-weight (kept_by c.fetch_response) a c f) (omega arith)
leads-lower (state.Response a) (word.PassFor ttl) c f =
    none-lower (weight_of (deliver_as (store_as.HitForPass ttl) a c f)) (weight (state.Response a) f) (delivered-weight (store_as.HitForPass ttl) a c f) (omega arith)
leads-lower (state.Response a) (word.Error status reason) c f =
    error-lower (weight_of (erring (status_or_503 status) reason c f)) f 3 (erring-weight (status_or_503 status) reason c f) (omega arith)
leads-lower (state.Response a) word.Retry c f = retry-lower (may_retry f) c f refl
leads-lower (state.Response a) w c f = none-lower (weight_of (without_response f)) (weight (state.Response a) f) (abandoned-weight f) (omega arith)
leads-lower (state.Error origin) word.Deliver c f =
    none-lower (weight_of (deliver_as (kept_by c.fetch_response) (made_at origin c) c f)) (weight (state.Error origin) f)
    (delivered-weight (kept_by c.fetch_response) (made_at origin c) c f) (omega arith)
leads-lower (state.Error origin) word.Retry c f = last-lower (may_retry f) c f refl
leads-lower (state.Error origin) w c f = none-lower (weight_of (without_response f)) (weight (state.Error origin) f) (abandoned-weight f) (omega arith)

-- what comes next is a word's, or the fetch is given up
pub led-lower : (s : State) (w : Return) (c : Context) (f : Fetch) (next : Next) → next ≡ leads s w c f → weight_of next < weight s f
led-lower s w c f next led = subst (λ (n : Next). weight_of n < weight s f) (sym led) (leads-lower s w c f)

pub abandoned-lower : (s : State) (f : Fetch) (next : Next) → next ≡ without_response f → weight_of next < weight s f
abandoned-lower state.Request f next h = none-lower (weight_of next) (weight state.Request f) (ap weight_of h ∙ abandoned-weight f) (omega arith)
abandoned-lower (state.Response a) f next h = none-lower (weight_of next) (weight (state.Response a) f) (ap weight_of h ∙ abandoned-weight f) (omega arith)
abandoned-lower (state.Error origin) f next h = none-lower (weight_of next) (weight (state.Error origin) f) (ap weight_of h ∙ abandoned-weight f) (omega arith)
