-- The jar of cookies along the arrows of a fetch.
use Rattle.std.proofs.Common.{◌≡◌, ℕ, ℤ, List, Bool, true, false, Option, Some, None, refl}
use Rattle.http_heads.specs.declared.exchange.Exchange.{Exchange}
use Rattle.http_heads.specs.declared.exchange.Exchange.TheVariants as exchange
use Rattle.cache_law.specs.declared.call.Query.{Query}
use Rattle.cache_law.specs.declared.call.Reply.{Reply}
use Rattle.cache_law.specs.declared.call.Reply.TheVariants as reply
use Rattle.cache_law.specs.declared.object.Response.{Response}
use Rattle.cache_law.specs.declared.rounds.Given.{Given}
use Rattle.cache_law.specs.declared.rounds.Given.TheVariants as given
use Rattle.vcl_context.specs.declared.context.Context.{Context}
use Rattle.vcl_context.specs.declared.turn.Return.{Return}
use Rattle.vcl_context.specs.declared.turn.Return.TheVariants as word
use Rattle.backend_request.specs.declared.receiving.Received.{Received}
use Rattle.backend_request.specs.Received.{received}
use Rattle.vcl_context.specs.Initial.{status_or_503}
use Rattle.fetch_graph.specs.declared.fetch.Arrived.{Arrived}
use Rattle.fetch_graph.specs.declared.fetch.Fetch.{Fetch}
use Rattle.fetch_graph.specs.declared.fetch.Insertion.{Insertion}
use Rattle.fetch_graph.specs.declared.fetch.State.{State}
use Rattle.fetch_graph.specs.declared.fetch.State.TheVariants as state
use Rattle.fetch_graph.specs.declared.fetch.StoreAs.{StoreAs}
use Rattle.fetch_graph.specs.declared.fetch.StoreAs.TheVariants as store_as
use Rattle.fetch_graph.specs.declared.fetch.WaitPoint.{WaitPoint}
use Rattle.fetch_graph.specs.declared.fetch.WaitPoint.TheVariants as point
use Rattle.fetch_graph.specs.declared.fetch.Next.{Next}
use Rattle.fetch_graph.specs.Answers.{after_choice, after_pick, responding, after_receipt, after_exchange, after_insertion, takes}
use Rattle.fetch_graph.specs.Graph.{erring, token_dropped, without_response, may_retry, fetch_again_if, last_retry, insertion_first, deliver_as, kept_by, made_at, behind_request, behind_response, behind_error, leads}
use Rattle.fetch_graph.specs.Opening.{content_of, purpose_of}
use Rattle.fetch_graph.specs.Jar.{KeepsJar, HasJar, JarLives}

erring-has : (jar : List ℕ) (status : ℕ) (reason : List ℕ) (context : Context) (fetch : Fetch) → context.jar ≡ jar → HasJar jar (erring status reason context fetch)
unfolding erring
erring-has jar status reason context fetch h = h

dropped-has : (jar : List ℕ) (looked : Option Query) (fetch : Fetch) → HasJar jar (token_dropped looked fetch)
dropped-has jar None fetch = tt
dropped-has jar (Some query) fetch = tt

without-has : (jar : List ℕ) (fetch : Fetch) → HasJar jar (without_response fetch)
without-has jar fetch = dropped-has jar fetch.order.looked fetch

again-has : (b : Bool) (context : Context) (fetch : Fetch) → HasJar context.jar (fetch_again_if b context fetch)
again-has true context fetch = refl
again-has false context fetch = erring-has context.jar 503 _ context fetch refl

last-has : (b : Bool) (context : Context) (fetch : Fetch) → HasJar context.jar (last_retry b context fetch)
last-has true context fetch = refl
last-has false context fetch = without-has context.jar fetch

insertion-has : (looked : Option Query) (as' : StoreAs) (response : Response) (context : Context) (fetch : Fetch) → HasJar context.jar (insertion_first looked as' response context fetch)
unfolding insertion_first
insertion-has None as' response context fetch = tt
insertion-has (Some query) as' response context fetch = refl

deliver-has : (as' : StoreAs) (arrived : Arrived) (context : Context) (fetch : Fetch) → HasJar context.jar (deliver_as as' arrived context fetch)
unfolding deliver_as
deliver-has as' arrived context fetch = insertion-has fetch.order.looked as' _ context fetch

request-has : (told : Return) (context : Context) (fetch : Fetch) → HasJar context.jar (behind_request told context fetch)
request-has word.Fetch context fetch = refl
request-has (word.Error status reason) context fetch = erring-has context.jar (status_or_503 status) reason context fetch refl
request-has told context fetch = without-has context.jar fetch

response-has : (arrived : Arrived) (told : Return) (context : Context) (fetch : Fetch) → HasJar context.jar (behind_response arrived told context fetch)
response-has arrived word.Deliver context fetch = deliver-has (kept_by context.fetch_response) arrived context fetch
response-has arrived (word.PassFor ttl) context fetch = deliver-has (store_as.HitForPass ttl) arrived context fetch
response-has arrived (word.Error status reason) context fetch = erring-has context.jar (status_or_503 status) reason context fetch refl
response-has arrived word.Retry context fetch = again-has (may_retry fetch) context fetch
response-has arrived told context fetch = without-has context.jar fetch

error-has : (origin : ℤ) (told : Return) (context : Context) (fetch : Fetch) → HasJar context.jar (behind_error origin told context fetch)
error-has origin word.Deliver context fetch = deliver-has (kept_by context.fetch_response) (made_at origin context) context fetch
error-has origin word.Retry context fetch = last-has (may_retry fetch) context fetch
error-has origin told context fetch = without-has context.jar fetch

led-has : (at : State) (told : Return) (context : Context) (fetch : Fetch) → HasJar context.jar (leads at told context fetch)
led-has state.Request told context fetch = request-has told context fetch
led-has (state.Response arrived) told context fetch = response-has arrived told context fetch
led-has (state.Error origin) told context fetch = error-has origin told context fetch

choice-has : (jar : List ℕ) (name : Option (List ℕ)) (context : Context) (moment : ℕ) (fetch : Fetch) → context.jar ≡ jar → HasJar jar (after_choice name context moment fetch)
choice-has jar (Some name) context moment fetch h = h
choice-has jar None context moment fetch h = erring-has jar 503 _ context (record fetch { moment = moment }) h

pick-has : (jar : List ℕ) (context : Context) (moment : ℕ) (told : Reply) (fetch : Fetch) → context.jar ≡ jar → HasJar jar (after_pick context moment told fetch)
pick-has jar context moment (reply.Picked name) fetch h = choice-has jar name context moment fetch h
pick-has jar context moment told fetch h = tt

responding-has : (jar : List ℕ) (response : Received) (context : Context) (fetch : Fetch) → context.jar ≡ jar → HasJar jar (responding response context fetch)
unfolding responding
responding-has jar response context fetch h = h

receipt-has : (jar : List ℕ) (response : Option Received) (context : Context) (fetch : Fetch) → context.jar ≡ jar → HasJar jar (after_receipt response context fetch)
receipt-has jar None context fetch h = erring-has jar 503 _ context fetch h
receipt-has jar (Some response) context fetch h = responding-has jar response context fetch h

exchange-has : (jar : List ℕ) (context : Context) (came : Exchange) (fetch : Fetch) → context.jar ≡ jar → HasJar jar (after_exchange context came fetch)
exchange-has jar context (exchange.Reply head body) fetch h =
    receipt-has jar (received context.fetch_request.head (purpose_of fetch.order.looked) (content_of fetch.order.stale) head body) context fetch h
exchange-has jar context (exchange.Fault cause) fetch h = erring-has jar 503 _ context fetch h
exchange-has jar context exchange.NoMemory fetch h = tt

inserted-has : (jar : List ℕ) (insertion : Insertion) (context : Context) (moment : ℕ) (told : Reply) (fetch : Fetch) → context.jar ≡ jar
    → HasJar jar (after_insertion insertion context moment told fetch)
inserted-has jar insertion context moment reply.StaleGone fetch h = h
inserted-has jar insertion context moment told fetch h = tt

taken-has : (jar : List ℕ) (rest : WaitPoint) (got : Given) (fetch : Fetch) → KeepsJar jar rest → HasJar jar (takes rest got fetch)
taken-has jar (point.Pick context) (given.Reply told) fetch h = pick-has jar context told.moment told.reply fetch h
taken-has jar (point.Ask context) (given.Exchange got) fetch h = exchange-has jar context got.exchange (record fetch { moment = got.moment }) h
taken-has jar (point.Insert insertion context) (given.Reply told) fetch h = inserted-has jar insertion context told.moment told.reply fetch h
taken-has jar rest got fetch h = tt

pub jar-lives : JarLives
jar-lives = record { begins = λ order. refl; led = led-has; taken = taken-has }
