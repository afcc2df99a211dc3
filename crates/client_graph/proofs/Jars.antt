-- The jar of cookies along the arrows of a round.
use Rattle.std.proofs.Common.{◌≡◌, ℕ, List, Bool, true, false, Option, Some, None, refl}
use Rattle.cache_law.specs.declared.call.Query.{Query}
use Rattle.cache_law.specs.declared.call.Reply.{Reply}
use Rattle.cache_law.specs.declared.call.Reply.TheVariants as reply
use Rattle.cache_law.specs.declared.rounds.Given.{Given}
use Rattle.cache_law.specs.declared.rounds.Given.TheVariants as given
use Rattle.cache_law.specs.declared.rounds.FetchOutcome.{FetchOutcome}
use Rattle.cache_law.specs.declared.rounds.FetchOutcome.TheVariants.{Delivered, Failed, Ended}
use Rattle.vcl_context.specs.declared.context.Context.{Context}
use Rattle.vcl_context.specs.declared.turn.Return.{Return}
use Rattle.vcl_context.specs.declared.turn.Return.TheVariants as word
use Rattle.client_graph.specs.declared.round.Round.{Round}
use Rattle.client_graph.specs.declared.round.HeldFetch.{HeldFetch}
use Rattle.client_graph.specs.declared.round.KeyUse.TheVariants as key_use
use Rattle.client_graph.specs.declared.round.State.{State}
use Rattle.client_graph.specs.declared.round.State.TheVariants as state
use Rattle.client_graph.specs.declared.round.FetchKind.{FetchKind}
use Rattle.client_graph.specs.declared.round.WaitPoint.{WaitPoint}
use Rattle.client_graph.specs.declared.round.WaitPoint.TheVariants as point
use Rattle.client_graph.specs.declared.round.Next.{Next}
use Rattle.client_graph.specs.declared.round.Next.TheVariants.{Enter, Rest}
use Rattle.client_graph.specs.Answers.{after_lookup, after_purge, after_drop, after_draw, after_fetch, after_send, after_background, takes}
use Rattle.client_graph.specs.Graph.{common, giving_up, round_again_if, round_again_late, late_restart, last_restart, may_restart, round_again, leads}
use Rattle.client_graph.specs.Jar.{KeepsJar, HasJar, JarLives}

again-has : (b : Bool) (context : Context) (round : Round) → HasJar context.jar (round_again_if b context round)
again-has true context round = refl
again-has false context round = refl

common-has : (told : Return) (context : Context) (round : Round) → HasJar context.jar (common told context round)
common-has (word.Synth status reason) context round = refl
common-has word.Restart context round = again-has (may_restart round) context round
common-has word.Hash context round = refl
common-has word.Pass context round = refl
common-has (word.PassFor ttl) context round = refl
common-has word.Purge context round = refl
common-has word.Fail context round = refl
common-has word.Lookup context round = refl
common-has word.Deliver context round = refl
common-has word.Fetch context round = refl
common-has (word.Error status reason) context round = refl
common-has word.Abandon context round = refl
common-has word.Retry context round = refl
common-has word.Ok context round = refl

giving-has : (jar : List ℕ) (held : Option HeldFetch) (next : Next) → HasJar jar next → HasJar jar (giving_up held next)
giving-has jar (Some held) (Enter state context round) h = h
giving-has jar (Some held) (Rest rest round) h = h
giving-has jar None next h = h

late-again-has : (context : Context) (round : Round) → HasJar context.jar (round_again_late context round)
late-again-has context round = giving-has context.jar round.background (round_again context (record round { background = None })) refl

late-has : (b : Bool) (context : Context) (round : Round) → HasJar context.jar (late_restart b context round)
late-has true context round = late-again-has context round
late-has false context round = refl

last-has : (b : Bool) (context : Context) (round : Round) → HasJar context.jar (last_restart b context round)
last-has true context round = late-again-has context round
last-has false context round = refl

led-has : (at : State) (told : Return) (context : Context) (round : Round) → HasJar context.jar (leads at told context round)
led-has state.Recv word.Hash context round = refl
led-has state.Recv word.Purge context round = refl
led-has state.Recv word.Pass context round = refl
led-has (state.Hash key_use.Lookup) word.Lookup context round = refl
led-has (state.Hash key_use.Purge) word.Lookup context round = refl
led-has (state.Hit found) word.Deliver context round = refl
led-has (state.Hit found) word.Pass context round = giving-has context.jar found.held _ refl
led-has (state.Hit found) told context round = giving-has context.jar found.held (common told context round) (common-has told context round)
led-has (state.Miss held) word.Fetch context round = refl
led-has (state.Miss held) word.Pass context round = refl
led-has (state.Miss held) told context round = giving-has context.jar (Some held) (common told context round) (common-has told context round)
led-has state.Pass word.Fetch context round = refl
led-has (state.Deliver body) word.Deliver context round = refl
led-has (state.Deliver body) word.Restart context round = late-has (may_restart round) context round
led-has state.Synth word.Deliver context round = refl
led-has state.Synth word.Restart context round = last-has (may_restart round) context round
led-has state.Synth told context round = refl
led-has at told context round = common-has told context round

lookup-has : (jar : List ℕ) (query : Query) (context : Context) (moment : ℕ) (told : Reply) (round : Round) → context.jar ≡ jar → HasJar jar (after_lookup query context moment told round)
lookup-has jar query context moment (reply.Hit view) round h = h
lookup-has jar query context moment (reply.Grace view token) round h = h
lookup-has jar query context moment (reply.Miss token stale) round h = h
lookup-has jar query context moment (reply.HitMiss token) round h = h
lookup-has jar query context moment reply.HitPass round h = h
lookup-has jar query context moment (reply.Wait token) round h = h
lookup-has jar query context moment told round h = tt

purge-has : (jar : List ℕ) (context : Context) (told : Reply) (round : Round) → context.jar ≡ jar → HasJar jar (after_purge context told round)
purge-has jar context (reply.Purged count) round h = h
purge-has jar context told round h = tt

drop-has : (jar : List ℕ) (at : State) (context : Context) (told : Reply) (round : Round) → context.jar ≡ jar → HasJar jar (after_drop at context told round)
drop-has jar at context reply.Dropped round h = h
drop-has jar at context told round h = tt

draw-has : (jar : List ℕ) (context : Context) (moment : ℕ) (told : Reply) (round : Round) → context.jar ≡ jar → HasJar jar (after_draw context moment told round)
draw-has jar context moment (reply.Drawn number) round h = h
draw-has jar context moment told round h = tt

fetch-has : (jar : List ℕ) (kind : FetchKind) (context : Context) (outcome : FetchOutcome) (round : Round) → context.jar ≡ jar → HasJar jar (after_fetch kind context outcome round)
fetch-has jar kind context (Delivered view moment uncacheable) round h = h
fetch-has jar kind context Failed round h = h
fetch-has jar kind context Ended round h = tt

send-has : (jar : List ℕ) (context : Context) (held : Option HeldFetch) (round : Round) → context.jar ≡ jar → HasJar jar (after_send context held round)
send-has jar context (Some held) round h = h
send-has jar context None round h = tt

background-has : (jar : List ℕ) (outcome : FetchOutcome) (round : Round) → HasJar jar (after_background outcome round)
background-has jar (Delivered view moment uncacheable) round = tt
background-has jar Failed round = tt
background-has jar Ended round = tt

taken-has : (jar : List ℕ) (rest : WaitPoint) (got : Given) (round : Round) → KeepsJar jar rest → HasJar jar (takes rest got round)
taken-has jar (point.Look query context) (given.Reply told) round h = lookup-has jar query context told.moment told.reply round h
taken-has jar (point.Purge context) (given.Reply told) round h = purge-has jar context told.reply round h
taken-has jar (point.Drop token at context) (given.Reply told) round h = drop-has jar at context told.reply round h
taken-has jar (point.Draw context) (given.Reply told) round h = draw-has jar context told.moment told.reply round h
taken-has jar (point.Fetch kind context) (given.Fetched outcome) round h = fetch-has jar kind context outcome round h
taken-has jar (point.Send context body) given.Sent round h = send-has jar context round.background round h
taken-has jar (point.Fail context) given.Sent round h = send-has jar context round.background round h
taken-has jar (point.Background held context) (given.Fetched outcome) round h = background-has jar outcome round
taken-has jar rest got round h = tt

pub jar-lives : JarLives
jar-lives = record { begins = λ number vcl request peer. refl; led = led-has; taken = taken-has }
