-- Words for the laws of a fetch.
use Rattle.std.specs.Prelude.{◌≡◌, ⊤, ℕ, true, false, Option, Some, None, is_some, option_map}
use Rattle.directors.specs.declared.director.DirectorKind.{DirectorKind}
use Rattle.http_heads.specs.declared.exchange.Exchange.{Exchange}
use Rattle.http_heads.specs.declared.exchange.Exchange.TheVariants as exchange
use Rattle.directors.specs.declared.director.DirectorKind.TheVariants as director
use Rattle.cache_law.specs.declared.call.Call.{Call}
use Rattle.cache_law.specs.declared.call.Call.TheVariants as call
use Rattle.cache_law.specs.declared.call.Reply.{Reply}
use Rattle.cache_law.specs.declared.call.Reply.TheVariants as reply
use Rattle.cache_law.specs.declared.rounds.FetchOutcome.{FetchOutcome}
use Rattle.cache_law.specs.declared.rounds.FetchOutcome.TheVariants.{Delivered, Failed, Ended}
use Rattle.cache_law.specs.declared.rounds.Given.{Given}
use Rattle.cache_law.specs.declared.rounds.Given.TheVariants as given
use Rattle.cache_law.specs.declared.rounds.Order.{Order}
use Rattle.fetch_graph.specs.declared.fetch.Fetch.{Fetch}
use Rattle.fetch_graph.specs.declared.fetch.Next.{Next}
use Rattle.fetch_graph.specs.declared.fetch.Next.TheVariants.{Enter, Rest}
use Rattle.fetch_graph.specs.declared.fetch.FetchWant.{FetchWant}
use Rattle.fetch_graph.specs.declared.fetch.FetchWant.TheVariants as want

abbrev pub fetch_of : Next → Fetch
fetch_of (Enter state context fetch) = fetch
fetch_of (Rest point fetch) = fetch

-- the object that an insertion replaces is the order's stale one
abbrev pub Replaces : Order → Option ℕ → Type 0
Replaces order None = ⊤
Replaces order (Some number) = option_map (λ view. view.number) order.stale ≡ Some number

-- What comes of a fetch is told to whoever waits for it: a response has the order's number, and one behind the response is
-- over without telling more.
abbrev pub ComesOf : Order → FetchOutcome → Type 0
ComesOf order (Delivered view moment uncacheable) = (order.background ≡ false) × (view.number ≡ order.number)
ComesOf order Failed = order.background ≡ false
ComesOf order Ended = order.background ≡ true

-- A fetch's calls are picks under the order's VCL and, where the response may be stored, an insertion or a drop of the
-- order's number.
abbrev pub CallsFor : Order → Call → Type 0
CallsFor order (call.Pick vcl target word) = vcl ≡ order.vcl
CallsFor order (call.Insert token object stale) = (token ≡ order.number) × (is_some order.looked ≡ true) × Replaces order stale
CallsFor order (call.Drop token) = (token ≡ order.number) × (is_some order.looked ≡ true)
CallsFor order other = ⊥

abbrev pub IsFor : Order → FetchWant → Type 0
IsFor order (want.Cache call) = CallsFor order call
IsFor order (want.Ask backend request) = ⊤
IsFor order (want.Done outcome) = ComesOf order outcome

-- a want whose word is another one where a director of kind random is picked from
abbrev pub word_for : DirectorKind → ℕ → ℕ → ℕ
word_for director.Random word drawn = drawn
word_for other word drawn = word

abbrev pub with_word : ℕ → FetchWant → FetchWant
with_word drawn (want.Cache (call.Pick vcl target word)) = want.Cache (call.Pick vcl target (word_for target.kind word drawn))
with_word drawn other = other

-- ---- what is given answers what is wanted

abbrev pub IsPicked : Reply → Type 0
IsPicked (reply.Picked name) = ⊤
IsPicked other = ⊥

abbrev pub IsInserted : Reply → Type 0
IsInserted (reply.Stored number) = ⊤
IsInserted reply.NotInTime = ⊤
IsInserted reply.NoRoom = ⊤
IsInserted reply.Refused = ⊤
IsInserted reply.StaleGone = ⊤
IsInserted other = ⊥

abbrev pub IsDropped : Reply → Type 0
IsDropped reply.Dropped = ⊤
IsDropped other = ⊥

abbrev pub IsAnswer : Call → Reply → Type 0
IsAnswer (call.Pick vcl target word) told = IsPicked told
IsAnswer (call.Insert token object stale) told = IsInserted told
IsAnswer (call.Drop token) told = IsDropped told
IsAnswer call told = ⊥

-- an exchange for which memory was wanting isn't told
abbrev pub IsOver : Exchange → Type 0
IsOver (exchange.Reply head body) = ⊤
IsOver (exchange.Fault cause) = ⊤
IsOver exchange.NoMemory = ⊥

abbrev pub AnswersIt : FetchWant → Given → Type 0
AnswersIt (want.Cache call) (given.Reply told) = IsAnswer call told.reply
AnswersIt (want.Ask backend request) (given.Exchange got) = IsOver got.exchange
AnswersIt want given = ⊥

-- an insertion, or that the fetch is given up: with the answer what its lookup opened is closed
abbrev pub Closes : FetchWant → Type 0
Closes (want.Cache (call.Insert token object stale)) = ⊤
Closes (want.Cache (call.Drop token)) = ⊤
Closes other = ⊥
