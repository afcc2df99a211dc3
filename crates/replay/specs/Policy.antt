-- Words on what a round wants and is given.
use Rattle.std.specs.Prelude.{◌≡◌, ◌⊎◌, ℕ, Bool, true, false, List, []}
use Rattle.http_heads.specs.declared.exchange.Exchange.{Exchange as What}
use Rattle.http_heads.specs.declared.exchange.Exchange.TheVariants as exchanges
use Rattle.cache_law.specs.declared.call.Call.{Call}
use Rattle.cache_law.specs.declared.call.Call.TheVariants.{Begin, Draw, Lookup, Pick, Insert, Ban, BanList, Purge, Xkey, SetHealth, Load, Switch, Discard, VclList, Drop, End}
use Rattle.cache_law.specs.declared.call.Reply.{Reply}
use Rattle.cache_law.specs.declared.call.Reply.TheVariants.{Began, NoRound, Drawn, Hit, HitMiss, HitPass, Grace, Wait, Miss, Picked, Stored, NotOpen, StaleGone, NotInTime, NoRoom, Refused, Banned, Bans, Purged, HealthSet, Loaded, NameTaken, Switched, NoVcl, Discarded, IsActive, Vcls, Dropped, Ended}
use Rattle.replay.specs.declared.policy.Request.{Request}
use Rattle.replay.specs.declared.policy.Given.{Given}
use Rattle.replay.specs.declared.policy.Given.TheVariants.{Start, Told, Came, Sent, Closed}
use Rattle.replay.specs.declared.policy.Want.{Want}
use Rattle.replay.specs.declared.policy.Want.TheVariants.{Ask, Exchange, Respond, Await}

abbrev pub is_response : Want → Bool
is_response (Respond text) = true
is_response want = false

-- a round that wants this waits, or is over
abbrev pub rests : Want → Bool
rests (Ask call) = false
rests (Respond text) = false
rests want = true

-- a call behind which a client isn't told to wait any more, unless it is told so anew
abbrev pub ends_wait : Call → Bool
ends_wait (Lookup query) = true
ends_wait End = true
ends_wait call = false

-- the call of a round that woke
abbrev pub goes_on : Want → Bool
goes_on (Ask call) = ends_wait call
goes_on want = false

-- after the same givens a round wants the same
abbrev pub HasOneWant : (Request → List Given → Want → Type 0) → Type 0
HasOneWant wants = (request : Request) (givens : List Given) (one other : Want) → wants request givens one → wants request givens other → other ≡ one

-- the replies to a call
abbrev pub is_reply_to : Call → Reply → Bool
is_reply_to Begin (Began number vcl text) = true
is_reply_to Begin NoRound = true
is_reply_to Draw (Drawn number) = true
is_reply_to Draw NoRound = true
is_reply_to (Lookup query) (Hit view) = true
is_reply_to (Lookup query) (HitMiss token) = true
is_reply_to (Lookup query) HitPass = true
is_reply_to (Lookup query) (Grace view token) = true
is_reply_to (Lookup query) (Wait token) = true
is_reply_to (Lookup query) (Miss token stale) = true
is_reply_to (Lookup query) NoRound = true
is_reply_to (Pick vcl target word) (Picked name) = true
is_reply_to (Insert token object stale) (Stored number) = true
is_reply_to (Insert token object stale) NotOpen = true
is_reply_to (Insert token object stale) StaleGone = true
is_reply_to (Insert token object stale) NotInTime = true
is_reply_to (Insert token object stale) NoRoom = true
is_reply_to (Insert token object stale) Refused = true
is_reply_to (Ban ban) Banned = true
is_reply_to BanList (Bans lines) = true
is_reply_to (Purge key) (Purged count) = true
is_reply_to (Xkey keys soft) (Purged count) = true
is_reply_to (SetHealth backend given) (HealthSet found) = true
is_reply_to (Load source) (Loaded number) = true
is_reply_to (Load source) NameTaken = true
is_reply_to (Switch name) Switched = true
is_reply_to (Switch name) NoVcl = true
is_reply_to (Discard name) Discarded = true
is_reply_to (Discard name) IsActive = true
is_reply_to (Discard name) NoVcl = true
is_reply_to VclList (Vcls lines) = true
is_reply_to (Drop token) Dropped = true
is_reply_to (Drop token) NotOpen = true
is_reply_to End Ended = true
is_reply_to End NoRound = true
is_reply_to call reply = false

-- an exchange that is over has a reply or a fault
abbrev pub is_over : What → Bool
is_over (exchanges.Reply head body) = true
is_over (exchanges.Fault number) = true
is_over exchanges.NoMemory = false

-- what is given answers what is wanted
abbrev pub answers : Want → Given → Bool
answers (Ask call) (Told moment reply) = is_reply_to call reply
answers (Exchange number backend request) (Came got) = is_over got.exchange
answers (Respond text) Sent = true
answers (Await token) Closed = true
answers want given = false

-- A round that stands here may be given this: its start at first, and then what answers what it wants.
pub record IsDue {P : Type 0} (wants : Request → List Given → Want → Type 0) (stands : P → Request → List Given → Type 0) (policy : P) (given : Given) : Type 0 where
  pub request : Request
  pub givens : List Given
  pub stands_at : stands policy request givens
  pub due : ((givens ≡ []) × (moment : ℕ) × (given ≡ Start moment)) ⊎ ((want : Want) × wants request givens want × (answers want given ≡ true))
