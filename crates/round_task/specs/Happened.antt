-- What happened in a round, as one list: what was wanted, each with what was given for it.
use Rattle.std.specs.Prelude.{◌≢◌, ⊤, ℕ, List, [], ◌∷◌, ◌++◌}
use Rattle.http_heads.specs.declared.exchange.Exchange.TheVariants.{NoMemory}
use Rattle.http_heads.specs.declared.exchange.Got.{Got}
use Rattle.cache_law.specs.declared.call.Call.{Call}
use Rattle.cache_law.specs.declared.call.Call.TheVariants as call
use Rattle.cache_law.specs.declared.call.Entry.{Entry}
use Rattle.cache_law.specs.declared.call.Reply.{Reply}
use Rattle.cache_law.specs.declared.call.Reply.TheVariants as reply
use Rattle.cache_law.specs.declared.rounds.Given.{Given}
use Rattle.cache_law.specs.declared.rounds.Given.TheVariants as given
use Rattle.cache_law.specs.Core.{entry_of}
use Rattle.client_task.specs.Laws.{IsAnswer}
use Rattle.delivery.specs.Sent.{delivery_text}
use Rattle.round_task.specs.declared.want.Want.{Want}
use Rattle.round_task.specs.declared.want.Want.TheVariants.{Cache, Exchange, Send, Done}

-- the cache's answer to a call of a round: to Begin, to those of a fetch, and to those of a client
abbrev pub IsReply : Call → Reply → Type 0
IsReply call.Begin (reply.Began number vcl text) = ⊤
IsReply call.Begin other = ⊥
IsReply (call.Pick vcl target word) (reply.Picked name) = ⊤
IsReply (call.Pick vcl target word) other = ⊥
IsReply (call.Insert token object stale) (reply.Stored number) = ⊤
IsReply (call.Insert token object stale) reply.NotInTime = ⊤
IsReply (call.Insert token object stale) reply.NoRoom = ⊤
IsReply (call.Insert token object stale) reply.Refused = ⊤
IsReply (call.Insert token object stale) reply.StaleGone = ⊤
IsReply (call.Insert token object stale) other = ⊥
IsReply call other = IsAnswer call other

-- What is given answers what was wanted. An exchange for which memory was wanting isn't given.
abbrev pub AnswersIt : Want → Given → Type 0
AnswersIt (Cache call) (given.Reply told) = IsReply call told.reply
AnswersIt (Exchange number backend request) (given.Exchange got) = got.exchange ≢ NoMemory
AnswersIt (Send delivery) given.Sent = ⊤
AnswersIt want other = ⊥

-- one thing that happened
pub record Happened : Type 0 where
  pub want : Want
  pub given : Given

-- the givens of these things behind others, newest first
abbrev pub behind : List Given → List Happened → List Given
behind givens [] = givens
behind givens (one ∷ more) = behind (one.given ∷ givens) more

-- Each of these things was wanted after what was given before it, and answered. `wants` is what a round wants after givens.
abbrev pub Follow : (List Given → Want → Type 0) → List Given → List Happened → Type 0
Follow wants givens [] = ⊤
Follow wants givens (one ∷ more) = wants givens one.want × AnswersIt one.want one.given × Follow wants (one.given ∷ givens) more

-- a round as far as it has come, from its Begin on
abbrev pub IsFront : (List Given → Want → Type 0) → List Happened → Type 0
IsFront wants steps = Follow wants [] steps

-- and a whole one, behind which nothing more is wanted
abbrev pub IsWhole : (List Given → Want → Type 0) → List Happened → Type 0
IsWhole wants steps = IsFront wants steps × wants (behind [] steps) Done

-- ---- what a thing that happened leaves: the caller's entry, an exchange with its moment, or the bytes of the response

abbrev pub entries_for : ℕ → Want → Given → List Entry
entries_for caller (Cache call) (given.Reply told) = entry_of caller call told ∷ []
entries_for caller want other = []

abbrev pub exchanges_for : Want → Given → List Got
exchanges_for (Exchange number backend request) (given.Exchange got) = got ∷ []
exchanges_for want other = []

abbrev pub bytes_for : Want → Given → List ℕ
bytes_for (Send delivery) given.Sent = delivery_text delivery
bytes_for want other = []

abbrev pub entries_of : ℕ → List Happened → List Entry
entries_of caller [] = []
entries_of caller (one ∷ more) = entries_for caller one.want one.given ++ entries_of caller more

abbrev pub exchanges_of : List Happened → List Got
exchanges_of [] = []
exchanges_of (one ∷ more) = exchanges_for one.want one.given ++ exchanges_of more

abbrev pub bytes_of : List Happened → List ℕ
bytes_of [] = []
bytes_of (one ∷ more) = bytes_for one.want one.given ++ bytes_of more
