-- What an answer tells of the bytes that went over the link.
use Rattle.std.specs.Prelude.{◌≡◌, ◌⊎◌, ◌<◌, ℕ, List, [], ◌∷◌, ◌++◌, length, take, codes, Bool, Result, Ok, Err, Option, Some, None}
use Rattle.std.specs.Str.{bytes_eq}
use Rattle.http_heads.specs.Printed.{request_text}
use Rattle.http_heads.specs.declared.exchange.Backend.{Backend}
use Rattle.http_heads.specs.declared.exchange.BackendRequest.{BackendRequest}
use Rattle.http_heads.specs.declared.exchange.Exchange.{Exchange}
use Rattle.http_heads.specs.declared.exchange.Exchange.TheVariants.{Reply, Fault, NoMemory}
use Rattle.http_heads.specs.declared.message.ResponseHead.{ResponseHead}
use Rattle.message_reader.specs.declared.stop.Stop.{Stop}
use Rattle.message_reader.specs.declared.stop.Stop.TheVariants as stops
use Rattle.wire.specs.Flow.{Flow, Moves, IsFresh}
use Rattle.wire.specs.Telling.{LinkTold, DialerTold, Gains}
use Rattle.wire.specs.declared.peer.Peer.TheVariants.{Dialed}
use Rattle.backend_link.specs.Replies.{BehindInterim, ReplyAt}

-- the request as it is sent
abbrev pub sent_text : BackendRequest → List ℕ
sent_text request = request_text request.head ++ request.body

abbrev pub asks_head : BackendRequest → Bool
asks_head request = bytes_eq request.head.method (codes "HEAD")

-- the answer where the reply wasn't read
abbrev pub answer_of : Stop → Exchange
answer_of stops.Read = Fault 3
answer_of stops.Early = Fault 4
answer_of stops.BadHead = Fault 5
answer_of stops.BadBody = Fault 6
answer_of stops.TooLarge = Fault 7
answer_of stops.NoMemory = NoMemory

abbrev pub exchange_of : Result (ResponseHead × List ℕ) Stop → Exchange
exchange_of (Ok reply) = Reply reply.0 reply.1
exchange_of (Err stop) = answer_of stop

abbrev pub HasReply : BackendRequest → Option Flow → Result (ResponseHead × List ℕ) Stop → List ℕ → Type 0
HasReply request flow result read =
    (rest : List ℕ) × BehindInterim (λ passed text. ReplyAt (asks_head request) flow rest passed result text) read

-- the request wasn't taken whole
pub record IsCutShort (request : BackendRequest) (number : ℕ) (written : List ℕ) : Type 0 where
  pub is : number ≡ 2
  pub count : ℕ
  pub less : count < length (sent_text request)
  pub front : written ≡ take count (sent_text request)

-- it was, and the reply wasn't read
pub record IsUnread (request : BackendRequest) (flow : Option Flow) (number : ℕ) (written read : List ℕ) : Type 0 where
  pub whole : written ≡ sent_text request
  pub stop : Stop
  pub is : Fault number ≡ answer_of stop
  pub told : HasReply request flow (Err stop) read

abbrev pub Answers : BackendRequest → Option Flow → Exchange → List ℕ → List ℕ → Type 0
Answers request flow (Reply head body) written read = (written ≡ sent_text request) × HasReply request flow (Ok (head, body)) read
Answers request flow (Fault number) written read = IsCutShort request number written ⊎ IsUnread request flow number written read
Answers request flow NoMemory written read = Unit {0}

-- what went over the link in a conversation with this answer
pub record Conversed (request : BackendRequest) (before after : Option Flow) (answer : Exchange) : Type 0 where
  pub read : List ℕ
  pub written : List ℕ
  pub moves : Moves before after read written
  pub answers : Answers request after answer written read

-- a write or a read failed only where the link's own count isn't 0
pub record HasCauses (link : LinkTold) (answer : Exchange) : Type 0 where
  pub writes : answer ≡ Fault 2 → 0 < link.write_faults
  pub reads : answer ≡ Fault 3 → 0 < link.read_faults

-- a backend was dialed, and its link was handed back behind a conversation with this answer
pub record HasTalk {L : Type 0} (heard : L → LinkTold) (backend : Backend) (request : BackendRequest) (before after : DialerTold L)
    (answer : Exchange) : Type 0 where
  pub link : L
  pub gained : Gains before after (record { peer = Dialed backend.host backend.port; link = Some link } ∷ [])
  pub start : Option Flow
  pub fresh : IsFresh start
  pub conversed : Conversed request start (heard link).flow answer
  pub causes : HasCauses (heard link) answer

-- the dial failed
pub record HasNoLink {L : Type 0} (backend : Backend) (before after : DialerTold L) (answer : Exchange) : Type 0 where
  pub is : answer ≡ Fault 1
  pub gained : Gains before after (record { peer = Dialed backend.host backend.port; link = None } ∷ [])

-- what an answer tells of the dialer's talks; for want of memory there may be none
abbrev pub Exchanged : {L : Type 0} → (L → LinkTold) → Backend → BackendRequest → DialerTold L → DialerTold L → Exchange → Type 0
Exchanged heard backend request before after answer =
    HasTalk heard backend request before after answer ⊎ HasNoLink backend before after answer ⊎ ((answer ≡ NoMemory) × (after ≡ before))
