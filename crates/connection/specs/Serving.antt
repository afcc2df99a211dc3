-- What a connection came to: its rounds, and how it ended (RFC 9112, section 9).
use Rattle.std.specs.Prelude.{◌≡◌, ◌⊎◌, ◌<◌, ℕ, List, [], ◌∷◌, ◌++◌, length, take, map, Option, Some, None}
use Rattle.std.specs.List.{flat_map}
use Rattle.http_heads.specs.Refusal.{bad_request}
use Rattle.message_reader.specs.declared.stop.Stop.{Stop}
use Rattle.message_reader.specs.declared.stop.Stop.TheVariants as stops
use Rattle.wire.specs.Flow.{Flow, IsOver, Moves, MovesPart}
use Rattle.connection.specs.Requests.{Request, NeverBegins, BeginsRequests}
use Rattle.connection.specs.Reading.{EndsInside}
use Rattle.connection.specs.declared.ended.Answered.{Answered}
use Rattle.connection.specs.declared.ended.Answered.TheVariants as rounds
use Rattle.connection.specs.declared.ended.Ended.{Ended}
use Rattle.connection.specs.declared.ended.Ended.TheVariants.{Closed, ReadFault, WriteFault, BadRequest, HistoryFull, NoMemory}

-- a round: the request, what the link took, and how the round ended
pub record Round : Type 0 where
  pub request : Request
  pub sent : List ℕ
  pub answered : Answered

-- how the connection ends behind a round that ended so, or that it goes on
abbrev pub ending_of : Answered → Option Ended
ending_of rounds.Kept = None
ending_of rounds.Closes = Some Closed
ending_of rounds.WriteFault = Some WriteFault
ending_of rounds.HistoryFull = Some HistoryFull
ending_of rounds.NoMemory = Some NoMemory

-- one round by a responder that does so: what it sent is what the link took, and the link gave nothing
abbrev pub Responds : {S : Type 0} → (S → S → Round → Type 0) → S → S → Option Flow → Option Flow → Request → Answered → Type 0
Responds does old new before after request answered =
    (sent : List ℕ) × Moves before after [] sent × does old new (record { request = request; sent = sent; answered = answered })

-- rounds of a responder that does so, one behind another
abbrev pub Follow : {S : Type 0} → (S → S → Round → Type 0) → S → List Round → S → Type 0
Follow does old [] new = new ≡ old
Follow {S} does old (round ∷ others) new = (mid : S) × does old mid round × Follow does mid others new

-- the connection stays open behind each of them
abbrev pub AllKept : List Round → Type 0
AllKept [] = Unit {0}
AllKept (round ∷ others) = (ending_of round.answered ≡ None) × AllKept others

abbrev pub requests_of : List Round → List Request
requests_of all = map (λ round. round.request) all

abbrev pub sent_of : List Round → List ℕ
sent_of all = flat_map (λ round. round.sent) all

-- What went over a link in these rounds, from bytes that were held: what the link gave, with the held bytes in front, begins
-- with the rounds' requests, and `rest` stands behind them; the link took what the rounds sent, and then `extra`.
pub record Went {S : Type 0} (does : S → S → Round → Type 0) (before after : Option Flow) (held : List ℕ) (old new : S) (all : List Round)
    (rest extra : List ℕ) : Type 0 where
  pub follow : Follow does old all new
  pub read : List ℕ
  pub moves : Moves before after read (sent_of all ++ extra)
  pub requests : BeginsRequests (held ++ read) (requests_of all) rest

-- the connection stays open behind these rounds, and what isn't used yet is held
pub record Goes {S : Type 0} (does : S → S → Round → Type 0) (before after : Option Flow) (held left : List ℕ) (old new : S) : Type 0 where
  pub all : List Round
  pub went : Went does before after held old new all left []
  pub kept : AllKept all

-- the connection ended so behind its last round, and nothing was read or sent behind that
pub record EndsBehind (ended : Ended) (all : List Round) (left rest extra : List ℕ) : Type 0 where
  pub front : List Round
  pub last : Round
  pub split : all ≡ front ++ last ∷ []
  pub kept : AllKept front
  pub is : ending_of last.answered ≡ Some ended
  pub held : left ≡ rest
  pub silent : extra ≡ []

-- no request begins what stands there
abbrev pub IsBad : Option Flow → List ℕ → Type 0
IsBad flow rest = NeverBegins rest ⊎ EndsInside flow rest

-- the connection ended so between requests: the input ended; or what stands there is no request, and was answered so, as far as
-- the link took the answer; or a read failed, or memory was wanting
abbrev pub Stops : Ended → Option Flow → List ℕ → List ℕ → List ℕ → Type 0
Stops Closed after left rest extra = (rest ≡ []) × (left ≡ []) × IsOver after × (extra ≡ [])
Stops BadRequest after left rest extra = IsBad after rest × (extra ≡ bad_request)
Stops WriteFault after left rest extra = IsBad after rest × (n : ℕ) × (n < length bad_request) × (extra ≡ take n bad_request)
Stops ReadFault after left rest extra = extra ≡ []
Stops NoMemory after left rest extra = extra ≡ []
Stops HistoryFull after left rest extra = ⊥

-- a whole connection: its rounds, and how it ended behind the last of them
pub record Served {S : Type 0} (does : S → S → Round → Type 0) (before after : Option Flow) (held left : List ℕ) (old new : S) (ended : Ended) : Type 0 where
  pub all : List Round
  pub rest : List ℕ
  pub extra : List ℕ
  pub went : Went does before after held old new all rest extra
  pub ends : EndsBehind ended all left rest extra ⊎ (AllKept all × Stops ended after left rest extra)

-- what one turn of a connection comes to: it goes on, or has ended so
abbrev pub TurnTold : {S : Type 0} → (S → S → Round → Type 0) → Option Flow → Option Flow → List ℕ → List ℕ → S → S → Option Ended → Type 0
TurnTold does before after held left old new None = Goes does before after held left old new
TurnTold does before after held left old new (Some ended) = Served does before after held left old new ended

-- what is sent where no request was read, and how the connection ends
abbrev pub RefusedWith : Option Flow → Option Flow → Ended → Type 0
RefusedWith before after ended =
    ((ended ≡ BadRequest) × Moves before after [] bad_request) ⊎ ((ended ≡ WriteFault) × MovesPart before after bad_request)

abbrev pub Refused : Stop → Option Flow → Option Flow → Ended → Type 0
Refused stops.Read before after ended = (ended ≡ ReadFault) × Moves before after [] []
Refused stops.NoMemory before after ended = (ended ≡ NoMemory) × Moves before after [] []
Refused stops.Early before after ended = RefusedWith before after ended
Refused stops.BadHead before after ended = RefusedWith before after ended
Refused stops.BadBody before after ended = RefusedWith before after ended
Refused stops.TooLarge before after ended = RefusedWith before after ended
