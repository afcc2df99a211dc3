-- What the bytes of a backend say: the one answer to a request, where these are all that come.
use Rattle.std.specs.Prelude.{◌≡◌, ◌⊎◌, ℕ, ◌≤◌, Bool, List, length, drop, Result, Ok, Err, Option, Some, None}
use Rattle.http_bodies.specs.Answers.{CanEndWithin, IsBroken}
use Rattle.http_bodies.specs.Bodies.{IsBody, BeginsWith}
use Rattle.http_bodies.specs.Framings.{Frames, reply_kind}
use Rattle.http_bodies.specs.declared.framing.BodyError.{BodyError}
use Rattle.http_bodies.specs.declared.framing.Framing.{Framing}
use Rattle.http_heads.specs.Heads.{AnswersResponse, LacksResponse}
use Rattle.http_heads.specs.Lines.{HasTooManyLines}
use Rattle.http_heads.specs.declared.exchange.Backend.{Backend}
use Rattle.http_heads.specs.declared.exchange.BackendRequest.{BackendRequest}
use Rattle.http_heads.specs.declared.exchange.Exchange.{Exchange}
use Rattle.http_heads.specs.declared.message.ResponseHead.{ResponseHead}
use Rattle.message_reader.specs.Causes.{body_stop}
use Rattle.message_reader.specs.declared.stop.Stop.{Stop}
use Rattle.message_reader.specs.declared.stop.Stop.TheVariants.{Early, BadHead, BadBody}
use Rattle.wire.specs.Flow.{Flow}
use Rattle.wire.specs.Telling.{LinkTold, DialerTold}
use Rattle.backend_link.specs.Exchanges.{exchange_of, asks_head, HasTalk}
use Rattle.backend_link.specs.Replies.{body_limit, Behind, HasFinal, IsRefused, interim_limit}

abbrev pub Outcome : Type 0
Outcome = Result (ResponseHead × List ℕ) Stop

-- no head begins the bytes, whatever follows them
abbrev pub NeverHasHead : List ℕ → Type 0
NeverHasHead bytes = (LacksResponse bytes × ¬ (AnswersResponse bytes (Ok None))) ⊎ HasTooManyLines bytes

-- the body behind a head: it is whole and within the limit; it isn't whole yet; or it breaks
abbrev pub SaysBody : Framing → ResponseHead → List ℕ → Outcome → Type 0
SaysBody framing head bytes outcome =
    ((body : List ℕ) × (rest : List ℕ) × (outcome ≡ Ok (head, body)) × BeginsWith framing bytes body rest × (length body ≤ body_limit))
    ⊎ ((outcome ≡ Err Early) × CanEndWithin (IsBody framing) body_limit bytes
    × ((body rest : List ℕ) → BeginsWith framing bytes body rest → length body ≤ body_limit → ⊥))
    ⊎ ((error : BodyError) × (outcome ≡ Err (body_stop error)) × IsBroken framing body_limit bytes error)

-- what stands behind the final head: a body, or fields that say no framing
abbrev pub SaysBehind : Bool → List ℕ → Outcome → ResponseHead → ℕ → Type 0
SaysBehind to_head bytes outcome head count =
    ((framing : Framing) × Frames (reply_kind head.status to_head) head.fields framing × SaysBody framing head (drop count bytes) outcome)
    ⊎ (((framing : Framing) → ¬ (Frames (reply_kind head.status to_head) head.fields framing)) × (outcome ≡ Err BadBody))

-- what stands behind so many interim replies: a head that isn't whole, no head, an interim reply that isn't passed over, or
-- the final head
abbrev pub SaysAt : Bool → ℕ → List ℕ → Outcome → Type 0
SaysAt to_head passed bytes outcome =
    (AnswersResponse bytes (Ok None) × (outcome ≡ Err Early))
    ⊎ (NeverHasHead bytes × (outcome ≡ Err BadHead))
    ⊎ (IsRefused passed bytes × (outcome ≡ Err BadHead))
    ⊎ ((head : ResponseHead) × (count : ℕ) × HasFinal bytes head count × SaysBehind to_head bytes outcome head count)

-- a reply to a request, which was HEAD or not
abbrev pub Says : Bool → List ℕ → Outcome → Type 0
Says to_head bytes outcome =
    (passed : ℕ) × (text : List ℕ) × (passed ≤ interim_limit) × Behind passed bytes text × SaysAt to_head passed text outcome

-- the answer is the one that the bytes say which the link gives from here to its end, where these are told
abbrev pub SaidBy : BackendRequest → Option Flow → Exchange → Type 0
SaidBy request None answer = Unit {0}
SaidBy request (Some flow) answer = (outcome : Outcome) × (answer ≡ exchange_of outcome) × Says (asks_head request) flow.left outcome

-- a backend was dialed, and its link was handed back behind a conversation whose answer is the one that the link's bytes say
pub record IsSaid {L : Type 0} (heard : L → LinkTold) (backend : Backend) (request : BackendRequest) (before after : DialerTold L)
    (answer : Exchange) : Type 0 where
  pub has : HasTalk heard backend request before after answer
  pub said : SaidBy request has.start answer
