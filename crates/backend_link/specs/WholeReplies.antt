-- What all the bytes of a reply and their end come to (RFC 9110, section 15.2; RFC 9112, section 6.3).
use Rattle.std.specs.Prelude.{◌≡◌, ◌<◌, ◌≤◌, ℕ, Bool, false, List, Result, Ok, Err, None}
use Rattle.http_heads.specs.Heads.{HasResponse, AnswersResponse}
use Rattle.http_heads.specs.declared.exchange.Exchange.{Exchange}
use Rattle.http_heads.specs.declared.message.ResponseHead.{ResponseHead}
use Rattle.message_reader.specs.declared.stop.Stop.{Stop}
use Rattle.message_reader.specs.declared.stop.Stop.TheVariants.{Read, Early, BadHead, BadBody, TooLarge, NoMemory}
use Rattle.backend_link.specs.Exchanges.{exchange_of}
use Rattle.backend_link.specs.Replies.{interim_limit, is_passed, Behind}
use Rattle.backend_link.specs.Said.{Outcome, NeverHasHead, Says}

-- for a request that was HEAD or not
abbrev pub IsReplyTo : Bool → List ℕ → Exchange → Type 0
IsReplyTo to_head bytes exchange = (outcome : Outcome) × Says to_head bytes outcome × (exchange ≡ exchange_of outcome)

-- the text stands behind so many interim replies: all that are passed over, which are eight at most
pub record IsBehindAll (bytes text : List ℕ) (passed : ℕ) : Type 0 where
  pub few : passed ≤ interim_limit
  pub behind : Behind passed bytes text
  pub last : passed < interim_limit → (head : ResponseHead) (count : ℕ) → HasResponse text head count → is_passed head.status ≡ false

-- the head at the front of the text; or no head: more bytes could make one, or none
abbrev pub IsHeadAt : List ℕ → Result (ResponseHead × ℕ) Stop → Type 0
IsHeadAt text (Ok found) = HasResponse text found.0 found.1
IsHeadAt text (Err Early) = AnswersResponse text (Ok None)
IsHeadAt text (Err BadHead) = NeverHasHead text
IsHeadAt text (Err Read) = ⊥
IsHeadAt text (Err BadBody) = ⊥
IsHeadAt text (Err TooLarge) = ⊥
IsHeadAt text (Err NoMemory) = ⊥
