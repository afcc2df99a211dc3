-- The reply behind interim replies (RFC 9110, section 15.2; RFC 9112, section 6.3).
use Rattle.std.specs.Prelude.{◌≡◌, ◌⊎◌, ◌≤◌, ℕ, zero, suc, Bool, true, false, IsTrue, not, ◌&&◌, ◌==◌, nat_lt, List, drop, Result, Ok, Err, Option}
use Rattle.http_bodies.specs.Framings.{Frames, reply_kind}
use Rattle.http_bodies.specs.declared.framing.Framing.{Framing}
use Rattle.http_heads.specs.Heads.{HasResponse, AnswersResponse}
use Rattle.http_heads.specs.declared.message.ResponseHead.{ResponseHead}
use Rattle.message_reader.specs.BodiesTold.{BodyTold}
use Rattle.message_reader.specs.HeadsTold.{HeadTold}
use Rattle.message_reader.specs.declared.stop.Stop.{Stop}
use Rattle.message_reader.specs.declared.stop.Stop.TheVariants.{Read, Early, BadHead, BadBody, TooLarge, NoMemory}
use Rattle.wire.specs.Flow.{Flow}

-- the most interim replies that are passed over
abbrev pub interim_limit : ℕ
interim_limit = 8

-- the most bytes of a reply's body
abbrev pub body_limit : ℕ
body_limit = 8388608

abbrev pub is_interim : ℕ → Bool
is_interim status = nat_lt 99 status && nat_lt status 200

-- 101 changes the protocol, so no reply stands behind it
abbrev pub is_passed : ℕ → Bool
is_passed status = is_interim status && not (status == 101)

-- the input begins with so many interim replies, and `rest` stands behind them
abbrev pub Behind : ℕ → List ℕ → List ℕ → Type 0
Behind zero input rest = rest ≡ input
Behind (suc k) input rest =
    (mid : List ℕ) × (head : ResponseHead) × (count : ℕ) × Behind k input mid × HasResponse mid head count × IsTrue (is_passed head.status) × (rest ≡ drop count mid)

-- a final reply's head
pub record HasFinal (text : List ℕ) (head : ResponseHead) (count : ℕ) : Type 0 where
  pub has : HasResponse text head count
  pub final : is_interim head.status ≡ false

-- an interim reply that isn't passed over: 101, or the ninth
pub record IsRefused (passed : ℕ) (text : List ℕ) : Type 0 where
  pub head : ResponseHead
  pub count : ℕ
  pub has : HasResponse text head count
  pub interim : is_interim head.status ≡ true
  pub last : (head.status ≡ 101) ⊎ (passed ≡ interim_limit)

-- what is told of the final head behind so many interim replies
abbrev pub FinalAt : Option Flow → List ℕ → ℕ → Result ResponseHead Stop → List ℕ → Type 0
FinalAt flow rest passed (Ok head) text = (count : ℕ) × HasFinal text head count × (rest ≡ drop count text)
FinalAt flow rest passed (Err Early) text = HeadTold AnswersResponse flow rest (Err Early) text
FinalAt flow rest passed (Err BadHead) text = HeadTold AnswersResponse flow rest (Err BadHead) text ⊎ IsRefused passed text
FinalAt flow rest passed (Err Read) text = Unit {0}
FinalAt flow rest passed (Err NoMemory) text = Unit {0}
FinalAt flow rest passed (Err BadBody) text = ⊥
FinalAt flow rest passed (Err TooLarge) text = ⊥

-- at most eight interim replies, and this behind them
abbrev pub BehindInterim : (ℕ → List ℕ → Type 0) → List ℕ → Type 0
BehindInterim says input = (passed : ℕ) × (text : List ℕ) × (passed ≤ interim_limit) × Behind passed input text × says passed text

-- a final head, the framing that its fields say, and this of what stands behind it
pub record HasFramed (to_head : Bool) (text : List ℕ) (head : ResponseHead) (says : Framing → List ℕ → Type 0) : Type 0 where
  pub count : ℕ
  pub final : HasFinal text head count
  pub framing : Framing
  pub frames : Frames (reply_kind head.status to_head) head.fields framing
  pub behind : says framing (drop count text)

-- a final head whose fields say no framing
pub record HasNoFraming (to_head : Bool) (text : List ℕ) : Type 0 where
  pub head : ResponseHead
  pub count : ℕ
  pub final : HasFinal text head count
  pub none : (framing : Framing) → ¬ (Frames (reply_kind head.status to_head) head.fields framing)

-- what is told of the whole reply behind so many interim replies
abbrev pub ReplyAt : Bool → Option Flow → List ℕ → ℕ → Result (ResponseHead × List ℕ) Stop → List ℕ → Type 0
ReplyAt to_head flow rest passed (Ok reply) text =
    HasFramed to_head text reply.0 (λ framing behind. BodyTold framing body_limit flow rest (Ok reply.1) behind)
ReplyAt to_head flow rest passed (Err Early) text =
    HeadTold AnswersResponse flow rest (Err Early) text
    ⊎ ((head : ResponseHead) × HasFramed to_head text head (λ framing behind. BodyTold framing body_limit flow rest (Err Early) behind))
ReplyAt to_head flow rest passed (Err BadHead) text = HeadTold AnswersResponse flow rest (Err BadHead) text ⊎ IsRefused passed text
ReplyAt to_head flow rest passed (Err BadBody) text =
    HasNoFraming to_head text
    ⊎ ((head : ResponseHead) × HasFramed to_head text head (λ framing behind. BodyTold framing body_limit flow rest (Err BadBody) behind))
ReplyAt to_head flow rest passed (Err TooLarge) text =
    (head : ResponseHead) × HasFramed to_head text head (λ framing behind. BodyTold framing body_limit flow rest (Err TooLarge) behind)
ReplyAt to_head flow rest passed (Err Read) text = Unit {0}
ReplyAt to_head flow rest passed (Err NoMemory) text = Unit {0}
