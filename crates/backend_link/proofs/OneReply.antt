-- Bytes are one exchange at most, and that is no want of memory.
use Rattle.std.proofs.Common.{◌≡◌, inl, inr, ℕ, Bool, List, Ok, Err, sym, ◌∙◌, ap, subst}
use Rattle.http_bodies.specs.Answers.{IsBroken}
use Rattle.http_bodies.specs.declared.framing.BodyError.{BodyError}
use Rattle.http_bodies.specs.declared.framing.BodyError.TheVariants as bodies
use Rattle.http_bodies.specs.declared.framing.Framing.{Framing}
use Rattle.http_heads.specs.declared.exchange.Exchange.{Exchange}
use Rattle.http_heads.specs.declared.exchange.Exchange.TheVariants as exchanges
use Rattle.http_heads.specs.declared.message.ResponseHead.{ResponseHead}
use Rattle.message_reader.specs.Causes.{body_stop}
use Rattle.message_reader.specs.declared.stop.Stop.TheVariants.{Read, Early, BadHead, BadBody, TooLarge, NoMemory}
use Rattle.backend_link.specs.Exchanges.{exchange_of}
use Rattle.backend_link.specs.Replies.{body_limit}
use Rattle.backend_link.specs.Said.{Outcome, SaysBody, SaysBehind, SaysAt}
use Rattle.backend_link.proofs.SaidFacts.{one_answer}
use Rattle.backend_link.specs.WholeReplies.{IsReplyTo}

pub exchange_once : (to_head : Bool) (bytes : List ℕ) (one other : Exchange) → IsReplyTo to_head bytes one → IsReplyTo to_head bytes other → one ≡ other
exchange_once to_head bytes one other p q = p.2 ∙ (ap exchange_of (one_answer to_head bytes p.0 q.0 p.1 q.1) ∙ sym q.2)

-- ---- no want of memory

unbroken : (framing : Framing) (text : List ℕ) (error : BodyError) → IsBroken framing body_limit text error → body_stop error ≡ NoMemory → ⊥
unbroken framing text bodies.NoMemory (inl breaks) is = breaks.kind
unbroken framing text bodies.NoMemory (inr large) is = let other = large.0 in cc
unbroken framing text bodies.BadLength broken is = cc
unbroken framing text bodies.TwoFramings broken is = cc
unbroken framing text bodies.BadChunk broken is = cc
unbroken framing text bodies.TooLarge broken is = cc
unbroken framing text bodies.Early broken is = cc

body_says : (framing : Framing) (head : ResponseHead) (bytes : List ℕ) → SaysBody framing head bytes (Err NoMemory) → ⊥
body_says framing head bytes (inl x) = let other = x.2 in cc
body_says framing head bytes (inr (inl x)) = let other = x.0 in cc
body_says framing head bytes (inr (inr x)) = unbroken framing bytes x.0 x.2 (let is = x.1 in cc)

at_says : (to_head : Bool) (passed : ℕ) (text : List ℕ) → SaysAt to_head passed text (Err NoMemory) → ⊥
at_says to_head passed text (inl x) = let other = x.1 in cc
at_says to_head passed text (inr (inl x)) = let other = x.1 in cc
at_says to_head passed text (inr (inr (inl x))) = let other = x.1 in cc
at_says to_head passed text (inr (inr (inr x))) = behind x.3
  where
    behind : SaysBehind to_head text (Err NoMemory) x.0 x.1 → ⊥
    behind (inl y) = body_says y.0 x.0 _ y.2
    behind (inr y) = let other = y.1 in cc

over_of : (to_head : Bool) (passed : ℕ) (text : List ℕ) (outcome : Outcome) → SaysAt to_head passed text outcome → (P : Exchange → Type 0)
    → ((head : ResponseHead) (body : List ℕ) → P (exchanges.Reply head body)) → ((number : ℕ) → P (exchanges.Fault number)) → P (exchange_of outcome)
over_of to_head passed text (Ok reply) says P replies faults = replies reply.0 reply.1
over_of to_head passed text (Err Read) says P replies faults = faults 3
over_of to_head passed text (Err Early) says P replies faults = faults 4
over_of to_head passed text (Err BadHead) says P replies faults = faults 5
over_of to_head passed text (Err BadBody) says P replies faults = faults 6
over_of to_head passed text (Err TooLarge) says P replies faults = faults 7
over_of to_head passed text (Err NoMemory) says P replies faults = absurd (at_says to_head passed text says)

pub exchange_is_over : (to_head : Bool) (bytes : List ℕ) (exchange : Exchange) → IsReplyTo to_head bytes exchange → (P : Exchange → Type 0)
    → ((head : ResponseHead) (body : List ℕ) → P (exchanges.Reply head body)) → ((number : ℕ) → P (exchanges.Fault number)) → P exchange
exchange_is_over to_head bytes exchange p P replies faults =
    let said = p.1 in
    subst P (sym p.2) (over_of to_head said.0 said.1 p.0 said.4 P replies faults)

abbrev IsTold : Exchange → Type 0
IsTold exchanges.NoMemory = ⊥
IsTold (exchanges.Reply head body) = Unit {0}
IsTold (exchanges.Fault number) = Unit {0}

pub no_want : (to_head : Bool) (bytes : List ℕ) → IsReplyTo to_head bytes exchanges.NoMemory → ⊥
no_want to_head bytes p = exchange_is_over to_head bytes exchanges.NoMemory p IsTold (λ head body. tt) (λ number. tt)
