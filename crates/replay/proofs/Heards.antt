-- What an exchange comes to that is heard so is one thing, and not want of memory.
use Rattle.std.proofs.Common.{◌≡◌, Bool, true, refl, sym, ◌∙◌, ap}
use Rattle.http_heads.specs.declared.exchange.Exchange.{Exchange as What}
use Rattle.backend_link.proofs.OneReply.{exchange_once, exchange_is_over}
use Rattle.replay.specs.Policy.{is_over}
use Rattle.replay.specs.declared.event.Heard.{Heard}
use Rattle.replay.specs.declared.event.Heard.TheVariants.{Bytes, Fault}
use Rattle.replay.specs.Scene.{IsHeardAs}

pub heard_once : (to_head : Bool) (heard : Heard) (one other : What) → IsHeardAs to_head heard one → IsHeardAs to_head heard other → one ≡ other
heard_once to_head (Bytes bytes) one other p q = exchange_once to_head bytes one other p q
heard_once to_head Fault one other p q = p ∙ sym q

pub heard_over : (to_head : Bool) (heard : Heard) (exchange : What) → IsHeardAs to_head heard exchange → is_over exchange ≡ true
heard_over to_head (Bytes bytes) exchange p = exchange_is_over to_head bytes exchange p (λ (what : What). is_over what ≡ true) (λ head body. refl) (λ number. refl)
heard_over to_head Fault exchange p = ap is_over p
