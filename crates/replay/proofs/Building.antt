-- Lines and the events that they stand for, one after another.
use Rattle.std.proofs.Common.{◌≡◌, ℕ, Bool, true, false, List, [], ◌∷◌, ◌++◌, sym, ◌∙◌, subst}
use Rattle.std.proofs.lemmas.Bool.{true≢false}
use Rattle.std.specs.List.{AllByRecursion}
use Rattle.http_heads.specs.declared.message.RequestHead.{RequestHead}
use Rattle.seen_request.specs.Sites.{is_of_one_site}
use Rattle.session_text.specs.declared.session.NumberedLine.{NumberedLine}
use Rattle.vmod_host.specs.declared.signature.Stored.{Stored}
use Rattle.replay.specs.declared.policy.Message.TheVariants.{Unreadable}
use Rattle.replay.specs.declared.event.NumberedEvent.{NumberedEvent}
use Rattle.replay.specs.Whole.{IsTheWholeRequest, LacksWholeRequest}
use Rattle.replay.specs.Build.{StandsFor, IsMessage, IsBuiltAs, IsOneMore}

built_push : (stored : List Stored) (lines : List NumberedLine) (events : List NumberedEvent) (line : NumberedLine) (event : NumberedEvent) → IsBuiltAs stored lines events → event.number ≡ line.number → StandsFor stored line.line event.event → IsBuiltAs stored (lines ++ line ∷ []) (events ++ event ∷ [])
built_push stored [] [] line event are number stands = (number, stands, tt)
built_push stored [] (e ∷ es) line event are number stands = absurd are
built_push stored (l ∷ ls) [] line event are number stands = absurd are
built_push stored (l ∷ ls) (e ∷ es) line event are number stands = (are.0, are.1, built_push stored ls es line event are.2 number stands)

-- one line more
pub built_more : (stored : List Stored) (lines : List NumberedLine) (events more : List NumberedEvent) (line : NumberedLine) → IsBuiltAs stored lines events → IsOneMore stored line events more → IsBuiltAs stored (lines ++ line ∷ []) more
built_more stored lines events more line are one =
    subst (λ (es : List NumberedEvent). IsBuiltAs stored (lines ++ line ∷ []) es) (sym one.pushed) (built_push stored lines events line one.event are one.number_is one.stands)

-- what holds of each line holds of the one that stands here
pub of_this : (P : NumberedLine → Type 0) (front : List NumberedLine) (line : NumberedLine) (back : List NumberedLine) → AllByRecursion P (front ++ line ∷ back) → P line
of_this P [] line back all = all.0
of_this P (first ∷ front) line back all = of_this P front line back all.1

pub all_built : (stored : List Stored) (lines front : List NumberedLine) (events : List NumberedEvent) → front ≡ lines → IsBuiltAs stored front events → IsBuiltAs stored lines events
all_built stored lines front events all are = subst (λ (ls : List NumberedLine). IsBuiltAs stored ls events) all are

not_both : (b : Bool) → b ≡ true → b ≡ false → ⊥
not_both b is other = true≢false (sym is ∙ other)

-- the only whole request at the front says two sites, or an empty one; or none stands there
pub other_sites : (text : List ℕ) (head : RequestHead) (body : List ℕ) → IsTheWholeRequest text head body → is_of_one_site head ≡ false → IsMessage text Unreadable
other_sites text head body the refused other rest has =
    not_both (is_of_one_site head) (subst (λ (h : RequestHead). is_of_one_site h ≡ true) (the.1 other rest has.0) has.1) refused

pub no_whole : (text : List ℕ) → LacksWholeRequest text → IsMessage text Unreadable
no_whole text lacks head body has = lacks head body has.0
