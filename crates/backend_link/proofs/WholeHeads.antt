-- What a head that was read, or wasn't, says of the text.
use Rattle.std.proofs.Common.{◌≡◌, ◌≢◌, inl, inr, ℕ, ◌-◌, ◌≤◌, Bool, true, false, ◌==◌, List, [], length, take, drop, Ok, Err, refl, subst, arith}
use Rattle.std.proofs.lemmas.Bool.{cases_lt}
use Rattle.std.proofs.lemmas.List.{append-nil, take_all, length-drop}
use Rattle.http_bodies.specs.Framings.{Frames, reply_kind}
use Rattle.http_bodies.specs.declared.framing.Framing.{Framing}
use Rattle.http_heads.specs.Heads.{responses, HasResponse, AnswersResponse}
use Rattle.http_heads.specs.declared.message.HeadError.{HeadError}
use Rattle.http_heads.specs.declared.message.HeadError.TheVariants as heads
use Rattle.http_heads.specs.declared.message.ResponseHead.{ResponseHead}
use Rattle.http_heads.proofs.HeadFacts.{few_lines}
use Rattle.http_heads.proofs.HeadLines.{lines_of_responses}
use Rattle.http_heads.proofs.SentFacts.{one_response}
use Rattle.message_reader.specs.Causes.{head_stop}
use Rattle.message_reader.specs.declared.stop.Stop.{Stop}
use Rattle.message_reader.specs.declared.stop.Stop.TheVariants.{Early, BadHead, BadBody, TooLarge, Read, NoMemory}
use Rattle.backend_link.specs.Replies.{interim_limit, is_interim, is_passed, Behind, IsRefused}
use Rattle.backend_link.specs.Said.{Outcome, NeverHasHead, SaysBody, SaysBehind, SaysAt}
use Rattle.backend_link.proofs.SaidHeads.{never_longer}
use Rattle.backend_link.specs.WholeReplies.{IsBehindAll, IsHeadAt}

stop_is : (error : HeadError) → error ≢ heads.NoMemory → head_stop error ≡ BadHead
stop_is heads.Bad other = refl
stop_is heads.TooLong other = refl
stop_is heads.TooMany other = refl
stop_is heads.NoMemory other = absurd (other refl)

-- a refusal tells that no head will stand there
pub refused : (text : List ℕ) (error : HeadError) → error ≢ heads.NoMemory → AnswersResponse text (Err error) → IsHeadAt text (Err BadHead)
refused text error other answer = subst NeverHasHead (append-nil text) (never_longer text [] error answer (stop_is error other))

-- behind the interim replies stands one that isn't passed over, or no head
pub not_passed : (bytes text : List ℕ) (passed : ℕ) (head : ResponseHead) (count : ℕ) → IsHeadAt text (Ok (head, count)) → is_passed head.status ≡ false → passed ≤ 8
    → Behind passed bytes text → IsBehindAll bytes text passed
not_passed bytes text passed head count there stays few behind = record {
  few = few;
  behind = behind;
  last = λ less other number has. let same = one_response text head other count number there has in subst (λ (h : ResponseHead). is_passed h.status ≡ false) same.0 stays;
}

lacks : (text : List ℕ) (stop : Stop) (head : ResponseHead) (count : ℕ) → IsHeadAt text (Err stop) → HasResponse text head count → ⊥
lacks text Early head count early has = early.1 head count has
lacks text BadHead head count (inl never) has = never.0 head count has
lacks text BadHead head count (inr many) has = few_lines responses lines_of_responses text head count has many
lacks text Read head count there has = there
lacks text BadBody head count there has = there
lacks text TooLarge head count there has = there
lacks text NoMemory head count there has = there

pub no_head : (bytes text : List ℕ) (passed : ℕ) (stop : Stop) → IsHeadAt text (Err stop) → passed ≤ 8 → Behind passed bytes text → IsBehindAll bytes text passed
no_head bytes text passed stop there few behind = record {
  few = few;
  behind = behind;
  last = λ less other number has. absurd (lacks text stop other number there has);
}

-- what is said where there is no head
pub says_none : (to_head : Bool) (text : List ℕ) (passed : ℕ) (stop : Stop) → IsHeadAt text (Err stop) → SaysAt to_head passed text (Err stop)
says_none to_head text passed Early there = inl (there, refl)
says_none to_head text passed BadHead there = inr (inl (there, refl))
says_none to_head text passed Read there = absurd there
says_none to_head text passed BadBody there = absurd there
says_none to_head text passed TooLarge there = absurd there
says_none to_head text passed NoMemory there = absurd there

is_101 : (status : ℕ) → is_interim status ≡ true → is_passed status ≡ false → status ≡ 101
is_101 status interim stays = by_test (status == 101) refl
  where
    by_test : (b : Bool) → (status == 101) ≡ b → status ≡ 101
    by_test true is = grind (arith, is)
    by_test false is =
        let passes : is_passed status ≡ true = rw (interim, is) refl in
        cc

-- an interim reply behind all that are passed over
pub says_refused : (to_head : Bool) (bytes text : List ℕ) (passed : ℕ) (head : ResponseHead) (count : ℕ) → IsBehindAll bytes text passed → HasResponse text head count
    → is_interim head.status ≡ true → SaysAt to_head passed text (Err BadHead)
says_refused to_head bytes text passed head count behind has interim =
    let refused : IsRefused passed text = record {
      head = head;
      count = count;
      has = has;
      interim = interim;
      last = elim (cases_lt passed interim_limit) [
        | inl less ↦ inl (is_101 head.status interim (behind.last less head count has))
        | inr past ↦ inr (omega (arith, past, behind.few))
      ];
    } in
    inr (inr (inl (refused, refl)))

pub says_final : (to_head : Bool) (text : List ℕ) (passed : ℕ) (head : ResponseHead) (count : ℕ) (outcome : Outcome) → HasResponse text head count → is_interim head.status ≡ false
    → SaysBehind to_head text outcome head count → SaysAt to_head passed text outcome
says_final to_head text passed head count outcome has final behind = inr (inr (inr (head, count, record { has = has; final = final }, behind)))

rest_behind : (text : List ℕ) (count : ℕ) → take (length text - count) (drop count text) ≡ drop count text
rest_behind text count = let len = length-drop count text in take_all (length text - count) (drop count text) (omega (arith, len))

-- a body, or none, behind a head whose fields frame it
pub says_framed : (to_head : Bool) (text : List ℕ) (head : ResponseHead) (count : ℕ) (framing : Framing) → Frames (reply_kind head.status to_head) head.fields framing
    → (outcome : Outcome) → SaysBody framing head (take (length text - count) (drop count text)) outcome → SaysBehind to_head text outcome head count
says_framed to_head text head count framing frames outcome says =
    inl (framing, frames, subst (λ (t : List ℕ). SaysBody framing head t outcome) (rest_behind text count) says)
