-- Heads at the front of longer and longer bytes.
use Rattle.std.proofs.Common.{◌≡◌, inl, inr, ℕ, zero, suc, ◌<◌, IsTrue, List, [], ◌++◌, take, drop, Err, sym, ◌∙◌, ap, subst, arith}
use Rattle.std.proofs.lemmas.Bool.{cases_lt}
use Rattle.std.proofs.lemmas.List.{append_assoc, length-append, take-append-drop}
use Rattle.http_heads.specs.Limits.{head_limit}
use Rattle.http_heads.specs.Heads.{responses, HasResponse, AnswersResponse}
use Rattle.http_heads.specs.declared.message.ResponseHead.{ResponseHead}
use Rattle.http_heads.specs.declared.message.HeadError.{HeadError}
use Rattle.http_heads.specs.declared.message.HeadError.TheVariants as heads
use Rattle.http_heads.proofs.SentFacts.{one_response}
use Rattle.message_reader.proofs.LongerHeads.{many_longer, shorter_head}
use Rattle.message_reader.specs.Causes.{head_stop}
use Rattle.message_reader.specs.declared.stop.Stop.TheVariants.{BadHead}
use Rattle.backend_link.specs.Replies.{is_passed, Behind}
use Rattle.backend_link.specs.Said.{NeverHasHead}

-- bytes that are no head are none whatever follows
pub never_longer : (text more : List ℕ) (error : HeadError) → AnswersResponse text (Err error) → head_stop error ≡ BadHead → NeverHasHead (text ++ more)
never_longer text more heads.Bad told is =
    let joined : (further : List ℕ) → take head_limit text ++ (drop head_limit text ++ further) ≡ text ++ further =
    (λ further. sym (append_assoc (take head_limit text) (drop head_limit text) further) ∙ ap (λ (l : List ℕ). l ++ further) (take-append-drop head_limit text)) in
    inl (
      λ head count has. told.0 (drop head_limit text ++ more) has.tree has.rest (has.reads.0, joined more ∙ has.reads.1),
      λ early.
          let may = early.2 in
          told.0 (drop head_limit text ++ (more ++ may.0)) may.1 [] (may.2.0, joined (more ++ may.0) ∙ sym (append_assoc text more may.0) ∙ may.2.1),
    )
never_longer text more heads.TooLong told is = inl (
  λ head count has. told.1 head count (shorter_head responses text more head count has (omega (arith, has.short, told.0))),
  λ early. omega (arith, early.0, told.0, length-append text more),
)
never_longer text more heads.TooMany told is = inr (many_longer text more told)
never_longer text more heads.NoMemory told is = absurd (cc)

-- ---- interim replies

pub one_behind : (k : ℕ) (input a b : List ℕ) → Behind k input a → Behind k input b → a ≡ b
one_behind zero input a b x y = x ∙ sym y
one_behind (suc k) input a b x y =
    let mids = one_behind k input x.0 y.0 x.3 y.3 in
    let same = one_response x.0 x.1 y.1 x.2 y.2 x.4 (subst (λ (t : List ℕ). HasResponse t y.1 y.2) (sym mids) y.4) in
    x.6 ∙ (ap (λ (n : ℕ). drop n x.0) same.1 ∙ ap (λ (t : List ℕ). drop y.2 t) mids) ∙ sym y.6

-- where more interim replies are passed over, one of them stands here
pub passed_at : (j k : ℕ) (input mid rest : List ℕ) → j < k → Behind j input mid → Behind k input rest
    → (head : ResponseHead) × (count : ℕ) × HasResponse mid head count × IsTrue (is_passed head.status)
passed_at j zero input mid rest less x y = absurd (omega (arith, less))
passed_at j (suc k) input mid rest less x y = elim (cases_lt j k) [
  | inl lower ↦ passed_at j k input mid y.0 lower x y.3
  | inr past ↦
      let is : j ≡ k = omega (arith, less, past) in
      let same : mid ≡ y.0 = one_behind k input mid y.0 (subst (λ (n : ℕ). Behind n input mid) is x) y.3 in
      (y.1, y.2, subst (λ (t : List ℕ). HasResponse t y.1 y.2) (sym same) y.4, y.5)
]
