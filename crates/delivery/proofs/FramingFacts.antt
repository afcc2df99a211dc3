-- What is sent says where its body ends.
use Rattle.std.proofs.Common.{◌≡◌, ℕ, ◌+◌, ◌<◌, ◌^◌, ◌⊎◌, inl, inr, Bool, true, false, ◌||◌, List, length, refl, arith}
use Rattle.std.specs.Prelude.{◌==◌, nat_lt, if◌then◌else◌}
use Rattle.std.proofs.lemmas.Bool.Decides.{nat_tests}
use Rattle.http_heads.specs.declared.fields.Field.{Field}
use Rattle.http_heads.specs.declared.message.RequestHead.{RequestHead}
use Rattle.http_heads.specs.declared.message.ResponseHead.{ResponseHead}
use Rattle.http_bodies.specs.declared.framing.Framing.TheVariants.{Length}
use Rattle.http_bodies.specs.declared.framing.Kind.TheVariants.{Reply, NoBody}
use Rattle.http_bodies.specs.Framings.{Says, reply_kind}
use Rattle.http_bodies.specs.Framed.{of_length}
use Rattle.http_bodies.proofs.FramedFacts.{says_length_of_reply, says_length_closing}
use Rattle.delivery.specs.declared.finishing.Delivery.{Delivery}
use Rattle.delivery.specs.declared.finishing.ResponseBody.{ResponseBody}
use Rattle.delivery.specs.Finished.{is_head, is_confirmed, is_bodiless, asks_to_close, settled, framed, ended, sent_body, sent_head, finished}
use Rattle.delivery.specs.Sent.{IsFramedAsSent}

by_bit : (b : Bool) → (b ≡ true) ⊎ (b ≡ false)
by_bit true = inl refl
by_bit false = inr refl

below : (n k : ℕ) → n < k → nat_lt n k ≡ true
below n k small = grind (arith, nat_tests)

-- the length is all that says where the body ends, whether the connection is closed or not
ended_says : (asked : RequestHead) (len : ℕ) (fields : List Field) → len < 2 ^ 64 → Says Reply (ended asked (of_length len fields)) (Length len)
ended_says asked len fields small = elim (by_bit (asks_to_close asked)) [
  | inl closes ↦ rw closes (says_length_closing fields len small)
  | inr stays ↦ rw stays (says_length_of_reply fields len small)
]

-- ---- what is sent

-- a status that is left is one of a final response still
settled_final : (asked : RequestHead) (conditions : List Field) (head : ResponseHead) → 199 < head.status → 199 < (settled asked conditions head).status
settled_final asked conditions head final = elim (by_bit (is_confirmed asked conditions head)) [
  | inl known ↦ rw known (omega arith)
  | inr other ↦ rw other final
]

at_least : (n k : ℕ) → k < n + 1 → nat_lt n k ≡ false
at_least n k large = grind (arith, nat_tests)

or_false : (a b : Bool) → (a || b) ≡ false → (a ≡ false) × (b ≡ false)
or_false true b e = absurd (cc)
or_false false b e = (refl, e)

-- what is sent of a settled response
module _ (asked : RequestHead) (head : ResponseHead) (body : ResponseBody) (small : length body.text < 2 ^ 64) (final : 199 < head.status) where
  abbrev sent : Delivery
  sent = record { head = sent_head asked body head; body = sent_body asked head.status body.text }

  above : nat_lt 99 head.status ≡ true
  above = below 99 head.status (omega (arith, final))

  not_interim : nat_lt head.status 200 ≡ false
  not_interim = at_least head.status 200 (omega (arith, final))

  or_grouped : (a b c : Bool) → ((a || b) || c) ≡ (a || (b || c))
  or_grouped true b c = refl
  or_grouped false b c = refl

  kind_is : reply_kind head.status (is_head asked) ≡ (if is_head asked || is_bodiless head.status then NoBody else Reply)
  kind_is = rw (above, not_interim, or_grouped (is_head asked) (head.status == 204) (head.status == 304)) refl

  framed_none : (is_head asked || is_bodiless head.status) ≡ true → IsFramedAsSent asked sent
  framed_none none = record { frames = rw (kind_is, none) refl; body = rw none (refl, refl) }

  framed_some : (is_head asked || is_bodiless head.status) ≡ false → IsFramedAsSent asked sent
  framed_some some =
      let both : (is_head asked ≡ false) × (is_bodiless head.status ≡ false) = or_false (is_head asked) (is_bodiless head.status) some in
      let says : Says Reply (ended asked (framed asked head.status body head.fields)) (Length (length body.text)) =
      rw (both.1, both.0) (ended_says asked (length body.text) head.fields small) in
      record { frames = rw (kind_is, some) says; body = rw some (refl, refl) }

  framed_sent : IsFramedAsSent asked sent
  framed_sent = elim (by_bit (is_head asked || is_bodiless head.status)) [ inl none ↦ framed_none none | inr some ↦ framed_some some ]

pub finished_framed : (asked : RequestHead) (conditions : List Field) (head : ResponseHead) (body : ResponseBody) → length body.text < 2 ^ 64 → 199 < head.status
    → IsFramedAsSent asked (finished asked conditions head body)
finished_framed asked conditions head body small final =
    framed_sent asked (settled asked conditions head) body small (settled_final asked conditions head final)
