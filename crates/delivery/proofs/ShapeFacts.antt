-- What is sent keeps each part in its class.
use Rattle.std.proofs.Common.{◌≡◌, ℕ, ◌<◌, ◌^◌, ◌⊎◌, inl, inr, Bool, true, false, List, length, refl, arith}
use Rattle.std.specs.Prelude.{codes}
use Rattle.std.specs.List.{All}
use Rattle.std.proofs.lemmas.List.Elements.{All-push}
use Rattle.std.proofs.lemmas.List.Sums.{AllPass-from_list_all}
use Rattle.httparse.specs.Grammar.{IsToken, is_token_byte, is_value_byte, trim_ows}
use Rattle.http_heads.specs.declared.fields.Field.{Field}
use Rattle.http_heads.specs.declared.message.RequestHead.{RequestHead}
use Rattle.http_heads.specs.declared.message.ResponseHead.{ResponseHead}
use Rattle.http_heads.specs.Fields.{field, without}
use Rattle.http_heads.specs.Printed.{IsPlainField, IsResponseShape}
use Rattle.http_bodies.proofs.PlainFacts.{others_plain, unframed_plain, of_length_plain}
use Rattle.delivery.specs.declared.finishing.ResponseBody.{ResponseBody}
use Rattle.delivery.specs.Finished.{is_confirmed, says_no_length, asks_to_close, settled, framed, ended, sent_head, finished}

by_bit : (b : Bool) → (b ≡ true) ⊎ (b ≡ false)
by_bit true = inl refl
by_bit false = inr refl

connection_token : IsToken (codes "Connection")
unfolding is_token_byte
connection_token = (omega arith, AllPass-from_list_all is_token_byte (codes "Connection") refl)

close_trimmed : trim_ows (codes "close") ≡ codes "close"
unfolding trim_ows
close_trimmed = refl

close_plain : IsPlainField (field (codes "Connection") (codes "close"))
close_plain = record {
  name = connection_token;
  value = AllPass-from_list_all is_value_byte (codes "close") refl;
  trimmed = close_trimmed;
}

framed_plain : (asked : RequestHead) (status : ℕ) (body : ResponseBody) (fields : List Field) → length body.text < 2 ^ 64 → All IsPlainField fields
    → All IsPlainField (framed asked status body fields)
framed_plain asked status body fields small each = elim (by_bit (says_no_length asked status body)) [
  | inl none ↦ rw none (unframed_plain fields each)
  | inr some ↦ rw some (of_length_plain (length body.text) fields small each)
]

ended_plain : (asked : RequestHead) (fields : List Field) → All IsPlainField fields → All IsPlainField (ended asked fields)
ended_plain asked fields each = elim (by_bit (asks_to_close asked)) [
  | inl closes ↦ rw closes (All-push IsPlainField (without (codes "Connection") fields) _ (others_plain (codes "Connection") fields each) close_plain)
  | inr stays ↦ rw stays each
]

settled_shape : (asked : RequestHead) (conditions : List Field) (head : ResponseHead) → IsResponseShape head → IsResponseShape (settled asked conditions head)
settled_shape asked conditions head shape = elim (by_bit (is_confirmed asked conditions head)) [
  | inl known ↦ rw known (record {
    version = shape.version;
    status = omega arith;
    reason = AllPass-from_list_all is_value_byte (codes "Not Modified") refl;
    fields = shape.fields;
  })
  | inr other ↦ rw other shape
]

sent_shape : (asked : RequestHead) (body : ResponseBody) (head : ResponseHead) → length body.text < 2 ^ 64 → IsResponseShape head
    → IsResponseShape (sent_head asked body head)
sent_shape asked body head small shape = record {
  version = inr refl;
  status = shape.status;
  reason = shape.reason;
  fields = ended_plain asked (framed asked head.status body head.fields) (framed_plain asked head.status body head.fields small shape.fields);
}

pub finished_shape : (asked : RequestHead) (conditions : List Field) (head : ResponseHead) (body : ResponseBody) → length body.text < 2 ^ 64 → IsResponseShape head
    → IsResponseShape (finished asked conditions head body).head
finished_shape asked conditions head body small shape =
    sent_shape asked body (settled asked conditions head) small (settled_shape asked conditions head shape)
