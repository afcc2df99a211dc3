-- What is received may be sent on.
use Rattle.std.proofs.Common.{◌≡◌, ℕ, ◌⊎◌, inl, inr, Bool, true, false, not, List, length, filter, Option, Some, None, refl}
use Rattle.std.specs.Prelude.{◌==◌, nat_lt, IfSome}
use Rattle.std.specs.List.{All}
use Rattle.std.proofs.lemmas.List.Elements.{All-append, All-filter}
use Rattle.http_heads.specs.declared.fields.Field.{Field}
use Rattle.http_heads.specs.declared.message.RequestHead.{RequestHead}
use Rattle.http_heads.specs.declared.message.ResponseHead.{ResponseHead}
use Rattle.http_heads.specs.Printed.{IsPlainField, IsResponseShape}
use Rattle.freshness.specs.Merging.{merged, is_lacking}
use Rattle.http_heads.specs.Limits.{set_limit}
use Rattle.cache_law.specs.declared.object.Content.{Content}
use Rattle.backend_request.specs.declared.purpose.Purpose.{Purpose}
use Rattle.backend_request.specs.declared.purpose.Purpose.TheVariants.{Store, Pass}
use Rattle.backend_request.specs.declared.receiving.Received.{Received}
use Rattle.backend_request.specs.Passed.{is_of_connection, passed_reply}
use Rattle.backend_request.specs.Received.{has_condition, plain, confirmed, unasked, received_304, received}
use Rattle.backend_request.specs.Sent.{IsOfClass}

by_bit : (b : Bool) → (b ≡ true) ⊎ (b ≡ false)
by_bit true = inl refl
by_bit false = inr refl

abbrev IsGood : Option Received → Type 0
IsGood result = IfSome result (λ r. IsResponseShape r.head)

kept_plain : (fields : List Field) → All IsPlainField fields → All IsPlainField (passed_reply fields)
kept_plain fields each = All-filter (λ f. not (is_of_connection fields f)) IsPlainField fields each

plain_shape : (head : ResponseHead) (body : List ℕ) → IsResponseShape head → IsResponseShape (plain head body).head
plain_shape head body shape =
    record { version = shape.version; status = shape.status; reason = shape.reason; fields = kept_plain head.fields shape.fields }

confirmed_shape : (old : Content) (head : ResponseHead) → IsOfClass old → IsResponseShape head → IsGood (confirmed old head)
confirmed_shape old head class shape = elim (by_bit (nat_lt set_limit (length (merged old.fields (passed_reply head.fields))))) [
  | inl many ↦ rw many tt
  | inr few ↦ rw few (record {
    version = shape.version;
    status = class.status;
    reason = class.reason;
    fields = All-append IsPlainField (filter (is_lacking (passed_reply head.fields)) old.fields) (passed_reply head.fields)
        (All-filter (is_lacking (passed_reply head.fields)) IsPlainField old.fields class.fields) (kept_plain head.fields shape.fields);
  })
]

unasked_shape : (purpose : Purpose) (head : ResponseHead) (body : List ℕ) → IsResponseShape head → IsGood (unasked purpose head body)
unasked_shape Store head body shape = tt
unasked_shape Pass head body shape = plain_shape head body shape

asked_shape : (asked : List Field) (purpose : Purpose) (stale : Option Content) (head : ResponseHead) (body : List ℕ) → IfSome stale IsOfClass
    → IsResponseShape head → IsGood (received_304 asked purpose stale head body)
asked_shape asked purpose None head body class shape = unasked_shape purpose head body shape
asked_shape asked purpose (Some old) head body class shape = elim (by_bit (has_condition asked)) [
  | inl has ↦ rw has (confirmed_shape old head class shape)
  | inr none ↦ rw none (unasked_shape purpose head body shape)
]

pub received_shape : (asked : RequestHead) (purpose : Purpose) (stale : Option Content) (head : ResponseHead) (body : List ℕ) → IfSome stale IsOfClass
    → IsResponseShape head → IfSome (received asked purpose stale head body) (λ r. IsResponseShape r.head)
received_shape asked purpose stale head body class shape = elim (by_bit (head.status == 304)) [
  | inl same ↦ rw same (asked_shape asked.fields purpose stale head body class shape)
  | inr other ↦ rw other (plain_shape head body shape)
]
