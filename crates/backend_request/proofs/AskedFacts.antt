-- What a backend is asked keeps each part in its class, and says where its body ends.
use Rattle.std.proofs.Common.{◌≡◌, ℕ, ◌<◌, ◌^◌, ◌⊎◌, inl, inr, Bool, true, false, List, [], ◌∷◌, length, Option, Some, None, refl, arith}
use Rattle.std.specs.Prelude.{◌==◌, codes, unwrap_or}
use Rattle.std.specs.List.{All}
use Rattle.std.specs.Fmt.{decimal}
use Rattle.std.proofs.lemmas.Bool.Decides.{nat_tests}
use Rattle.std.proofs.lemmas.List.Elements.{All-filter, All-head, All-tail, All-push}
use Rattle.std.proofs.lemmas.List.Sums.{AllPass-from_list_all}
use Rattle.httparse.specs.Grammar.{IsToken, AllPass, is_token_byte, is_value_byte, trim_ows}
use Rattle.http_heads.specs.declared.fields.Field.{Field}
use Rattle.http_heads.specs.declared.message.RequestHead.{RequestHead}
use Rattle.http_heads.specs.Fields.{is_named, first_value, field, appended}
use Rattle.http_heads.specs.Printed.{IsPlainField, IsRequestShape}
use Rattle.http_bodies.specs.Bodies.{IsBody}
use Rattle.http_bodies.specs.Framings.{Frames}
use Rattle.http_bodies.specs.declared.framing.Kind.TheVariants.{Request}
use Rattle.http_bodies.proofs.PlainFacts.{plain_varnish, unframed_plain, of_length_plain}
use Rattle.http_bodies.proofs.FramedFacts.{says_none, says_length_of_request}
use Rattle.backend_request.specs.declared.purpose.Purpose.{Purpose}
use Rattle.backend_request.specs.declared.purpose.Purpose.TheVariants.{Store, Pass}
use Rattle.backend_request.specs.Passed.{stays_in_request, passed_request}
use Rattle.backend_request.specs.Asked.{method_for, with_condition, with_conditions, opened_request, body_for, framed, finished_request}
use Rattle.backend_request.specs.Sent.{framing_of, IsFramedAsSent}

by_bit : (b : Bool) → (b ≡ true) ⊎ (b ≡ false)
by_bit true = inl refl
by_bit false = inr refl

get_token : IsToken (codes "GET")
unfolding is_token_byte
get_token = (omega arith, AllPass-from_list_all is_token_byte (codes "GET") refl)

match_token : IsToken (codes "If-None-Match")
unfolding is_token_byte
match_token = (omega arith, AllPass-from_list_all is_token_byte (codes "If-None-Match") refl)

since_token : IsToken (codes "If-Modified-Since")
unfolding is_token_byte
since_token = (omega arith, AllPass-from_list_all is_token_byte (codes "If-Modified-Since") refl)

-- a value that may stand in a field, as one that was read
abbrev IsPlainValue : List ℕ → Type 0
IsPlainValue value = AllPass is_value_byte value × (trim_ows value ≡ value)

abbrev IsPlainOption : Option (List ℕ) → Type 0
IsPlainOption None = Unit {0}
IsPlainOption (Some value) = IsPlainValue value

first_plain : (name : List ℕ) (fields : List Field) → All IsPlainField fields → IsPlainOption (first_value name fields)
first_plain name [] each = tt
first_plain name (f ∷ fields) each = elim (by_bit (is_named name f)) [
  | inl named ↦ rw named (let own = All-head IsPlainField f fields each in (own.value, own.trimmed))
  | inr other ↦ rw other (first_plain name fields (All-tail IsPlainField f fields each))
]

condition_plain : (name : List ℕ) → IsToken name → (value : Option (List ℕ)) (fields : List Field) → IsPlainOption value → All IsPlainField fields
    → All IsPlainField (with_condition name value fields)
condition_plain name token None fields plain each = each
condition_plain name token (Some value) fields plain each =
    All-push IsPlainField fields (field name value) each (record { name = token; value = plain.0; trimmed = plain.1 })

conditions_plain : (stale : Option (List Field)) (fields : List Field) → All IsPlainField (unwrap_or stale []) → All IsPlainField fields
    → All IsPlainField (with_conditions stale fields)
conditions_plain None fields plain each = each
conditions_plain (Some stale) fields plain each =
    condition_plain (codes "If-Modified-Since") since_token (first_value (codes "last-modified") stale) _ (first_plain (codes "last-modified") stale plain)
    (condition_plain (codes "If-None-Match") match_token (first_value (codes "etag") stale) fields (first_plain (codes "etag") stale plain) each)

method_token : (purpose : Purpose) (method : List ℕ) → IsToken method → IsToken (method_for purpose method)
method_token Store method token = get_token
method_token Pass method token = token

pub opened_shape : (purpose : Purpose) (number : ℕ) (stale : Option (List Field)) (asked : RequestHead) → number < 2 ^ 64 → IsRequestShape asked
    → All IsPlainField (unwrap_or stale []) → IsRequestShape (opened_request purpose number stale asked)
opened_shape purpose number stale asked small shape plain = record {
  method = method_token purpose asked.method shape.method;
  url = shape.url;
  url_text = shape.url_text;
  version = inr refl;
  fields = conditions_plain stale (appended (codes "X-Varnish") (decimal number) (passed_request purpose asked.fields)) plain
      (All-push IsPlainField (passed_request purpose asked.fields) (field (codes "X-Varnish") (decimal number))
      (All-filter (stays_in_request purpose asked.fields) IsPlainField asked.fields shape.fields) (plain_varnish number small));
}

-- ---- bodies

some_length : (n : ℕ) → 0 < n → (n == 0) ≡ false
some_length n some = grind (arith, nat_tests)

framed_plain : (len : ℕ) (fields : List Field) → len < 2 ^ 64 → All IsPlainField fields → All IsPlainField (framed len fields)
framed_plain len fields small each = elim (by_bit (len == 0)) [
  | inl none ↦ rw none (unframed_plain fields each)
  | inr some ↦ rw some (of_length_plain len fields small each)
]

framed_frames : (body : List ℕ) (fields : List Field) → length body < 2 ^ 64 → Frames Request (framed (length body) fields) (framing_of body)
framed_frames [] fields small = says_none fields
framed_frames (byte ∷ more) fields small =
    rw (some_length (length (byte ∷ more)) (omega arith)) (says_length_of_request fields (length (byte ∷ more)) small)

no_longer : (purpose : Purpose) (body : List ℕ) → length body < 2 ^ 64 → length (body_for purpose body) < 2 ^ 64
no_longer Store body small = omega arith
no_longer Pass body small = small

pub finished_shape : (purpose : Purpose) (body : List ℕ) (head : RequestHead) → length body < 2 ^ 64 → IsRequestShape head
    → IsRequestShape (finished_request purpose body head).head
finished_shape purpose body head small shape = record {
  method = shape.method;
  url = shape.url;
  url_text = shape.url_text;
  version = inr refl;
  fields = framed_plain (length (body_for purpose body)) head.fields (no_longer purpose body small) shape.fields;
}

whole_body : (body : List ℕ) → IsBody (framing_of body) body body
whole_body [] = (refl, refl)
whole_body (byte ∷ more) = (refl, refl)

pub finished_framed : (purpose : Purpose) (body : List ℕ) (head : RequestHead) → length body < 2 ^ 64 → IsFramedAsSent (finished_request purpose body head)
finished_framed purpose body head small = record {
  frames = framed_frames (body_for purpose body) head.fields (no_longer purpose body small);
  body = whole_body (body_for purpose body);
}
