-- What vcl_deliver and vcl_synth begin with has each part of its class.
use Rattle.std.proofs.Common.{◌≡◌, ℕ, ◌<◌, ◌^◌, inr, List, [], ◌∷◌, ◌++◌, Option, Some, None, refl, arith, append-nil}
use Rattle.std.specs.Prelude.{codes, IfSome, IsTrue}
use Rattle.std.specs.List.{All}
use Rattle.std.specs.Fmt.{decimal}
use Rattle.std.proofs.lemmas.Fmt.{decimal_nonempty}
use Rattle.std.proofs.lemmas.List.Elements.{All-append, All-cons, All-nil, All-push}
use Rattle.std.proofs.lemmas.List.Sums.{AllPass-from_list_all}
use Rattle.httparse.specs.Grammar.{IsToken, AllPass, is_token_byte, is_value_byte, trim_ows}
use Rattle.http_heads.specs.declared.fields.Field.{Field}
use Rattle.http_heads.specs.Fields.{field, appended, without}
use Rattle.http_heads.specs.Printed.{IsPlainField, IsResponseShape}
use Rattle.http_bodies.proofs.PlainFacts.{others_plain, plain_number, number_ink, number_stands, trim_ink, trim_between}
use Rattle.delivery.specs.declared.opening.Numbers.{Numbers}
use Rattle.delivery.specs.Opened.{object_text, numbers_text, opened, opened_synthetic}

varnish_token : IsToken (codes "X-Varnish")
unfolding is_token_byte
varnish_token = (omega arith, AllPass-from_list_all is_token_byte (codes "X-Varnish") refl)

age_token : IsToken (codes "Age")
unfolding is_token_byte
age_token = (omega arith, AllPass-from_list_all is_token_byte (codes "Age") refl)

numbers_stand : (round : ℕ) (object : Option ℕ) → round < 2 ^ 64 → IfSome object (λ n. n < 2 ^ 64) → AllPass is_value_byte (decimal round ++ object_text object)
numbers_stand round None small other = rw (append-nil (decimal round)) (number_stands round small)
numbers_stand round (Some n) small other =
    All-append (λ b. IsTrue (is_value_byte b)) (decimal round) (32 ∷ decimal n) (number_stands round small)
    (All-cons (λ b. IsTrue (is_value_byte b)) 32 (decimal n) refl (number_stands n other))

numbers_trimmed : (round : ℕ) (object : Option ℕ) → round < 2 ^ 64 → IfSome object (λ n. n < 2 ^ 64)
    → trim_ows (decimal round ++ object_text object) ≡ decimal round ++ object_text object
numbers_trimmed round None small other = rw (append-nil (decimal round)) (trim_ink (decimal round) (number_ink round small))
numbers_trimmed round (Some n) small other =
    trim_between (decimal round) (32 ∷ []) (decimal n) (decimal_nonempty round small) (number_ink round small) (decimal_nonempty n other) (number_ink n other)

numbers_plain : (numbers : Numbers) → numbers.round < 2 ^ 64 → IfSome numbers.object (λ n. n < 2 ^ 64)
    → IsPlainField (field (codes "X-Varnish") (numbers_text numbers))
numbers_plain numbers small other = record {
  name = varnish_token;
  value = numbers_stand numbers.round numbers.object small other;
  trimmed = numbers_trimmed numbers.round numbers.object small other;
}

pub opened_shape : (status : ℕ) (reason : List ℕ) (fields : List Field) (numbers : Numbers) (age : ℕ) → status < 1000 → AllPass is_value_byte reason
    → All IsPlainField fields → numbers.round < 2 ^ 64 → IfSome numbers.object (λ n. n < 2 ^ 64) → age < 2 ^ 64
    → IsResponseShape (opened status reason fields numbers age)
opened_shape status reason fields numbers age low stands each small other young = record {
  version = inr refl;
  status = low;
  reason = stands;
  fields = All-push IsPlainField (without (codes "Age") (appended (codes "X-Varnish") (numbers_text numbers) fields)) (field (codes "Age") (decimal age))
      (others_plain (codes "Age") (appended (codes "X-Varnish") (numbers_text numbers) fields)
      (All-push IsPlainField fields (field (codes "X-Varnish") (numbers_text numbers)) each (numbers_plain numbers small other)))
      (plain_number (codes "Age") age young age_token);
}

pub synthetic_shape : (status : ℕ) (reason : List ℕ) (round : ℕ) → status < 1000 → AllPass is_value_byte reason → round < 2 ^ 64
    → IsResponseShape (opened_synthetic status reason round)
synthetic_shape status reason round low stands small = record {
  version = inr refl;
  status = low;
  reason = stands;
  fields = All-push IsPlainField [] (field (codes "X-Varnish") (decimal round)) (All-nil IsPlainField) (plain_number (codes "X-Varnish") round small varnish_token);
}
