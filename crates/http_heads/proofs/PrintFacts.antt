-- What is printed reads as the message.
use Rattle.std.proofs.Common.{◌≡◌, ℕ, ◌+◌, ◌-◌, ◌*◌, ◌/◌, ◌%◌, ◌<◌, ◌≤◌, ◌⊎◌, inl, inr, List, [], ◌∷◌, ◌++◌, length, map, refl, sym, ◌∙◌, ap, subst, arith, Some, Result, Ok, Err, IfOk}
use Rattle.std.specs.Prelude.{IsTrue}
use Rattle.std.specs.List.{flat_map, All, AllByRecursion}
use Rattle.std.specs.Char.{is_ascii_digit, digit_value}
use Rattle.std.specs.Str.Parse.{digits_value}
use Rattle.std.proofs.lemmas.Bool.Decides.{nat_tests}
use Rattle.std.proofs.lemmas.List.{length-map}
use Rattle.std.proofs.lemmas.Str.{digit_value_digit}
use Rattle.std.proofs.lemmas.Simd.{map-map}
use Rattle.std.proofs.lemmas.List.Folds.{flat_map-map}
use Rattle.std.proofs.lemmas.List.Elements.{All-map, All-cons, All-nil, recursion_from_All}
use Rattle.httparse.specs.Grammar.{RequestHead as RequestTree, ResponseHead as ResponseTree, Field as FieldTree, IsField, print_request, print_response, print_field, print_version, is_value_byte, trim_ows, AllPass}
use Rattle.httparse.specs.Grammar.LineEnd.{crlf}
use Rattle.http_heads.specs.declared.fields.Field.{Field}
use Rattle.http_heads.specs.declared.message.RequestHead.{RequestHead}
use Rattle.http_heads.specs.declared.message.ResponseHead.{ResponseHead}
use Rattle.http_heads.specs.Heads.{HasRequest, HasResponse, field_of}
use Rattle.http_heads.specs.Printed.{version_text, three_digits, field_text, request_text, response_text, line_end, IsPlainField, IsRequestShape, IsResponseShape, IsWithinLimits}

-- a field as a line of the grammar
abbrev line_of : Field → FieldTree
line_of f = record { name = f.name; raw = 32 ∷ f.value; end = crlf }

is_line : (f : Field) → IsPlainField f → IsField (line_of f)
is_line f plain = record { name = plain.name; raw = All-cons (λ b. IsTrue (is_value_byte b)) 32 f.value refl plain.value }

lines_of : (fields : List Field) → All IsPlainField fields → All IsField (map line_of fields)
lines_of fields each = All-map IsField line_of fields (λ k d lt. is_line _ (each k d lt))

leading_space : (value : List ℕ) → trim_ows (32 ∷ value) ≡ trim_ows value
unfolding trim_ows
leading_space value = refl

field_again : (f : Field) → IsPlainField f → field_of (line_of f) ≡ f
field_again f plain = λ i. record { name = f.name; value = (leading_space f.value ∙ plain.trimmed) i }

fields_each : (fields : List Field) → AllByRecursion IsPlainField fields → map (λ f. field_of (line_of f)) fields ≡ fields
fields_each [] each = refl
fields_each (f ∷ fields) each = λ i. field_again f each.0 i ∷ fields_each fields each.1 i

fields_again : (fields : List Field) → All IsPlainField fields → map field_of (map line_of fields) ≡ fields
fields_again fields each = map-map field_of line_of fields ∙ fields_each fields (recursion_from_All IsPlainField fields each)

fields_printed : (fields : List Field) → flat_map print_field (map line_of fields) ≡ flat_map field_text fields
fields_printed fields = flat_map-map print_field line_of fields

version_printed : (version : ℕ) → (version ≡ 10) ⊎ (version ≡ 11) → version_text version ≡ print_version (version - 10)
version_printed version is = elim is [
  | inl ten ↦ rw ten refl
  | inr eleven ↦ rw eleven refl
]

version_small : (version : ℕ) → (version ≡ 10) ⊎ (version ≡ 11) → (version - 10 ≤ 1) × (version ≡ 10 + (version - 10))
version_small version is = elim is [
  | inl ten ↦ (omega arith, omega arith)
  | inr eleven ↦ (omega arith, omega arith)
]

-- a request as a tree of the grammar
abbrev tree_of : RequestHead → RequestTree
tree_of m = record { blank = []; method = m.method; target = m.url; minor = m.version - 10; line_end = crlf; fields = map line_of m.fields; last = crlf }

request_printed : (m : RequestHead) → IsRequestShape m → request_text m ≡ print_request (tree_of m)
unfolding request_text print_request
request_printed m is =
    let version = version_printed m.version is.version in
    let fields = fields_printed m.fields in
    λ i. m.method ++ 32 ∷ m.url ++ 32 ∷ version i ++ line_end ++ (sym fields i ++ line_end)

pub request_reads : (m : RequestHead) (more : List ℕ) → IsRequestShape m → IsWithinLimits m.fields (request_text m) → HasRequest (request_text m ++ more) m (length (request_text m))
request_reads m more is limits =
    let printed = request_printed m is in
    let small = version_small m.version is.version in
    let fields = fields_again m.fields is.fields in
    record {
      tree = tree_of m;
      rest = more;
      reads = (
        record {
          method = is.method;
          target = is.url;
          target_text = is.url_text;
          minor = small.0;
          fields = lines_of m.fields is.fields;
        },
        ap (λ (l : List ℕ). l ++ more) printed,
      );
      counted = ap length printed;
      short = limits.short;
      few = omega (arith, limits.few, length-map m.fields line_of);
      is = λ i. record { method = m.method; url = m.url; version = small.1 i; fields = sym fields i };
    }

-- a digit, and its value
digit : (n : ℕ) → n < 10 → digit_value (48 + n) ≡ n
digit n small = let value : digit_value (48 + n) + 48 ≡ 48 + n = digit_value_digit (48 + n) (omega arith, omega arith) in omega (arith, value)

is_digit : (n : ℕ) → n < 10 → IsTrue (is_ascii_digit (48 + n))
is_digit n small = grind (arith, nat_tests)

three_are_digits : (n : ℕ) → AllPass is_ascii_digit (three_digits n)
three_are_digits n =
    let P : ℕ → Type 0 = λ b. IsTrue (is_ascii_digit b) in
    let ones = 48 + n % 10 in
    let tens = 48 + n / 10 % 10 in
    All-cons P (48 + n / 100 % 10) (tens ∷ ones ∷ []) (is_digit (n / 100 % 10) (omega arith))
    (All-cons P tens (ones ∷ []) (is_digit (n / 10 % 10) (omega arith)) (All-cons P ones [] (is_digit (n % 10) (omega arith)) (All-nil P)))

value_of_three : (n : ℕ) → n < 1000 → digits_value 10 (three_digits n) ≡ n
value_of_three n small =
    let hundreds : digit_value (48 + n / 100 % 10) ≡ n / 100 % 10 = digit _ (omega arith) in
    let tens : digit_value (48 + n / 10 % 10) ≡ n / 10 % 10 = digit _ (omega arith) in
    let ones : digit_value (48 + n % 10) ≡ n % 10 = digit _ (omega arith) in
    let all : (digit_value (48 + n / 100 % 10) * 10 + digit_value (48 + n / 10 % 10)) * 10 + digit_value (48 + n % 10) ≡ n =
    rw (hundreds, tens, ones) (omega arith) in
    ap (λ (k : ℕ). (k * 10 + digit_value (48 + n / 10 % 10)) * 10 + digit_value (48 + n % 10)) (omega arith) ∙ all

-- a response as a tree of the grammar
abbrev response_tree : ResponseHead → ResponseTree
response_tree m = record { blank = []; minor = m.version - 10; digits = three_digits m.status; reason = Some m.reason; line_end = crlf; fields = map line_of m.fields; last = crlf }

response_printed : (m : ResponseHead) → IsResponseShape m → response_text m ≡ print_response (response_tree m)
unfolding response_text print_response
response_printed m is =
    let version = version_printed m.version is.version in
    let fields = fields_printed m.fields in
    λ i. version i ++ 32 ∷ three_digits m.status ++ 32 ∷ m.reason ++ line_end ++ (sym fields i ++ line_end)

pub response_reads : (m : ResponseHead) (more : List ℕ) → IsResponseShape m → IsWithinLimits m.fields (response_text m) → HasResponse (response_text m ++ more) m (length (response_text m))
response_reads m more is limits =
    let printed = response_printed m is in
    let small = version_small m.version is.version in
    let fields = fields_again m.fields is.fields in
    let status = value_of_three m.status is.status in
    let three = three_digits m.status in
    record {
      tree = response_tree m;
      rest = more;
      reads = (
        record {
          minor = small.0;
          digits = (refl, three_are_digits m.status);
          reason = is.reason;
          fields = lines_of m.fields is.fields;
        },
        ap (λ (l : List ℕ). l ++ more) printed,
      );
      counted = ap length printed;
      short = limits.short;
      few = omega (arith, limits.few, length-map m.fields line_of);
      is = λ i. record { version = small.1 i; status = sym status i; reason = m.reason; fields = sym fields i };
    }

-- what holds of a text holds of the one that was made equal to it
pub if_ok_at : {E : Type 0} (P : List ℕ → Type 0) (result : Result (List ℕ) E) (text : List ℕ) → IfOk result (λ t. t ≡ text) → P text → IfOk result P
if_ok_at P (Ok t) text is holds = subst P (sym is) holds
if_ok_at P (Err e) text is holds = tt
