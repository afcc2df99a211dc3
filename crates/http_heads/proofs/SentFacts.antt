-- What was read, with its fields changed, reads as it is printed.
use Rattle.std.proofs.Common.{◌≡◌, ℕ, zero, suc, ◌+◌, ◌<◌, ◌≤◌, ◌⊎◌, inl, inr, Bool, true, false, not, IsTrue, List, [], ◌∷◌, ◌++◌, length, map, filter, reverse, refl, sym, ◌∙◌, ap, subst, arith}
use Rattle.std.specs.List.{All}
use Rattle.std.specs.Char.{is_ascii_digit, digit_value}
use Rattle.std.specs.Str.Parse.{digits_value}
use Rattle.std.proofs.lemmas.Bool.Decides.{nat_tests}
use Rattle.std.proofs.lemmas.List.{reverse-append, reverse-reverse, append_assoc}
use Rattle.std.proofs.lemmas.List.Elements.{All-map, All-cons, All-nil, All-head, All-tail, All-push}
use Rattle.httparse.specs.Grammar.{Field as FieldTree, IsField, is_value_byte, is_ows, skip_ows, trim_ows, AllPass}
use Rattle.httparse.proofs.TrimLemmas.{AllPass-trim_ows}
use Rattle.httparse.proofs.GrammarLemmas.{request_unique, response_unique}
use Rattle.http_heads.specs.declared.fields.Field.{Field}
use Rattle.http_heads.specs.declared.message.RequestHead.{RequestHead}
use Rattle.http_heads.specs.declared.message.ResponseHead.{ResponseHead}
use Rattle.http_heads.specs.Fields.{is_named, field, without}
use Rattle.http_heads.specs.Heads.{HeadKind, HasHead, HasRequest, HasResponse, requests, responses, field_of}
use Rattle.http_heads.specs.Printed.{IsPlainField, IsRequestShape, IsResponseShape, IsWithinLimits, request_text, response_text}
use Rattle.http_heads.specs.Sent.{Change, changed, changed_by, IsPlainChange, with_fields, with_response_fields}
use Rattle.http_heads.specs.Sent.Change.{Set, Append, Unset}
use Rattle.http_heads.proofs.PrintFacts.{request_reads, response_reads}

-- ---- one head

pub longer_head : {Tree Message : Type 0} → (kind : HeadKind Tree Message) (bytes more : List ℕ) (message : Message) (count : ℕ) → HasHead kind bytes message count
    → HasHead kind (bytes ++ more) message count
longer_head kind bytes more message count has = record {
  tree = has.tree;
  rest = has.rest ++ more;
  reads = (has.reads.0, ap (λ (l : List ℕ). l ++ more) has.reads.1 ∙ append_assoc (kind.print has.tree) has.rest more);
  counted = has.counted;
  short = has.short;
  few = has.few;
  is = has.is;
}

same_tree : {Tree Message : Type 0} → (kind : HeadKind Tree Message) (bytes : List ℕ) (message other : Message) (count number : ℕ)
    (x : HasHead kind bytes message count) (y : HasHead kind bytes other number) → x.tree ≡ y.tree → (message ≡ other) × (count ≡ number)
same_tree kind bytes message other count number x y same =
    (x.is ∙ ap kind.message_of same ∙ sym y.is, x.counted ∙ ap (λ tree. length (kind.print tree)) same ∙ sym y.counted)

pub one_request : (bytes : List ℕ) (message other : RequestHead) (count number : ℕ) → HasRequest bytes message count → HasRequest bytes other number
    → (message ≡ other) × (count ≡ number)
one_request bytes message other count number x y =
    same_tree requests bytes message other count number x y (request_unique bytes x.tree y.tree x.rest y.rest x.reads y.reads).0

pub one_response : (bytes : List ℕ) (message other : ResponseHead) (count number : ℕ) → HasResponse bytes message count → HasResponse bytes other number
    → (message ≡ other) × (count ≡ number)
one_response bytes message other count number x y =
    same_tree responses bytes message other count number x y (response_unique bytes x.tree y.tree x.rest y.rest x.reads y.reads).0

-- ---- what was read is of its class

by_bit : (b : Bool) → (b ≡ true) ⊎ (b ≡ false)
by_bit true = inl refl
by_bit false = inr refl

-- what is left of the front is its end
skipped : (xs : List ℕ) → (d : List ℕ) × (xs ≡ d ++ skip_ows xs)
skipped [] = ([], refl)
skipped (b ∷ xs) = elim (by_bit (is_ows b)) [
  | inl blank ↦
      let rest = skipped xs in
      (b ∷ rest.0, let same : skip_ows (b ∷ xs) ≡ skip_ows xs = rw blank refl in rw same (ap (λ (l : List ℕ). b ∷ l) rest.1))
  | inr other ↦ ([], let same : skip_ows (b ∷ xs) ≡ b ∷ xs = rw other refl in sym same)
]

skipped_length : (xs : List ℕ) → length (skip_ows xs) ≤ length xs
skipped_length [] = omega arith
skipped_length (b ∷ xs) = elim (by_bit (is_ows b)) [
  | inl blank ↦ let same : skip_ows (b ∷ xs) ≡ skip_ows xs = rw blank refl in omega (arith, skipped_length xs, ap length same)
  | inr other ↦ let same : skip_ows (b ∷ xs) ≡ b ∷ xs = rw other refl in omega (arith, ap length same)
]

skip_again : (xs : List ℕ) → skip_ows (skip_ows xs) ≡ skip_ows xs
skip_again [] = refl
skip_again (b ∷ xs) = elim (by_bit (is_ows b)) [
  | inl blank ↦ let same : skip_ows (b ∷ xs) ≡ skip_ows xs = rw blank refl in rw same (skip_again xs)
  | inr other ↦ let same : skip_ows (b ∷ xs) ≡ b ∷ xs = rw other refl in ap skip_ows same
]

-- a front of what begins with no white space begins with none
skip_front : (xs ys : List ℕ) → skip_ows (xs ++ ys) ≡ xs ++ ys → skip_ows xs ≡ xs
skip_front [] ys same = refl
skip_front (b ∷ xs) ys same = elim (by_bit (is_ows b)) [
  | inl blank ↦
      let shorter : skip_ows (b ∷ (xs ++ ys)) ≡ skip_ows (xs ++ ys) = rw blank refl in
      absurd (omega (arith, skipped_length (xs ++ ys), ap length shorter, ap length same))
  | inr other ↦ rw other refl
]

pub trim_again : (xs : List ℕ) → trim_ows (trim_ows xs) ≡ trim_ows xs
unfolding trim_ows
trim_again xs =
    let s = skip_ows xs in
    let r = skip_ows (reverse (skip_ows xs)) in
    let cut = skipped (reverse (skip_ows xs)) in
    let back : skip_ows xs ≡ reverse r ++ reverse cut.0 =
    sym (reverse-reverse (skip_ows xs)) ∙ ap reverse cut.1 ∙ reverse-append cut.0 r in
    let front : skip_ows (reverse r) ≡ reverse r = skip_front (reverse r) (reverse cut.0) (subst (λ (l : List ℕ). skip_ows l ≡ l) back (skip_again xs)) in
    ap (λ (l : List ℕ). reverse (skip_ows (reverse l))) front ∙ ap (λ (l : List ℕ). reverse (skip_ows l)) (reverse-reverse r) ∙ ap reverse (skip_again (reverse (skip_ows xs)))

plain_line : (line : FieldTree) → IsField line → IsPlainField (field_of line)
plain_line line is = record { name = is.name; value = AllPass-trim_ows is_value_byte line.raw is.raw; trimmed = trim_again line.raw }

plain_lines : (lines : List FieldTree) → All IsField lines → All IsPlainField (map field_of lines)
plain_lines lines each = All-map IsPlainField field_of lines (λ k d lt. plain_line _ (each k d lt))

version_of : (minor : ℕ) → minor ≤ 1 → (10 + minor ≡ 10) ⊎ (10 + minor ≡ 11)
version_of minor small = elim (by_size minor small) [
  | inl none ↦ inl (omega (arith, none))
  | inr one ↦ inr (omega (arith, one))
]
  where
    by_size : (minor : ℕ) → minor ≤ 1 → (minor ≡ 0) ⊎ (minor ≡ 1)
    by_size zero small = inl refl
    by_size (suc zero) small = inr refl
    by_size (suc (suc n)) small = absurd (omega (arith, small))

digit_small : (b : ℕ) → is_ascii_digit b ≡ true → digit_value b < 10
digit_small b is = grind (arith, nat_tests)

three_small : (digits : List ℕ) → length digits ≡ 3 → AllPass is_ascii_digit digits → digits_value 10 digits < 1000
three_small [] three each = absurd (omega (arith, three))
three_small (a ∷ []) three each = absurd (omega (arith, three))
three_small (a ∷ b ∷ []) three each = absurd (omega (arith, three))
three_small (a ∷ b ∷ c ∷ []) three each =
    let P : ℕ → Type 0 = λ d. IsTrue (is_ascii_digit d) in
    let first = digit_small a (All-head P a (b ∷ c ∷ []) each) in
    let others = All-tail P a (b ∷ c ∷ []) each in
    let second = digit_small b (All-head P b (c ∷ []) others) in
    let third = digit_small c (All-head P c [] (All-tail P b (c ∷ []) others)) in
    omega (arith, first, second, third)
three_small (a ∷ b ∷ c ∷ d ∷ more) three each = absurd (omega (arith, three))

pub request_shape : (bytes : List ℕ) (message : RequestHead) (count : ℕ) → HasRequest bytes message count → IsRequestShape message
request_shape bytes message count has =
    let head = has.reads.0 in
    let tree = has.tree in
    subst IsRequestShape (sym has.is) (record {
      method = head.method;
      url = head.target;
      url_text = head.target_text;
      version = version_of tree.minor head.minor;
      fields = plain_lines tree.fields head.fields;
    })

pub response_shape : (bytes : List ℕ) (message : ResponseHead) (count : ℕ) → HasResponse bytes message count → IsResponseShape message
response_shape bytes message count has =
    let head = has.reads.0 in
    let tree = has.tree in
    subst IsResponseShape (sym has.is) (record {
      version = version_of tree.minor head.minor;
      status = three_small tree.digits head.digits.0 head.digits.1;
      reason = head.reason;
      fields = plain_lines tree.fields head.fields;
    })

-- ---- changes

others_plain : (test : Field → Bool) (fields : List Field) → All IsPlainField fields → All IsPlainField (filter test fields)
others_plain test [] each = All-nil IsPlainField
others_plain test (f ∷ fields) each =
    let rest = others_plain test fields (All-tail IsPlainField f fields each) in
    elim (by_bit (test f)) [
      | inl kept ↦ rw kept (All-cons IsPlainField f (filter test fields) (All-head IsPlainField f fields each) rest)
      | inr dropped ↦ rw dropped rest
    ]

change_plain : (change : Change) (fields : List Field) → IsPlainChange change → All IsPlainField fields → All IsPlainField (changed_by change fields)
change_plain (Set name value) fields plain each =
    All-push IsPlainField (without name fields) (field name value) (others_plain (λ f. not (is_named name f)) fields each) plain
change_plain (Append name value) fields plain each = All-push IsPlainField fields (field name value) each plain
change_plain (Unset name) fields plain each = others_plain (λ f. not (is_named name f)) fields each

pub changed_plain : (changes : List Change) (fields : List Field) → All IsPlainChange changes → All IsPlainField fields → All IsPlainField (changed changes fields)
changed_plain [] fields plain each = each
changed_plain (change ∷ later) fields plain each =
    changed_plain later (changed_by change fields) (All-tail IsPlainChange change later plain)
    (change_plain change fields (All-head IsPlainChange change later plain) each)

pub request_sent : (bytes : List ℕ) (message : RequestHead) (count : ℕ) (changes : List Change) (more : List ℕ) → HasRequest bytes message count
    → All IsPlainChange changes → IsWithinLimits (with_fields changes message).fields (request_text (with_fields changes message))
    → HasRequest (request_text (with_fields changes message) ++ more) (with_fields changes message) (length (request_text (with_fields changes message)))
request_sent bytes message count changes more has plain limits =
    let shape = request_shape bytes message count has in
    request_reads (with_fields changes message) more
    (record { method = shape.method; url = shape.url; url_text = shape.url_text; version = shape.version; fields = changed_plain changes message.fields plain shape.fields })
    limits

pub response_sent : (bytes : List ℕ) (message : ResponseHead) (count : ℕ) (changes : List Change) (more : List ℕ) → HasResponse bytes message count
    → All IsPlainChange changes → IsWithinLimits (with_response_fields changes message).fields (response_text (with_response_fields changes message))
    → HasResponse (response_text (with_response_fields changes message) ++ more) (with_response_fields changes message)
    (length (response_text (with_response_fields changes message)))
response_sent bytes message count changes more has plain limits =
    let shape = response_shape bytes message count has in
    response_reads (with_response_fields changes message) more
    (record { version = shape.version; status = shape.status; reason = shape.reason; fields = changed_plain changes message.fields plain shape.fields })
    limits
